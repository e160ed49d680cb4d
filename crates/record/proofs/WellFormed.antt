-- A list passes exactly if it is well formed in docs/FORMAT.md's words: what is told of its entries is told by the kinds of its records.
-- Assumes nothing.
use Rattle.std.specs.Prelude.{Ok}
use mathlib.Core.Path.{◌≡◌, sym, ◌∙◌}
use mathlib.Core.Logic.{◌↔◌}
use mathlib.Core.Bool.{true}
use mathlib.Core.List.{List}
use Prim.Native.Nat.{ℕ}
use Rattle.record.specs.Formed.{WellFormed, entries, formed_of}
use Rattle.record.proofs.Passed.{listed_iff}
use Rattle.record.proofs.Entries.{told_by_kinds}

pub well_formed_iff : (text bs : List ℕ) → (formed_of (entries text bs) ≡ Ok tt) ↔ WellFormed text bs
well_formed_iff text bs =
    let l = listed_iff true text bs in
    let t = told_by_kinds text bs in (λ e. l.0 (sym t ∙ e), λ w. t ∙ l.1 w)
