-- A list that is laid out is well formed but, perhaps, for the spelling of labels that no declaration has, and its test says so.
-- Assumes nothing.
use Rattle.refusal.specs.declared.Refusal.{Refusal}
use Rattle.std.specs.Prelude.{Result, Ok, Err}
use mathlib.Core.Path.{◌≡◌, refl, ap}
use mathlib.Core.Bool.{true, false}
use mathlib.Core.List.{List}
use Prim.Native.Nat.{ℕ}
use Rattle.std.specs.Result.{is_ok}
use Rattle.refusal.specs.First.{EachBelow}
use Rattle.refusal.proofs.Says.{Says}
use Rattle.record.specs.Decode.{count_of, record_of}
use Rattle.record.specs.Formed.{WellFormed}
use Rattle.record.specs.Laid.{formed_by, LaidOut, laid_out}
use Rattle.record.proofs.Records.{AllSpelled, good_laid, laid_good}
use Rattle.record.proofs.Passed.{listed_iff}

-- nothing is told of what passes
passes_so : (f : Result Unit Refusal) → is_ok f ≡ true → f ≡ Ok tt
passes_so (Ok tt) e = refl
passes_so (Err why) e = cc

module _ (text bs : List ℕ) where
  pub says_laid_out : Says (laid_out text bs) (LaidOut text bs)
  unfolding laid_out
  says_laid_out =
      let w = listed_iff false text bs in
      record { so = λ e. w.0 (passes_so (formed_by false text bs) e); back = λ l. ap is_ok (w.1 l) }

  -- ---- a list that is laid out, and one that is well formed

  pub formed_laid : WellFormed text bs → LaidOut text bs
  formed_laid w = record { short = w.short; few = w.few; whole = w.whole; each = λ i h. good_laid text (record_of bs i) (w.each i h); parted = w.parted }

  pub laid_formed : LaidOut text bs → EachBelow (count_of bs) (λ i. AllSpelled text (record_of bs i)) → WellFormed text bs
  laid_formed l spelled =
      record { short = l.short; few = l.few; whole = l.whole; each = λ i h. laid_good text (record_of bs i) l.short (l.each i h) (spelled i h); parted = l.parted }
