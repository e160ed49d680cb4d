-- Where a word cannot stand, its form reads nothing. Assumes nothing.
use mathlib.Core.Path.{◌≡◌, refl, sym}
use mathlib.Core.Bool.{Bool, true, false, ◌&&◌}
use mathlib.Core.List.{List}
use Prim.Native.Nat.{ℕ, ◌+◌, ◌≤◌, ◌<◌}
use native.Mathlib.Omega.{arith}
use native.Mathlib.Decide.{dec_le}
use native.Mathlib.Nat.{lt_of_not-le}
use borrow.Author.Tests.{eqb-true, eqb-false}
use lib.Dec.{eqb, lit<}
use lib.ListN.{length, get_or, drop, get_or-append}
use Rattle.text.specs.Text.{starts, word_at, ws_on, word_on, label_on}
use Rattle.text.specs.declared.Stand.{Stand}
use Rattle.text.specs.declared.Stand.TheVariants.{At, Nothing}
use Rattle.text.proofs.Laws.{starts_more, starts_stop, starts_short}
use Rattle.kinds.specs.Kinds.{word_of, padded, begins}
use Rattle.forms.specs.Forms.{no_line, declare_on, keyword_on}
use Rattle.forms.proofs.Kept.{keyword_kept}
use Rattle.forms.proofs.Stands.{kept_nothing}

-- ---- the first two bytes

module _ (w s : List ℕ) (at : ℕ) (long : 2 ≤ length w) (inside : at < length s) where
  second : eqb (get_or w 1 0) (get_or s (at + 1) 0) ≡ false → get_or s at 0 ≡ get_or w 0 0 → starts w (drop at s) ≡ false
  second e same =
      rw (starts_more w s 0 at (omega arith) inside same)
      (elim (dec_le (length s) (at + 1)) [
        | yes h ↦ starts_short w s 1 (at + 1) (omega arith) h
        | no h ↦ starts_stop w s 1 (at + 1) (omega arith) (lt_of_not-le h) (λ g. eqb-false (get_or w 1 0) (get_or s (at + 1) 0) e (sym g))
      ])

  first : (t : Bool) → eqb (get_or w 0 0) (get_or s at 0) ≡ t → (t && eqb (get_or w 1 0) (get_or s (at + 1) 0)) ≡ false → starts w (drop at s) ≡ false
  first true e f = second f (sym (eqb-true (get_or w 0 0) (get_or s at 0) e))
  first false e f = starts_stop w s 0 at (omega arith) inside (λ g. eqb-false (get_or w 0 0) (get_or s at 0) e (sym g))

-- a word whose first two bytes are others does not stand there
pub not_begun : (s : List ℕ) (at k : ℕ) → 2 ≤ length (word_of k) → at < length s → begins (word_of k) (get_or s at 0) (get_or s (at + 1) 0) ≡ false
    → word_on s (At at) (word_of k) ≡ Nothing
unfolding word_on word_at
not_begun s at k l h e =
    let w = word_of k in
    let inside : (i : ℕ) → i < 2 → get_or (padded w) i 0 ≡ get_or w i 0 = λ i b. get_or-append w _ 0 i (omega arith) in
    rw (first w s at l h (eqb (get_or w 0 0) (get_or s at 0)) refl (rw (← inside 0 (lit< tt), ← inside 1 (lit< tt)) e))

-- past the end no word stands
pub past_end : (s w : List ℕ) (at : ℕ) → 2 ≤ length w → length s ≤ at → word_on s (At at) w ≡ Nothing
unfolding word_on word_at
past_end s w at l h = rw (starts_short w s 0 at (omega arith) h)

-- ---- a form whose word does not stand there reads nothing

module _ (s : List ℕ) (stand : Stand) (k : ℕ) (e : word_on s stand (word_of k) ≡ Nothing) where
  pub no_keyword : keyword_on s stand k ≡ no_line Nothing
  unfolding keyword_on
  no_keyword = rw (keyword_kept (kept_nothing s) stand k e)

  pub no_declaration : declare_on s stand k ≡ no_line Nothing
  unfolding declare_on ws_on label_on
  no_declaration = rw e
