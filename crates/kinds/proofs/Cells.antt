-- A cell of the table of kinds is what its kind has there: one computed test of the rows, and past the last row all is as it is at the
-- first number past it. Assumes nothing.
use mathlib.Core.Path.{◌≡◌, refl, sym, ap, ◌∙◌}
use mathlib.Core.Bool.{Bool, true, false, not, cond}
use mathlib.Core.List.{List}
use Prim.Native.Nat.{ℕ, suc, ◌+◌, ◌≤◌, ◌<◌}
use native.Mathlib.Decide.{dec_lt}
use native.Mathlib.Omega.{arith}
use lib.Dec.{eqb}
use lib.ListN.{get_or, get_or-eq_default}
use borrow.Author.Tests.{le-ltb}
use Rattle.refusal.specs.First.{EachBelow}
use Rattle.refusal.proofs.Says.{says_so, says_and, says_eq, says_all}
use Rattle.kinds.specs.Kinds.{label_places, kinds, no_kind, kind_at, rows, labels_column, needs_column, thirds_column, sort_column, spelling_column, with_gap, with_point, table, cell}

-- ---- a row

-- two tests that come out alike
abbrev alike : Bool → Bool → Bool
alike a b = cond a b (not b)

alike_same : (a b : Bool) → alike a b ≡ true → a ≡ b
alike_same true b e = sym e
alike_same false true e = e
alike_same false false e = refl

-- the cells of a kind's row
abbrev Cells : ℕ → Type 0
Cells k =
    let at = cell table k in
    ((at labels_column ≡ (kind_at k).labels) × EachBelow label_places (λ q. at (needs_column + q) ≡ get_or (kind_at k).needs q 0))
    × (((at thirds_column ≡ (kind_at k).thirds) × (at sort_column ≡ (kind_at k).number))
    × ((alike (eqb (at spelling_column) with_gap) (kind_at k).gap ≡ true) × (alike (eqb (at spelling_column) with_point) (kind_at k).dotted ≡ true)))

-- of the rows and of the first number past them
tested : EachBelow (suc rows) Cells
unfolding cell
tested =
    (says_all _ Cells
    (λ k.
    says_and
    (says_and (says_eq (cell table k labels_column) (kind_at k).labels) (says_all _ _ (λ q. says_eq (cell table k (needs_column + q)) (get_or (kind_at k).needs q 0)) label_places))
    (says_and (says_and (says_eq (cell table k thirds_column) (kind_at k).thirds) (says_eq (cell table k sort_column) (kind_at k).number)) (says_and says_so says_so)))
    (suc rows)).so refl

cells : (k : ℕ) → Cells k
unfolding cell
cells k = elim (dec_lt k rows) [ yes h ↦ tested k (omega (arith, h)) | no f ↦ past (omega (arith, f)) ]
  where
    past : rows ≤ k → Cells k
    past h = rw (le-ltb k rows h, get_or-eq_default kinds no_kind h) (tested rows (omega arith))

-- what a look at the lent table finds, where it is the table of kinds
module _ (lent : List (List ℕ)) (k column n : ℕ) (e : lent ≡ table) (found : n ≡ cell lent k column) where
  pub looked : {x : ℕ} → cell table k column ≡ x → n ≡ x
  looked is = found ∙ ap (λ (t : List (List ℕ)). cell t k column) e ∙ is

  -- and whether that is a value
  pub looked_same : (value : ℕ) {b : Bool} → eqb (cell table k column) value ≡ b → eqb n value ≡ b
  looked_same value is = ap (λ (m : ℕ). eqb m value) (looked refl) ∙ is

-- ---- the columns by their names

pub labels_is : (k : ℕ) → cell table k labels_column ≡ (kind_at k).labels
labels_is k = (cells k).0.0

pub needs_is : (k q : ℕ) → q < label_places → cell table k (needs_column + q) ≡ get_or (kind_at k).needs q 0
needs_is k = (cells k).0.1

pub thirds_is : (k : ℕ) → cell table k thirds_column ≡ (kind_at k).thirds
thirds_is k = (cells k).1.0.0

pub number_is : (k : ℕ) → cell table k sort_column ≡ (kind_at k).number
number_is k = (cells k).1.0.1

pub gap_is : (k : ℕ) → eqb (cell table k spelling_column) with_gap ≡ (kind_at k).gap
gap_is k = alike_same _ _ (cells k).1.1.0

pub dotted_is : (k : ℕ) → eqb (cell table k spelling_column) with_point ≡ (kind_at k).dotted
dotted_is k = alike_same _ _ (cells k).1.1.1
