-- What holds of the kinds, row by row of the table: one computed test, and what is past the last row has no label. Assumes nothing.
use mathlib.Core.Path.{◌≡◌, refl, ap}
use mathlib.Core.Logic.{◌⊎◌, inl, inr}
use mathlib.Core.Bool.{true, false, not}
use Prim.Native.Nat.{ℕ, ◌≤◌, ◌<◌}
use native.Mathlib.Omega.{arith}
use native.Mathlib.Decide.{dec_lt}
use lib.Dec.{ltb}
use lib.ListN.{length, get_or-eq_default}
use borrow.Author.Tests.{not-true}
use Rattle.refusal.proofs.Says.{Says, says_so, says_and, says_if, says_iff, says_le, says_lt, says_all}
use Rattle.kinds.specs.Kinds.{Kind, Declaration, Rule, Guess, new_arc, last_rule, pair_guess, kinds, no_kind, kind_at, label_places, Known}

-- ---- a row

-- a row has labels exactly if it is not the first, and four at most; a declaration's has one at most, with no point, and a guess's one
abbrev Row : ℕ → Type 0
Row k =
    let n = (kind_at k).labels in
    ((0 < k → 0 < n) × (0 < n → 0 < k)) × ((n ≤ label_places) × ((k ≤ new_arc → (n ≤ 1) × (not (kind_at k).dotted ≡ true)) × (pair_guess ≤ k → n ≤ 1)))

row : (k : ℕ) → k < length kinds → Row k
row =
    (says_all _ Row
    (λ k.
    let n = (kind_at k).labels in
    says_and (says_and (says_if (says_lt 0 k) (says_lt 0 n)) (says_if (says_lt 0 n) (says_lt 0 k)))
    (says_and (says_le n label_places) (says_and (says_if (says_le k new_arc) (says_and (says_le n 1) says_so)) (says_if (says_le pair_guess k) (says_le n 1)))))
    (length kinds)).so refl

-- ---- the kinds

module _ (k : ℕ) where
  -- past the last row there is no label
  past : (k < length kinds → ⊥) → (kind_at k).labels ≡ 0
  past f = ap (λ (r : Kind). r.labels) (get_or-eq_default kinds no_kind {n = k} (omega (arith, f)))

  -- a kind has labels, and what has labels is one
  pub some_label : Known k → 0 < (kind_at k).labels
  some_label h = (row k h.1).0.0 h.0

  pub says_known : Says (ltb 0 (kind_at k).labels) (Known k)
  says_known =
      says_iff (λ h. elim (dec_lt k (length kinds)) [ yes i ↦ ((row k i).0.1 h, i) | no f ↦ absurd (omega (arith, h, past f)) ]) some_label
      (says_lt 0 (kind_at k).labels)

  -- no kind has more labels than there are places, and none from the first guess on has more than one
  pub few_labels : (kind_at k).labels ≤ label_places
  few_labels = elim (dec_lt k (length kinds)) [ yes i ↦ (row k i).1.0 | no f ↦ omega (arith, past f) ]

  pub guess_labels : pair_guess ≤ k → (kind_at k).labels ≤ 1
  guess_labels g = elim (dec_lt k (length kinds)) [ yes i ↦ (row k i).1.1.1 g | no f ↦ omega (arith, past f) ]

  -- a declaration has one label, with no point, and a guess has one
  pub declared_label : Declaration k → ((kind_at k).labels ≡ 1) × ((kind_at k).dotted ≡ false)
  declared_label d =
      let r = (row k (omega (arith, d.1))).1.1.0 d.1 in
      (omega (arith, r.0, some_label (omega (arith, d.0), omega (arith, d.1))), not-true _ r.1)

  pub guess_label : Guess k → (kind_at k).labels ≡ 1
  guess_label g = omega (arith, guess_labels g.0, some_label (omega (arith, g.0), omega (arith, g.1)))

  -- a kind is a declaration's, a rule's or a guess's
  pub one_of_three : Known k → Declaration k ⊎ (Rule k ⊎ Guess k)
  one_of_three h =
      elim (dec_lt new_arc k) [
        | yes b ↦ inr (elim (dec_lt last_rule k) [ yes c ↦ inr (omega (arith, c), omega (arith, h.1)) | no f ↦ inl (omega (arith, b), omega (arith, f)) ])
        | no f ↦ inl (omega (arith, h.0), omega (arith, f))
      ]
