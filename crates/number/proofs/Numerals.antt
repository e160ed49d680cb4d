-- The number that a run of digits writes, up to a limit. Assumes nothing.
use mathlib.Core.Path.{◌≡◌, refl, sym, ◌∙◌}
use mathlib.Core.Bool.{true}
use mathlib.Core.List.{List, [], ◌∷◌, ◌++◌}
use Prim.Native.Nat.{ℕ, ◌+◌, ◌-◌, ◌*◌, ◌≤◌, ◌<◌}
use native.Mathlib.Nat.{le_refl}
use native.Mathlib.Decide.{dec_le}
use native.Mathlib.Omega.{arith}
use lib.ListN.{length, get_or}
use Rattle.refusal.proofs.Says.{says_and, says_le}
use Rattle.text.specs.Text.{run_to}
use Rattle.text.proofs.Laws.{run_more, run_to_more}
use Rattle.number.specs.Number.{is_digit, digits_at, digits_to, numeral, capped, Run}

pub digit : (b : ℕ) → is_digit b ≡ true → (48 ≤ b) × (b ≤ 57)
digit b e = (says_and (says_le 48 b) (says_le b 57)).so e

-- ---- the number that digits write

pub numeral_append : (m : ℕ) (a b : List ℕ) → numeral m (a ++ b) ≡ numeral (numeral m a) b
unfolding numeral
numeral_append m [] b = refl
numeral_append m (d ∷ ds) b = numeral_append (m * 10 + (d - 48)) ds b

numeral_ge : (m : ℕ) (l : List ℕ) → m ≤ numeral m l
unfolding numeral
numeral_ge m [] = le_refl m
numeral_ge m (d ∷ ds) = omega (arith, numeral_ge (m * 10 + (d - 48)) ds)

-- a limit makes no difference to what is the same from it on
pub capped_same : {A : Type 0} {same : A} (f : ℕ → A) (most m : ℕ) → ((n : ℕ) → most ≤ n → f n ≡ same) → f (capped most m) ≡ f m
capped_same f most m h = elim (dec_le m most) [
  | yes l ↦ (let e : capped most m ≡ m = omega arith in rw e)
  | no l ↦ (let e : capped most m ≡ most = omega arith in rw e (h most (le_refl most) ∙ sym (h m (omega (arith, l)))))
]

-- a limit that is put early makes no difference behind it
pub capped_numeral : (most m : ℕ) (l : List ℕ) → capped most (numeral (capped most m) l) ≡ capped most (numeral m l)
capped_numeral most m l = capped_same {same = most} (λ n. capped most (numeral n l)) most m (λ n h. omega (arith, numeral_ge n l))

-- ---- the loop over the digits: at the place i, with the number m of the digits passed

pub record Left (s : List ℕ) (at start most i m : ℕ) : Type 0 where
  pub small : m ≤ most
  pub next : digits_to s at ≡ digits_to s i
  pub value : capped most (numeral start (digits_at s at)) ≡ capped most (numeral m (digits_at s i))

module _ {s : List ℕ} {at start most i m : ℕ} (k : Left s at start most i m) where
  pub more : i < length s → is_digit (get_or s i 0) ≡ true → Left s at start most (i + 1) (capped most (m * 10 + (get_or s i 0 - 48)))
  unfolding numeral
  more h e = record {
    small = omega arith;
    next = k.next ∙ run_to_more is_digit s i h e;
    value = k.value ∙ rw (run_more is_digit s i h e) (sym (capped_numeral most (m * 10 + (get_or s i 0 - 48)) (digits_at s (i + 1))));
  }

  -- where no digit is left
  pub done : digits_at s i ≡ [] → Run s at start most m i
  unfolding numeral run_to
  done e =
      let none : digits_to s i ≡ i = rw e (omega arith) in
      let same : m ≡ capped most m = omega (arith, k.small) in
      record { value_is = same ∙ sym (rw e at k.value); next_is = sym (k.next ∙ none) }
