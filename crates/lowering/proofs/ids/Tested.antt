-- The ids of the slots that pass a test, where those stand in a row: slot by slot. Assumes nothing.
use mathlib.Core.Path.{◌≡◌, refl, ap}
use mathlib.Core.Bool.{Bool}
use mathlib.Core.List.{List, [], ◌∷◌, Memᴰ}
use Prim.Native.Nat.{ℕ, zero, suc, ◌+◌, ◌≤◌, ◌<◌, suc-le-suc}
use native.Mathlib.Decide.{dec_lt}
use native.Mathlib.Nat.{zero-lt-suc, add-zero}
use native.Mathlib.Omega.{arith}
use lib.ListN.{length, get_or}
use Rattle.layout.specs.Push.{onward}
use Rattle.layout.proofs.Onward.{length_onward, get_or_onward}
use Rattle.refusal.proofs.Says.{Says, refuted, says_iff}
use Rattle.lowering.specs.Slots.{Slot}
use Rattle.lowering.specs.Rows.{ids_where}
use Rattle.lowering.specs.Demand.{no_slot}
use Rattle.ground.proofs.Pieces.{Each, each_of}

-- those of n slots in a row, where these pass and no other
pub ids_in_row : (p : Slot → Bool) (next a n : ℕ) (xs : List Slot) → a + n ≤ length xs → ((j : ℕ) → j < length xs → Says (p (get_or xs j no_slot)) ((a ≤ j) × (j < a + n)))
    → ids_where p next xs ≡ onward (next + a) n
ids_in_row p next a zero [] h f = refl
ids_in_row p next a (suc n) [] h f = absurd (omega (arith, h))
ids_in_row p next zero zero (s ∷ xs) h f =
    rw (refuted (f 0 (zero-lt-suc (length xs))) (λ q. omega (arith, q.1)))
    (ids_in_row p (suc next) zero zero xs (omega arith)
    (λ j b. says_iff (λ q. absurd (omega (arith, q.1))) (λ q. absurd (omega (arith, q.1))) (f (suc j) (suc-le-suc b))))
ids_in_row p next zero (suc n) (s ∷ xs) h f =
    let rest = ids_in_row p (suc next) zero n xs (omega (arith, h))
    (λ j b. says_iff (λ q. (omega arith, omega (arith, q.1))) (λ q. (omega arith, omega (arith, q.1))) (f (suc j) (suc-le-suc b))) in
    rw ((f 0 (zero-lt-suc (length xs))).back (omega arith, omega arith), add-zero) (ap (λ (l : List ℕ). next ∷ l) (rw add-zero at rest))
ids_in_row p next (suc a) n (s ∷ xs) h f =
    let same : next + suc a ≡ suc next + a = omega arith in
    rw (refuted (f 0 (zero-lt-suc (length xs))) (λ q. omega (arith, q.0)), same)
    (ids_in_row p (suc next) a n xs (omega (arith, h))
    (λ j b. says_iff (λ q. (omega (arith, q.0), omega (arith, q.1))) (λ q. (omega (arith, q.0), omega (arith, q.1))) (f (suc j) (suc-le-suc b))))

-- which ids they are
pub each_onward : (P : ℕ → Type 0) (a n : ℕ) → ((m : ℕ) → a ≤ m → m < a + n → P m) → Each P (onward a n)
each_onward P a n f = each_of P (onward a n) 0 (λ j h. let b : j < n = rw (length_onward a n) at h in rw (get_or_onward a n j b) (f (a + j) (omega arith) (omega arith)))

pub has_onward : (a n m : ℕ) → a ≤ m → m < a + n → Memᴰ m (onward a n)
has_onward a zero m h g = absurd (omega arith)
has_onward a (suc n) m h g = elim (dec_lt a m) [
  | yes b ↦ Memᴰ.tail (has_onward (suc a) n m b (omega arith))
  | no f ↦ (let e : m ≡ a = omega (arith, f) in Memᴰ.head e)
]
