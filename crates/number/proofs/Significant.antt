-- The limit on m in docs/FORMAT.md's words: without its leading zeros m has at most n digits exactly if it is below 10^n. Assumes nothing.
use mathlib.Core.Path.{◌≡◌}
use mathlib.Core.Bool.{true, cond}
use mathlib.Core.List.{List, [], ◌∷◌, ◌++◌}
use mathlib.Core.Logic.{◌↔◌}
use Prim.Native.Nat.{ℕ, suc, ◌+◌, ◌-◌, ◌*◌, ◌^◌, ◌≤◌, ◌<◌}
use native.Mathlib.Nat.{pow-succ', pow-le-pow_right, le_trans, lt_of_lt_of_le, lt_of_not-le, not-le_of_lt, mul_assoc, one-mul, one-le-pow, mul-le-mul_right}
use native.Mathlib.Omega.{arith}
use borrow.Author.Tests.{eqb-true, eqb-false}
use lib.Dec.{eqb}
use lib.ListN.{length, drop}
use Rattle.ground.proofs.Pieces.{Each, each_append}
use Rattle.text.proofs.Laws.{run_each, cond_of}
use Rattle.number.proofs.Numerals.{digit}
use Rattle.number.specs.Number.{is_digit, digits_at, numeral, all_digits, part_at}

-- digits without their leading zeros
unfoldable pub significant : List ℕ → List ℕ
significant [] = []
significant (d ∷ ds) = cond (eqb d 48) (significant ds) (d ∷ ds)

-- ---- digits and nothing else

abbrev AllDigits : List ℕ → Type 0
AllDigits = Each (λ d. is_digit d ≡ true)

-- ---- between which powers of ten a number lies

shift : (m k : ℕ) → m * 10 ^ suc k ≡ m * 10 * 10 ^ k
shift m k = rw (pow-succ' 10 k, mul_assoc)

at_least : (m : ℕ) (l : List ℕ) → m * 10 ^ length l ≤ numeral m l
unfolding numeral
at_least m [] = omega arith
at_least m (d ∷ ds) = rw (shift m (length ds)) (le_trans (mul-le-mul_right (10 ^ length ds) (omega arith)) (at_least (m * 10 + (d - 48)) ds))

below : (m : ℕ) (l : List ℕ) → AllDigits l → numeral m l < (m + 1) * 10 ^ length l
unfolding numeral
below m [] h = omega arith
below m (d ∷ ds) h =
    rw (shift (m + 1) (length ds))
    (lt_of_lt_of_le (below (m * 10 + (d - 48)) ds h.1) (mul-le-mul_right (10 ^ length ds) (omega (arith, digit d h.0))))

-- m without its leading zeros has at most n digits exactly if it is below 10^n
few : (l : List ℕ) (n : ℕ) → AllDigits l → (length (significant l) ≤ n) ↔ (numeral 0 l < 10 ^ n)
unfolding significant numeral
few [] n h = ((λ _. one-le-pow n 10 (omega arith)), (λ _. omega arith))
few (d ∷ ds) n h =
    cond_of (λ (l : List ℕ). (length l ≤ n) ↔ (numeral 0 (d ∷ ds) < 10 ^ n)) (eqb d 48) (significant ds) (d ∷ ds)
    (λ e. rw (eqb-true d 48 e) (few ds n h.1))
    -- where the first is no zero, more than n digits write at least 10^n
    (λ e.
    let first : 1 ≤ 0 * 10 + (d - 48) = omega (arith, digit d h.0, eqb-false d 48 e) in
    let long : 10 ^ length ds ≤ numeral 0 (d ∷ ds) = le_trans (rw one-mul at (mul-le-mul_right (10 ^ length ds) first)) (at_least (0 * 10 + (d - 48)) ds) in (
      (λ l. lt_of_lt_of_le (below 0 (d ∷ ds) h) (rw one-mul (pow-le-pow_right (omega arith) l))),
      (λ l. lt_of_not-le (λ f. not-le_of_lt l (le_trans (pow-le-pow_right (omega arith) f) long))),
    ))

-- the digits of a number, before and after its point
pub few_digits : (s : List ℕ) (first n : ℕ) → (length (significant (all_digits s first)) ≤ n) ↔ (numeral 0 (all_digits s first) < 10 ^ n)
unfolding all_digits
few_digits s first n =
    few (digits_at s first ++ digits_at s (part_at s first)) n
    (each_append _ (digits_at s first) (digits_at s (part_at s first)) (run_each is_digit (drop first s)) (run_each is_digit (drop (part_at s first) s)))
