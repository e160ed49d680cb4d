-- The decimal digits of a number read back to it: there are enough of them, and each turn of reading undoes one of writing.
-- Assumes nothing.
use mathlib.Core.Path.{◌≡◌, refl}
use mathlib.Core.List.{List, [], ◌∷◌, ◌++◌}
use Prim.Native.Nat.{ℕ, zero, suc, ◌+◌, ◌-◌, ◌*◌, ◌/◌, ◌%◌, ◌^◌, ◌<◌}
use native.Mathlib.Decide.{dec_le}
use native.Mathlib.Omega.{arith}
use borrow.Author.Count.{below_none, below_more}
use Rattle.print.specs.Print.{sign_of, last_digits, most_digits, width_up_to, width, decimal_of, number_after, digits_number}
use Rattle.print.proofs.Laws.{width_one, width_more}

-- one digit more at the end
number_more : (m : ℕ) (s : List ℕ) (c : ℕ) → number_after m (s ++ c ∷ []) ≡ number_after m s * 10 + (c - 48)
unfolding number_after
number_more m [] c = refl
number_more m (b ∷ s) c = number_more (m * 10 + (b - 48)) s c

-- a digit reads back from its sign
sign_back : (d : ℕ) → d < 10 → sign_of d - 48 ≡ d
sign_back =
    let more = below_more (λ d. sign_of d - 48 ≡ d) in
    more 9 (more 8 (more 7 (more 6 (more 5 (more 4 (more 3 (more 2 (more 1 (more 0 (below_none _) refl) refl) refl) refl) refl) refl) refl) refl) refl) refl

-- as many digits as a number has read back to it
digits_back : (k n : ℕ) → n < 10 ^ k → digits_number (last_digits 10 k n) ≡ n
unfolding last_digits number_after
digits_back zero n h = omega arith
digits_back (suc k) n h =
    rw (number_more, digits_back k (n / 10) (omega arith), sign_back (n % 10) (omega arith)) (omega arith)

-- a number has as many digits as are counted
width_enough : (limit n : ℕ) → n < 10 ^ limit → n < 10 ^ width_up_to limit n
unfolding width_up_to
width_enough zero n h = h
width_enough (suc limit) n h = elim (dec_le 10 n) [
  | yes l ↦ rw (width_more limit n l) (omega (arith, width_enough limit (n / 10) (omega arith)))
  | no f ↦ rw (width_one limit n (omega arith)) (omega arith)
]

pub decimal_back : (n : ℕ) → n < 10 ^ most_digits → digits_number (decimal_of n) ≡ n
unfolding decimal_of
decimal_back n h = digits_back (width n) n (width_enough most_digits n h)
