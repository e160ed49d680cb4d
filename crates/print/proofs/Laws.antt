-- The laws of the digits and of their count. Assumes nothing.
use mathlib.Core.Path.{◌≡◌, refl}
use mathlib.Core.List.{List, ◌++◌}
use Prim.Native.Nat.{ℕ, zero, suc, ◌+◌, ◌-◌, ◌*◌, ◌/◌, ◌%◌, ◌^◌, ◌≤◌, ◌<◌}
use native.Mathlib.Nat.{lt_irrefl}
use native.Mathlib.Omega.{arith}
use lib.Dec.{ltb}
use lib.ListN.{length, take, drop, set, length-take, length-append, length-replicate, replicate-append-replicate}
use lib.Seq.{append_snoc, length-take-le, take_at, drop_at, set_split}
use borrow.Author.Tests.{lt-ltb, le-ltb}
use Rattle.ground.proofs.Lists.{either_le}
use Rattle.print.specs.Print.{sign_of, last_digits, zeros, most_digits, width_up_to, width, decimal_of, digits_of}
use Rattle.print.specs.declared.Digits.{Digits}

-- ---- zeros

-- what is left of zeros
drop_zeros : (n k : ℕ) → k ≤ n → drop k (zeros n) ≡ zeros (n - k)
drop_zeros n k h =
    let e : k + (n - k) ≡ n = omega arith in
    rw e at (rw replicate-append-replicate at (drop_at (zeros k) (zeros (n - k)) k (length-replicate k 0)))

-- ---- digits

-- there are as many digits as are due
digits_length : (base k n : ℕ) → length (last_digits base k n) ≡ k
unfolding last_digits
digits_length base zero n = refl
digits_length base (suc k) n = simp (length-append, digits_length base k (n / base)) (omega arith)

-- the last of the digits that are due goes before those that are there
pub digits_turn :
    (base n i : ℕ) (l : List ℕ) → 0 < i → i ≤ length l
    → last_digits base i n ++ drop i l ≡ last_digits base (i - 1) (n / base) ++ drop (i - 1) (set l (i - 1) (sign_of (n % base)))
unfolding last_digits
digits_turn base n zero l p h = absurd (lt_irrefl 0 p)
digits_turn base n (suc j) l p h =
    let e : suc j - 1 ≡ j = omega arith in
    rw (e, set_split l j, drop_at (take j l) _ j (length-take-le j l (omega arith)), append_snoc)

-- ---- the count of decimal digits

pub width_one : (limit n : ℕ) → n < 10 → width_up_to (suc limit) n ≡ 1
unfolding width_up_to
width_one limit n h = rw (lt-ltb n 10 h)

pub width_more : (limit n : ℕ) → 10 ≤ n → width_up_to (suc limit) n ≡ suc (width_up_to limit (n / 10))
unfolding width_up_to
width_more limit n h = rw (le-ltb n 10 h)

pub width_most : (limit n : ℕ) → width_up_to limit n ≤ limit
unfolding width_up_to
width_most zero n = omega arith
width_most (suc limit) n = either_le (ltb n 10) 1 (suc (width_up_to limit (n / 10))) (suc limit) (omega arith) (omega (arith, width_most limit (n / 10)))

-- a number between two powers of ten, the lower of them the kth, has k digits and one more
pub width_log : (limit n k : ℕ) → k < limit → 10 ^ k ≤ n → n < 10 * 10 ^ k → width_up_to limit n ≡ k + 1
width_log zero n k l f g = absurd (omega arith)
width_log (suc limit) n zero l f g = width_one limit n (omega arith)
width_log (suc limit) n (suc k) l f g = rw (width_more limit n (omega arith), width_log limit (n / 10) k (omega arith) (omega arith) (omega arith)) (omega arith)

-- ---- the field of decimal digits

-- digits of the right count, and what is left of a field of zeros after them
pub field_whole :
    (n k : ℕ) (l : List ℕ) → k ≡ width n → l ≡ last_digits 10 (length (take k (zeros most_digits))) n
    → ◌≡◌ {A = Digits} (record { bytes = l ++ drop k (zeros most_digits); len = k }) (digits_of n)
unfolding digits_of decimal_of
field_whole n k l e d =
    let h : k ≤ most_digits = omega (arith, width_most most_digits n) in
    rw (d, length-take-le k (zeros most_digits), drop_zeros, e)

-- the digits lie in their field, as a caller that takes that part of it asks
pub field_counts : (n : ℕ) (r : Digits) → r ≡ digits_of n → (r.len ≤ length r.bytes) × (r.len ≡ length (take r.len r.bytes))
unfolding digits_of decimal_of
field_counts n r e = rw e (simp (length-append, digits_length) (omega arith), simp (length-take, length-append, digits_length) (omega arith))

-- the digits of a number are the first bytes of their field
pub field_first : (n : ℕ) (r : Digits) → r ≡ digits_of n → take r.len r.bytes ≡ decimal_of n
unfolding digits_of decimal_of
field_first n r e = rw e (take_at (last_digits 10 (width n) n) (zeros (most_digits - width n)) (width n) (digits_length 10 (width n) n))
