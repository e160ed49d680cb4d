-- The powers of ten up to 10^22 are f64s: 10^a is 5^a times 2^a, and 5^22 is below 2^53. So ten times a power below 10^22 is the next one, exactly.
-- Assumes nothing.
use mathlib.Core.Path.{◌≡◌, refl}
use mathlib.Core.Bool.{false}
use Prim.Native.Nat.{ℕ, zero, suc, ◌+◌, ◌*◌, ◌^◌, ◌≤◌, ◌<◌}
use native.Mathlib.Nat.{mul_assoc, mul-mul-mul_comm, mul-one, one-le-pow, pow-suc, pow-le-pow_right, lt_of_le_of_lt, lt_of_lt_of_le}
use native.Mathlib.Omega.{arith}
use lib.Dec.{lit<}
use lib.Pow.{pow-add, pow_mono, shl_lt}
use lib.Ieee.{binary64, of_bits, of_int, round, mul}
use lib.Ieee.Exact.{HasValue, round_exact}
use Rattle.decimal.specs.Decimal.{power, whole_number}
use Rattle.decimal.proofs.Operations.{mul_whole}

-- ---- exact
pub ten_pos : (a : ℕ) → 0 < 10 ^ a
ten_pos a = one-le-pow a 10 (lit< tt)

five_two : (a : ℕ) → 10 ^ a ≡ 5 ^ a * 2 ^ a
five_two zero = refl
five_two (suc a) = rw (pow-suc 10 a, pow-suc 5 a, pow-suc 2 a, five_two a) (mul-mul-mul_comm (5 ^ a) (2 ^ a) 5 2)

few : (a : ℕ) → a ≤ power → 5 ^ a < 2 ^ 53
few a h = lt_of_le_of_lt (pow-le-pow_right (lit< tt) h) (lit< {m = 5 ^ power} tt)

pub power_exact : (a : ℕ) → a ≤ power → HasValue (whole_number (10 ^ a)) false (10 ^ a) 1
unfolding of_int
power_exact a h =
    let fine : 53 + (a + 1074) ≤ 1074 + 1024 = omega arith in
    round_exact binary64 false (10 ^ a) 1 (5 ^ a) (a + 1074) (lit< tt) (few a h)
    (lt_of_lt_of_le (shl_lt 53 (a + 1074) (few a h)) (pow_mono fine))
    (rw (mul-one, pow-add 2 a 1074, five_two a) (mul_assoc (5 ^ a) (2 ^ a) (2 ^ 1074)))

-- ---- ten by ten

-- the f64s 1 and 10, by their bits
pub one : of_bits binary64 0x3ff0_0000_0000_0000 ≡ whole_number (10 ^ 0)
unfolding of_bits of_int round
one = refl

pub ten : of_bits binary64 0x4024_0000_0000_0000 ≡ whole_number 10
unfolding of_bits of_int round
ten = refl

module _ (i : ℕ) (h : i < power) where
  -- ten times 10^i is the power that follows
  pub times_ten : mul binary64 (whole_number (10 ^ i)) (whole_number 10) ≡ whole_number (10 ^ (i + 1))
  unfolding of_int
  times_ten = rw (pow-add 10 i 1) (mul_whole binary64 _ _ (10 ^ i) 10 (power_exact i (omega arith)) (power_exact 1 (omega arith)))

  -- the product is exact: nothing of 10^i * 10 is rounded away
  pub product_exact : HasValue (mul binary64 (whole_number (10 ^ i)) (whole_number 10)) false (10 ^ i * 10) 1
  product_exact = rw (times_ten, ← pow-add 10 i 1) (power_exact (i + 1) (omega arith))

-- the limit is the last: of ten times 10^22 something is rounded away
pub not_exact : HasValue (mul binary64 (whole_number (10 ^ power)) (whole_number 10)) false (10 ^ power * 10) 1 → ⊥
unfolding mul of_int round
not_exact h = absurd (omega arith)
