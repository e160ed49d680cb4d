-- The root, as docs/FORMAT.md has it, from bits to bits. A number is counted in units of 2^-1074 (`size_of`). Assumes nothing.
use Rattle.std.specs.Prelude.{◌≡◌, ◌⊎◌, ℕ, ◌+◌, ◌-◌, ◌*◌, ◌/◌, ◌%◌, ◌^◌, ◌≤◌, ◌<◌}
use Rattle.root.specs.Bits.{plus_zero, minus_zero, infinity, the_nan, BelowZero, IsNan, units_of}

-- the root of a finite number x above zero, x having the bits b and the root the bits r; g is e + 1126, so that it is never below zero
pub record RootOf (b r : ℕ) : Type 0 where
  pub m : ℕ
  pub g : ℕ
  pub s : ℕ
  pub n : ℕ
  -- x = m·2^e, both sides in units of 2^-1126; m from 2^52 to 2^53-1
  pub x_is : units_of b * 2 ^ 52 ≡ m * 2 ^ g
  pub m_least : 2 ^ 52 ≤ m
  pub m_most : m ≤ 2 ^ 53 - 1
  -- s is 52 or 53 with e-s even, which is g+s even
  pub s_is : (s ≡ 52) ⊎ (s ≡ 53)
  pub even : (g + s) % 2 ≡ 0
  -- the root is n·2^((e-s)/2), in units of 2^-1074: (e-s)/2 + 1074 is (g+1022-s)/2
  pub root_is : units_of r ≡ n * 2 ^ ((g + 1022 - s) / 2)
  pub finite : r < infinity
  -- (2n-1)² < 4M < (2n+1)², for M = m·2^s
  pub below : (2 * n - 1) * (2 * n - 1) < 4 * (m * 2 ^ s)
  pub above : 4 * (m * 2 ^ s) < (2 * n + 1) * (2 * n + 1)

-- r is the bits of the root of the number with the bits b
pub data IsRoot (b r : ℕ) : Type 0 where
  -- a finite number above zero
  some : plus_zero < b → b < infinity → RootOf b r → IsRoot b r
  -- zero gives itself with its sign, plus infinity itself
  itself : (b ≡ plus_zero) ⊎ ((b ≡ minus_zero) ⊎ (b ≡ infinity)) → r ≡ b → IsRoot b r
  -- below zero, or NaN, gives the bits 7ff8000000000000
  none : BelowZero b ⊎ IsNan b → r ≡ the_nan → IsRoot b r
