-- The digit by digit root of h * 2^52, for an h of 54 binary digits: what holds after i pairs of digits. Each turn keeps it, since
-- (2q+d)² is 4q² and what the digit d adds. Assumes nothing.
use mathlib.Core.Path.{◌≡◌}
use Prim.Native.Nat.{ℕ, ◌+◌, ◌-◌, ◌*◌, ◌/◌, ◌%◌, ◌^◌, ◌≤◌, ◌<◌}
use native.Mathlib.Nat.{pow-suc, mul_assoc, mul-one}
use native.Mathlib.Numerals.{add-one}
use native.Mathlib.Omega.{arith}
use lib.Pow.{pow_mono}
use borrow.Author.Tests.{lt-ltb, le-ltb}
use Rattle.root.specs.Function.{nearest_root}
use Rattle.root.proofs.Nearest.{Floor, nearest_from}

-- q is the root of the first i pairs of digits of h, rem is what is left over of them, and a the digits that are still to come, at the top of 54 bits
pub record Taken (h q rem a i : ℕ) : Type 0 where
  pub to_come : a < 2 ^ 54
  pub over : rem ≤ q * 2
  pub few : q < 2 ^ i
  pub small : q < 2 ^ 53
  pub turns : i ≤ 53
  pub is : h * 4 ^ i ≡ (q * q + rem) * 2 ^ 54 + a

pub start : (h : ℕ) → h < 2 ^ 54 → Taken h 0 0 h 0
start h l = omega (arith, mul-one h)

module _ (h q rem a i : ℕ) (t : Taken h q rem a i) (l : i < 53) where
  four : h * 4 ^ (i + 1) ≡ h * 4 ^ i * 4
  four = rw (add-one, pow-suc, mul_assoc)

  two : 2 ^ (i + 1) ≡ 2 ^ i * 2
  two = rw (add-one, pow-suc)

  next : 2 ^ (i + 1) ≤ 2 ^ 53
  next = let le : i + 1 ≤ 53 = omega arith in pow_mono le

  -- a turn that sets the next digit of the root
  pub set_digit : q * 4 + 1 ≤ rem * 4 + a / 2 ^ 52 → Taken h (q * 2 + 1) (rem * 4 + a / 2 ^ 52 - (q * 4 + 1)) (a % 2 ^ 52 * 4) (i + 1)
  set_digit g = omega (arith, two, four, next)

  -- and one that leaves it 0
  pub no_digit : rem * 4 + a / 2 ^ 52 < q * 4 + 1 → Taken h (q * 2) (rem * 4 + a / 2 ^ 52) (a % 2 ^ 52 * 4) (i + 1)
  no_digit g = omega (arith, two, four, next)

-- after all 53 pairs
module _ (h q rem a : ℕ) (l : h < 2 ^ 54) (t : Taken h q rem a 53) where
  whole : q * q + rem ≡ h * 2 ^ 52
  whole = omega arith

  floor : Floor q (h * 2 ^ 52)
  floor = omega (arith, whole)

  pub round_up : q < rem → q + 1 ≡ nearest_root (h * 2 ^ 52)
  round_up g = rw (nearest_from q (h * 2 ^ 52) (omega arith) floor, lt-ltb (q * q + q) (h * 2 ^ 52) (omega (arith, whole)))

  pub round_down : rem ≤ q → q ≡ nearest_root (h * 2 ^ 52)
  round_down g = rw (nearest_from q (h * 2 ^ 52) (omega arith) floor, le-ltb (q * q + q) (h * 2 ^ 52) (omega (arith, whole)))
