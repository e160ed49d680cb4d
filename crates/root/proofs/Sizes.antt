-- Sizes in units of 2^-1074: bits with the same size are the same, and every finite number above zero has its 53 digits, a number below 2^-1022
-- by moving its first digit up. Assumes nothing.
use mathlib.Core.Path.{◌≡◌, refl}
use Prim.Native.Nat.{ℕ, zero, suc, ◌+◌, ◌-◌, ◌*◌, ◌/◌, ◌%◌, ◌^◌, ◌≤◌, ◌<◌}
use native.Mathlib.Nat.{mul_assoc, mul_comm, mul-le-mul_right, mul-lt-mul_of_pos_right, le-mul_of_pos_right, lt_of_not-le}
use native.Mathlib.Omega.{arith}
use lib.Pow.{pow_pos, pow_mono, pow-add}
use lib.Ieee.{size as digits}
use lib.Ieee.Digits.{size-lt, size-le, size_reaches}
use Rattle.root.specs.Bits.{units_in, units_of, infinity}
use Rattle.root.specs.Steps.{Scaling}
use Rattle.root.proofs.Scale.{scaling_same}

-- ---- from a size to the bits
fields_same : (x t y u : ℕ) → t < 2 ^ 52 → u < 2 ^ 52 → units_in x t ≡ units_in y u → (x ≡ y) × (t ≡ u)
fields_same zero t zero u a b e = (refl, e)
fields_same zero t (suc y) u a b e = omega (arith, le-mul_of_pos_right (2 ^ 52 + u) (pow_pos y))
fields_same (suc x) t zero u a b e = omega (arith, le-mul_of_pos_right (2 ^ 52 + t) (pow_pos x))
fields_same (suc x) t (suc y) u a b e =
    let k = scaling_same {v = units_in (suc x) t} {m = 2 ^ 52 + t} {g = x} {n = 2 ^ 52 + u} {k = y}
    (omega arith) (omega arith) in
    (omega arith, omega arith)

pub size_same : (r s : ℕ) → units_of r ≡ units_of s → r ≡ s
size_same r s e =
    let k = fields_same (r / 2 ^ 52) (r % 2 ^ 52) (s / 2 ^ 52) (s % 2 ^ 52) (omega arith) (omega arith) e in
    omega arith

-- ---- from n * 2^x to the bits
pub size_made : (x n : ℕ) → 2 ^ 52 ≤ n → n < 2 ^ 53 → units_of (suc x * 2 ^ 52 + (n - 2 ^ 52)) ≡ n * 2 ^ x
size_made x n a b =
    let e : (suc x * 2 ^ 52 + (n - 2 ^ 52)) / 2 ^ 52 ≡ suc x = omega arith in
    let f : 2 ^ 52 + (suc x * 2 ^ 52 + (n - 2 ^ 52)) % 2 ^ 52 ≡ n = omega arith in
    rw (e, f)

-- ---- the 53 digits of a number
-- one with its leading digit
pub scaling_normal : (x t : ℕ) → 0 < x → t < 2 ^ 52 → Scaling (units_in x t * 2 ^ 52) (2 ^ 52 + t) (x + 51)
scaling_normal zero t p h = omega arith
scaling_normal (suc x) t p h =
    let e : suc x + 51 ≡ x + 52 = omega arith in
    record { least = omega arith; most = omega arith; value = rw (e, pow-add, mul_assoc) }

-- one of k + 1 digits
pub scaling_small : (t k j : ℕ) → k + j ≡ 52 → 2 ^ k ≤ t → t < 2 ^ suc k → Scaling (t * 2 ^ 52) (t * 2 ^ j) k
scaling_small t k j e a b =
    let f : suc k + j ≡ 53 = omega arith in
    let p : 2 ^ k * 2 ^ j ≡ 2 ^ 52 = rw (← pow-add, e) in
    let q : 2 ^ suc k * 2 ^ j ≡ 2 ^ 53 = rw (← pow-add, f) in
    record {
      least = rw (← p) (mul-le-mul_right (2 ^ j) a);
      most = rw (← q) (mul-lt-mul_of_pos_right b (pow_pos j));
      value = rw (← p, mul_comm (2 ^ k) (2 ^ j), mul_assoc);
    }

-- the digits and the g that a number has
pub record Digits (v : ℕ) : Type 0 where
  pub m : ℕ
  pub g : ℕ
  pub few : g < 2100
  pub is : Scaling v m g

digits_of : (x t : ℕ) → x < 2047 → t < 2 ^ 52 → 0 < x + t → Digits (units_in x t * 2 ^ 52)
digits_of zero t h l p =
    let d = digits t in
    let some : 0 < d = lt_of_not-le (λ (z : d ≤ 0). omega (arith, size-lt t, pow_mono z)) in
    let most : d ≤ 52 = size-le t 52 l in
    let e : suc (d - 1) ≡ d = omega arith in
    record {
      m = t * 2 ^ (53 - d);
      g = d - 1;
      few = omega arith;
      is = scaling_small t (d - 1) (53 - d) (omega arith) (size_reaches t (d - 1) (omega arith)) (rw e (size-lt t));
    }
digits_of (suc x) t h l p = record { m = 2 ^ 52 + t; g = suc x + 51; few = omega arith; is = scaling_normal (suc x) t (omega arith) l }

pub has_digits : (b : ℕ) → 0 < b → b < infinity → Digits (units_of b * 2 ^ 52)
has_digits b p l = digits_of (b / 2 ^ 52) (b % 2 ^ 52) (omega arith) (omega arith) (omega arith)
