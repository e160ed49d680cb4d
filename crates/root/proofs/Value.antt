-- What specs/Bits.antt and specs/Root.antt say, in lib.Ieee's terms: a finite pattern's value is its size in units of 2^-1074, so the root has the
-- value n·2^((e-s)/2); a NaN's pattern is `nan`. Both follow the fields that `of_bits` reads. Assumes nothing.
use mathlib.Core.Path.{◌≡◌, refl, sym, ◌∙◌}
use mathlib.Core.Bool.{Bool, true, false}
use Prim.Native.Nat.{ℕ, zero, suc, ◌+◌, ◌-◌, ◌*◌, ◌/◌, ◌%◌, ◌^◌, ◌<◌}
use native.Mathlib.Nat.{mul-one}
use native.Mathlib.Omega.{arith}
use borrow.Author.Tests.{le-leb, lt-leb, lt-ltb, ne_eqb}
use lib.Ieee.{nan, inf, binary64, of_bits, of_fields}
use lib.Ieee.Bits.{nan_bits_is, nan_bits_above}
use lib.Ieee.Exact.{HasValue, odd_sign}
use Rattle.ground.proofs.Floats.{only_nan}
use Rattle.root.specs.Bits.{minus_zero, infinity, minus_infinity, IsNan, units_in, units_of}
use Rattle.root.specs.Root.{RootOf}

fields : (s : Bool) (x t : ℕ) → x < 2047 → HasValue (of_fields binary64 s x t) s (units_in x t) (2 ^ 1074)
unfolding of_fields
fields s zero t h = rw mul-one at (odd_sign 53 s t 0 1074)
fields s (suc x) t h =
    let f : suc x ≡ 2047 → ⊥ = λ e. omega arith in
    rw (ne_eqb (suc x) 2047 f) (odd_sign 53 s (2 ^ 52 + t) x 1074)

-- a finite number, zero or above
pub value : (b : ℕ) → b < infinity → HasValue (of_bits binary64 b) false (units_of b) (2 ^ 1074)
unfolding of_bits
value b h =
    let e : b % 2 ^ 63 ≡ b = omega arith in
    rw (lt-leb (2 ^ 63) b (omega arith), e) (fields false (b / 2 ^ 52) (b % 2 ^ 52) (omega arith))

-- the root of a finite number above zero
pub root_value : (b r : ℕ) (k : RootOf b r) → HasValue (of_bits binary64 r) false (k.n * 2 ^ ((k.g + 1022 - k.s) / 2)) (2 ^ 1074)
root_value b r k = rw k.root_is at (value r k.finite)

-- a finite number below zero
pub minus_value : (b : ℕ) → minus_zero < b → b < minus_infinity → HasValue (of_bits binary64 b) true (units_of (b - minus_zero)) (2 ^ 1074)
unfolding of_bits
minus_value b p h =
    let e : b % 2 ^ 63 ≡ b - minus_zero = omega arith in
    let f : b % 2 ^ 52 ≡ (b - minus_zero) % 2 ^ 52 = omega arith in
    rw (le-leb (2 ^ 63) b (omega arith), e, f) (fields true ((b - minus_zero) / 2 ^ 52) ((b - minus_zero) % 2 ^ 52) (omega arith))

-- the infinities
pub infinite : of_bits binary64 infinity ≡ inf false
unfolding of_bits of_fields
infinite = refl

pub minus_infinite : of_bits binary64 minus_infinity ≡ inf true
unfolding of_bits of_fields
minus_infinite = refl

-- a NaN
pub no_value : (b : ℕ) → IsNan b → of_bits binary64 b ≡ nan
no_value b h = only_nan (of_bits binary64 b) (sym (nan_bits_is binary64 b) ∙ nan_bits_above binary64 b ∙ lt-ltb infinity (b % 2 ^ 63) h)
