-- Within the limits both operands are exact, so that the one operation rounds the exact value; past the limits nothing is carried; a zero keeps its sign.
-- Assumes nothing.
use mathlib.Core.Path.{◌≡◌, refl, sym, ap, ◌∙◌, subst}
use mathlib.Core.Bool.{Bool, true, false, not, cond, and-false}
use Prim.Native.Nat.{ℕ, ◌*◌, ◌^◌, ◌≤◌, ◌<◌}
use native.Mathlib.Nat.{zero-mul, zero-lt-suc}
use native.Mathlib.Omega.{arith}
use borrow.Author.Tests.{le-ltb, le-leb, lt-leb}
use lib.Dec.{T, ltb, leb, ltb→lt, leb→le}
use lib.Ieee.{Float, binary64, round, of_int, to_bits, is_nan}
use lib.Ieee.Exact.{HasValue}
use lib.Ieee.Fits.{and_l, and_r}
use lib.Ieee.Back.{round_whole}
use lib.Ieee.Scale.{round_same}
use Rattle.decimal.specs.declared.Scale.{Scale}
use Rattle.decimal.specs.declared.Scale.TheVariants.{Times, Over}
use Rattle.std.specs.Prelude.{Some, None}
use Rattle.decimal.specs.Decimal.{limit, power, power_of, fits, whole_number, signed, value_of, operated, Made, OneOperation, carried}
use Rattle.decimal.proofs.Operations.{mul_whole, div_whole, neg_round, round_number}
use Rattle.decimal.proofs.Powers.{ten_pos, power_exact}

-- ---- the limits
module _ (m : ℕ) (k : Scale) where
  pub fits_digits : fits m k ≡ true → m < limit
  fits_digits e = ltb→lt m limit (and_l (ltb m limit) (leb (power_of k) power) (subst T (sym e) tt))

  pub fits_power : fits m k ≡ true → power_of k ≤ power
  fits_power e = leb→le (power_of k) power (and_r (ltb m limit) (leb (power_of k) power) (subst T (sym e) tt))

-- ---- the one operation
pub whole_exact : (m : ℕ) → m < limit → HasValue (whole_number m) false m 1
unfolding of_int
whole_exact m h = round_whole binary64 false m (omega arith)

signed_round : (s : Bool) (a b : ℕ) → signed s (round binary64 false a b) ≡ round binary64 s a b
signed_round false a b = refl
signed_round true a b = neg_round binary64 false a b

one_value : (m : ℕ) (k : Scale) (s : Bool) → HasValue (whole_number m) false m 1 → HasValue (whole_number (10 ^ power_of k)) false (10 ^ power_of k) 1
    → operated m k s ≡ value_of m k s
unfolding operated value_of
one_value m (Times a) s x y = ap (signed s) (mul_whole binary64 (whole_number m) (whole_number (10 ^ a)) m (10 ^ a) x y) ∙ signed_round s (m * 10 ^ a) 1
one_value m (Over a) s x y =
    ap (signed s) (div_whole binary64 (whole_number m) (whole_number (10 ^ a)) m (10 ^ a) x y (ten_pos a)) ∙ signed_round s m (10 ^ a)

pub one_operation : (m : ℕ) (k : Scale) (s : Bool) → fits m k ≡ true → OneOperation m k s
one_operation m k s e =
    let x = whole_exact m (fits_digits m k e) in
    let y = power_exact (power_of k) (fits_power m k e) in
    record { digits_exact = x; power_exact = y; same = one_value m k s x y }

-- the sign comes last
pub operated_sign : (m : ℕ) (k : Scale) (s : Bool) → operated m k s ≡ signed s (operated m k false)
unfolding operated
operated_sign m (Times a) s = refl
operated_sign m (Over a) s = refl

pub made : (m : ℕ) (k : Scale) (s : Bool) (r : Float) → fits m k ≡ true → r ≡ operated m k s → Made m k s r
made m k s r e o = record { rounded = o ∙ (one_operation m k s e).same; operation = o }

-- the value is never a NaN, so that it has its bits
pub value_number : (m : ℕ) (k : Scale) (s : Bool) → T (not (is_nan (value_of m k s)))
unfolding value_of
value_number m (Times a) s = round_number binary64 s (m * 10 ^ a) 1
value_number m (Over a) s = round_number binary64 s m (10 ^ a)

-- ---- carried, or not
module _ (m : ℕ) (k : Scale) (s : Bool) where
  pub outside : fits m k ≡ false → carried m k s ≡ None
  unfolding carried
  outside e = rw e

  pub outside_big : limit ≤ m → carried m k s ≡ None
  outside_big h = outside (rw (le-ltb m limit h))

pub outside_times : (m a : ℕ) (s : Bool) → power < a → carried m (Times a) s ≡ None
outside_times m a s h = outside m (Times a) s (rw (lt-leb a power h, and-false (ltb m limit)))

pub outside_over : (m a : ℕ) (s : Bool) → power < a → carried m (Over a) s ≡ None
outside_over m a s h = outside m (Over a) s (rw (lt-leb a power h, and-false (ltb m limit)))

-- ---- zero
round_zero : (s : Bool) → to_bits binary64 (round binary64 s 0 1) ≡ cond s (2 ^ 63) 0
unfolding to_bits round
round_zero true = refl
round_zero false = refl

value_zero : (k : Scale) (s : Bool) → value_of 0 k s ≡ round binary64 s 0 1
unfolding value_of
value_zero (Times a) s = rw zero-mul
value_zero (Over a) s = round_same binary64 s 0 (10 ^ a) 0 1 (ten_pos a) (zero-lt-suc 0) (rw (zero-mul 1, zero-mul (10 ^ a)))

pub zero_keeps_sign : (k : Scale) (s : Bool) → power_of k ≤ power → carried 0 k s ≡ Some (cond s (2 ^ 63) 0)
unfolding carried
zero_keeps_sign k s h = rw (le-leb (power_of k) power h) (ap Some (ap (to_bits binary64) (value_zero k s) ∙ round_zero s))
