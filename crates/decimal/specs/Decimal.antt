-- A decimal number: m times 10^k with a sign. Its value, the one f64 operation that gives it, and when it is carried. Assumes nothing.
use Rattle.std.specs.Prelude.{◌≡◌, Bool, true, false, ◌&&◌, cond, ℕ, ◌*◌, ◌^◌, ltb, leb, pos, Float, Option, Some, None}
use Rattle.std.specs.Float.{binary64}
use Rattle.std.specs.Float.Ieee.{round, neg, mul, div, of_int, to_bits}
use Rattle.std.specs.Float.Ieee.Exact.{HasValue}
use Rattle.decimal.specs.declared.Scale.{Scale}
use Rattle.decimal.specs.declared.Scale.TheVariants.{Times, Over}

-- ---- the limits

-- m has at most this many digits
abbrev pub digits : ℕ
digits = 15

-- so that m is below this
abbrev pub limit : ℕ
limit = 10 ^ digits

-- k is from minus this to this
abbrev pub power : ℕ
power = 22

-- how far k is from 0
abbrev pub power_of : Scale → ℕ
power_of (Times a) = a
power_of (Over a) = a

-- m and k are within the limits
abbrev pub fits : ℕ → Scale → Bool
fits m k = ltb m limit && leb (power_of k) power

-- ---- the value

-- the exact value, m * 10^a or m / 10^a, with the sign s, rounded once to the nearest f64
unfoldable pub value_of : ℕ → Scale → Bool → Float
value_of m (Times a) s = round binary64 s (m * 10 ^ a) 1
value_of m (Over a) s = round binary64 s m (10 ^ a)

-- a whole number as an operand
abbrev pub whole_number : ℕ → Float
whole_number n = of_int binary64 (pos n)

-- x, or -x where the sign is minus
abbrev pub signed : Bool → Float → Float
signed false x = x
signed true x = neg x

-- one f64 operation on the operands m and 10^a, then the sign
unfoldable pub operated : ℕ → Scale → Bool → Float
operated m (Times a) s = signed s (mul binary64 (whole_number m) (whole_number (10 ^ a)))
operated m (Over a) s = signed s (div binary64 (whole_number m) (whole_number (10 ^ a)))

-- r is the number's value, and it is made by the one operation
pub record Made (m : ℕ) (k : Scale) (s : Bool) (r : Float) : Type 0 where
  pub rounded : r ≡ value_of m k s
  pub operation : r ≡ operated m k s

-- the operands are exact, and the operation gives the value
pub record OneOperation (m : ℕ) (k : Scale) (s : Bool) : Type 0 where
  pub digits_exact : HasValue (whole_number m) false m 1
  pub power_exact : HasValue (whole_number (10 ^ power_of k)) false (10 ^ power_of k) 1
  pub same : operated m k s ≡ value_of m k s

-- ---- what comes back

-- within the limits the bits of the value, and otherwise not carried
unfoldable pub carried : ℕ → Scale → Bool → Option ℕ
carried m k s = cond (fits m k) (Some (to_bits binary64 (value_of m k s))) None
