-- The bits of an f64 that are a NaN's, and what becomes of them. Assumes nothing.
use Rattle.std.specs.Prelude.{ℕ, ◌%◌, ◌^◌, Bool, cond, ltb}

-- the weight of the sign
abbrev pub sign : ℕ
sign = 2 ^ 63

-- the bits of plus infinity
abbrev pub infinite : ℕ
infinite = 0x7ff0_0000_0000_0000

-- the bits that a NaN is written with
abbrev pub not_a_number : ℕ
not_a_number = 0x7ff8_0000_0000_0000

-- whether b is a NaN's: without the sign it is above infinity's
abbrev pub is_nan_bits : ℕ → Bool
is_nan_bits b = ltb infinite (b % sign)

-- b, with the one pattern for every NaN
abbrev pub kept : ℕ → ℕ
kept b = cond (is_nan_bits b) not_a_number b
