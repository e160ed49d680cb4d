-- What the 64 bits of an f64 say: which number they are, or what else. proofs/Value.antt ties it to lib.Ieee. Assumes nothing.
use Rattle.std.specs.Prelude.{ℕ, zero, suc, ◌+◌, ◌*◌, ◌/◌, ◌%◌, ◌^◌, ◌≤◌, ◌<◌}

-- zero, with either sign
abbrev pub plus_zero : ℕ
plus_zero = 0

abbrev pub minus_zero : ℕ
minus_zero = 0x8000_0000_0000_0000

-- infinity, with either sign; between plus-zero and infinity lie the finite numbers above zero
abbrev pub infinity : ℕ
infinity = 0x7ff0_0000_0000_0000

abbrev pub minus_infinity : ℕ
minus_infinity = 0xfff0_0000_0000_0000

-- the NaN that stands for every NaN
abbrev pub the_nan : ℕ
the_nan = 0x7ff8_0000_0000_0000

-- b is a number below zero, minus infinity among them
abbrev pub BelowZero : ℕ → Type 0
BelowZero b = (minus_zero < b) × (b ≤ minus_infinity)

-- b is a NaN, of either sign
abbrev pub IsNan : ℕ → Type 0
IsNan b = infinity < b % 2 ^ 63

-- the units of 2^-1074 in a finite number, by the field of its exponent and its last 52 digits
abbrev pub units_in : ℕ → ℕ → ℕ
units_in zero t = t
units_in (suc x) t = (2 ^ 52 + t) * 2 ^ x

-- the units of 2^-1074 in the finite number, zero or above, with the bits b
abbrev pub units_of : ℕ → ℕ
units_of b = units_in (b / 2 ^ 52) (b % 2 ^ 52)
