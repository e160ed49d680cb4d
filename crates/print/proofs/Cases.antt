-- Worked cases of the definitions, each by computation. Assumes nothing.
use mathlib.Core.Path.{◌≡◌, refl}
use Prim.Native.Nat.{ℕ}
use Prim.Native.String.{String}
use Rattle.ground.specs.Words.{bytes}
use Rattle.print.specs.Print.{last_digits, hex_of, width_up_to, decimal_of}

-- a number is written so in hex
abbrev Hex : ℕ → String → Type 0
Hex n s = hex_of n ≡ bytes s

-- a number is written so in decimal
abbrev Decimal : ℕ → String → Type 0
Decimal n s = decimal_of n ≡ bytes s

pub worked :
    Hex 0 "0000000000000000"
    -- the root of two
    × Hex 0x3ff6a09e667f3bcd "3ff6a09e667f3bcd"
    × Decimal 0 "0"
    × Decimal 9 "9"
    × Decimal 10 "10"
    × Decimal 125 "125"
    -- the largest
    × Decimal 18446744073709551615 "18446744073709551615"
unfolding hex_of decimal_of last_digits width_up_to
worked = (refl, refl, refl, refl, refl, refl, refl)
