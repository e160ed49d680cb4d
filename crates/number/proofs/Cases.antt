-- The seams of the grammar of numbers, each computed from the promises. Assumes nothing.
use mathlib.Core.Path.{◌≡◌, refl}
use Prim.Native.Nat.{ℕ}
use Prim.Native.String.{String}
use lib.Ieee.{to_bits, round, size}
use Rattle.ground.specs.Words.{bytes}
use Rattle.text.specs.Text.{refused_at, run_to, word_at, byte_on}
use Rattle.text.specs.declared.Stand.TheVariants.{At, Nothing}
use Rattle.decimal.specs.Decimal.{value_of, carried}
use Rattle.root.specs.Function.{floor_root, nearest_root, scaled_root, finite_root, root_of}
use Rattle.number.specs.Number.{step_over, numeral, part_at, end_at, all_digits, no_digit, exponent_at, no_number, number_at, closed, expr_at, expr_on}
use Rattle.number.specs.declared.Number.{Number}

-- the expression that a text starts with
abbrev pub reading : String → Number
reading t = expr_on (bytes t) (At 0)

abbrev pub value : ℕ → ℕ → Number
value bits next = record { bits = bits; then = At next }

abbrev pub refused : ℕ → ℕ → Number
refused number place = no_number (refused_at number place)

pub seams :
    -- the exponent without its digits, and behind a number that has one
    (reading "1e+" ≡ refused 8 0)
    × (reading "1e5e" ≡ value 0x40f8_6a00_0000_0000 3)
    -- leading zeros count in neither m nor the exponent
    × (reading "00000000000000000001e00000000000000000000000000000022" ≡ value 0x4480_f0cf_064d_d592 53)
    -- zero has limits too
    × (reading "0e23" ≡ refused 8 0)
    -- a point and digits, digits and a point, a point alone
    × (reading "+.5" ≡ value 0x3fe0_0000_0000_0000 3)
    × (reading "5.x" ≡ value 0x4014_0000_0000_0000 2)
    × (reading "-.e1" ≡ no_number Nothing)
    -- where infinity or a NaN may stand
    × (reading "-nan" ≡ refused 8 0)
    -- inside a root the place is the number's; an open bracket is no number
    × (reading "sqrt(inf)" ≡ refused 8 5)
    × (reading "sqrt(1" ≡ no_number Nothing)
    -- eight roots, and the ninth
    × (reading "sqrt(sqrt(sqrt(sqrt(sqrt(sqrt(sqrt(sqrt(1))))))))" ≡ value 0x3ff0_0000_0000_0000 49)
    × (reading "sqrt(sqrt(sqrt(sqrt(sqrt(sqrt(sqrt(sqrt(sqrt(1)))))))))" ≡ refused 9 40)
    -- past the end
    × (expr_on (bytes "1") (At 7) ≡ no_number Nothing)
unfolding expr_on expr_at word_at number_at part_at end_at all_digits no_digit step_over numeral exponent_at closed byte_on run_to carried value_of to_bits round root_of finite_root scaled_root nearest_root floor_root size
seams = (refl, refl, refl, refl, refl, refl, refl, refl, refl, refl, refl, refl, refl)
