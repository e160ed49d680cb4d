-- Worked cases, each computed from `carried`. Assumes nothing.
use mathlib.Core.Path.{◌≡◌, refl}
use mathlib.Core.Bool.{true, false}
use Prim.Native.Nat.{◌^◌}
use lib.Ieee.{to_bits, round}
use Rattle.decimal.specs.declared.Scale.TheVariants.{Times, Over}
use Rattle.std.specs.Prelude.{Some, None}
use Rattle.decimal.specs.Decimal.{value_of, carried}

pub worked :
    -- 999999999999999, and one digit more
    (carried 999999999999999 (Times 0) false ≡ Some 0x430c_6bf5_2633_fff8)
    × (carried (10 ^ 15) (Times 0) false ≡ None)
    -- 1e22 and 1e23
    × (carried 1 (Times 22) false ≡ Some 0x4480_f0cf_064d_d592)
    × (carried 1 (Times 23) false ≡ None)
    -- 5e-22 and 5e-23
    × (carried 5 (Over 22) false ≡ Some 0x3b82_e3b4_0a0e_9b4f)
    × (carried 5 (Over 23) false ≡ None)
    -- 0 and -0
    × (carried 0 (Times 0) false ≡ Some 0)
    × (carried 0 (Times 0) true ≡ Some 0x8000_0000_0000_0000)
    -- 0.1, 0.5, and 0.3, which is not 3 times 0.1
    × (carried 1 (Over 1) false ≡ Some 0x3fb9_9999_9999_999a)
    × (carried 5 (Over 1) false ≡ Some 0x3fe0_0000_0000_0000)
    × (carried 3 (Over 1) false ≡ Some 0x3fd3_3333_3333_3333)
unfolding carried value_of to_bits round
worked = (refl, refl, refl, refl, refl, refl, refl, refl, refl, refl, refl)
