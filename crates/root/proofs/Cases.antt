-- Worked cases, each computed: the root of 2, of -4, of -0, of plus infinity and of 2^-1074, the smallest number above zero. Assumes nothing.
use mathlib.Core.Path.{◌≡◌, refl}
use lib.Ieee.{size as digits}
use Rattle.root.specs.Function.{floor_root, nearest_root, scaled_root, finite_root, root_of}

pub worked :
    -- of 2, of -4, of -0, of plus infinity
    (root_of 0x4000_0000_0000_0000 ≡ 0x3ff6_a09e_667f_3bcd)
    × (root_of 0xc010_0000_0000_0000 ≡ 0x7ff8_0000_0000_0000)
    × (root_of 0x8000_0000_0000_0000 ≡ 0x8000_0000_0000_0000)
    × (root_of 0x7ff0_0000_0000_0000 ≡ 0x7ff0_0000_0000_0000)
    -- of 2^-1074: 2^-537
    × (root_of 1 ≡ 0x1e60_0000_0000_0000)
unfolding root_of finite_root scaled_root nearest_root floor_root digits
worked = (refl, refl, refl, refl, refl)
