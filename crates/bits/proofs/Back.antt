-- There and back: bits come back the same but for a NaN's, and an f64 comes back as it was. Assumes nothing.
use mathlib.Core.Path.{◌≡◌, refl, ap, ◌∙◌}
use mathlib.Core.Bool.{Bool, true, false, cond}
use Prim.Native.Nat.{ℕ, ◌^◌, ◌<◌}
use lib.Dec.{T}
use lib.Ieee.{Float, binary64, of_bits, to_bits, fits}
use lib.Ieee.Bits.{to_bits-of_bits, of_bits-to_bits}
use Rattle.bits.specs.Bits.{not_a_number, is_nan_bits, kept}
use Rattle.bits.proofs.Nan.{of_nan_bits, above, written}

-- to bits after from bits
pub to_from : (b : ℕ) → b < 2 ^ 64 → to_bits binary64 (of_bits binary64 b) ≡ kept b
to_from b h = go (is_nan_bits b) refl
  where
    go : (t : Bool) → is_nan_bits b ≡ t → to_bits binary64 (of_bits binary64 b) ≡ cond t not_a_number b
    go true e = ap (to_bits binary64) (above b e) ∙ written
    go false e = to_bits-of_bits binary64 b h (rw (of_nan_bits b, e) tt)

-- from bits after to bits, for every value that an f64 holds
pub from_to : (x : Float) → T (fits binary64 x) → of_bits binary64 (to_bits binary64 x) ≡ x
from_to = of_bits-to_bits binary64
