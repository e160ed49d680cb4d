-- Which bits are a NaN's, those above infinity's, and which a NaN is written with. Assumes nothing.
use mathlib.Core.Path.{◌≡◌, refl, sym, ◌∙◌}
use mathlib.Core.Bool.{true}
use Prim.Native.Nat.{ℕ}
use lib.Ieee.{nan, binary64, of_bits, to_bits, is_nan}
use lib.Ieee.Bits.{nan_bits_is, nan_bits_above}
use Rattle.ground.proofs.Floats.{only_nan}
use Rattle.bits.specs.Bits.{not_a_number, is_nan_bits}

-- whether the f64 of these bits is a NaN
pub of_nan_bits : (b : ℕ) → is_nan (of_bits binary64 b) ≡ is_nan_bits b
of_nan_bits b = sym (nan_bits_is binary64 b) ∙ nan_bits_above binary64 b

pub above : (b : ℕ) → is_nan_bits b ≡ true → of_bits binary64 b ≡ nan
above b e = only_nan (of_bits binary64 b) (of_nan_bits b ∙ e)

pub written : to_bits binary64 nan ≡ not_a_number
unfolding to_bits
written = refl
