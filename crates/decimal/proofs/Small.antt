-- The bits of a carried number fit 64 bits. Assumes nothing.
use mathlib.Core.Bool.{Bool, true, false, cond}
use Rattle.std.specs.Prelude.{Option, Some, None}
use Prim.Native.Nat.{ℕ, ◌*◌, ◌^◌, ◌<◌}
use lib.Ieee.{binary64, to_bits, round}
use lib.Ieee.Bits.{to_bits-lt}
use lib.Ieee.Fits.{round-fits}
use Rattle.decimal.specs.declared.Scale.{Scale}
use Rattle.decimal.specs.declared.Scale.TheVariants.{Times, Over}
use Rattle.decimal.specs.Decimal.{fits, value_of, carried}

-- where there are bits, they are below 2^64
abbrev pub Small : Option ℕ → Type 0
Small (Some b) = b < 2 ^ 64
Small None = Unit {0}

value_small : (m : ℕ) (k : Scale) (s : Bool) → to_bits binary64 (value_of m k s) < 2 ^ 64
unfolding value_of
value_small m (Times a) s = to_bits-lt binary64 (round binary64 s (m * 10 ^ a) 1) (round-fits binary64 s (m * 10 ^ a) 1)
value_small m (Over a) s = to_bits-lt binary64 (round binary64 s m (10 ^ a)) (round-fits binary64 s m (10 ^ a))

pub carried_small : (m : ℕ) (k : Scale) (s : Bool) → Small (carried m k s)
unfolding carried
carried_small m k s = elim (fits m k) as (λ t. Small (cond t (Some (to_bits binary64 (value_of m k s))) None)) [ true ↦ value_small m k s | false ↦ tt ]
