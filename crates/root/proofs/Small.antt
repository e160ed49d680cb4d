-- The root of 64 bits fits 64 bits. Assumes nothing.
use Prim.Native.Nat.{ℕ, ◌^◌, ◌<◌}
use native.Mathlib.Omega.{arith}
use Rattle.root.specs.Root.{some, itself, none}
use Rattle.root.specs.Function.{root_of}
use Rattle.root.proofs.Agree.{root_is}

pub root_small : (b : ℕ) → b < 2 ^ 64 → root_of b < 2 ^ 64
root_small b h = elim (root_is b h) [ some p q z ↦ omega (arith, z.finite) | itself k e ↦ omega arith | none k e ↦ omega arith ]
