-- `root::normal` meets its contract: t has j + 1 digits, so that 63 - j zeros stand before them and 52 - j lead to the place of the first. Assumes nothing.
use mathlib.Core.Path.{◌≡◌}
use Prim.Native.Nat.{ℕ, ◌-◌, ◌*◌, ◌%◌, ◌^◌, ◌≤◌, ◌<◌}
use native.Mathlib.Nat.{lt_of_not-le}
use native.Mathlib.Omega.{arith}
use lib.Count.{count_leading_zeros, leading_top}
use lib.Pow.{pow_mono}
use Rattle.root.specs.Steps.{Scaling}
use Rattle.root.proofs.Sizes.{scaling_small}
use Rattle.root.proofs.normal.Goals as goal

record Moved (t zeros : ℕ) : Type 0 where
  enough : 12 ≤ zeros
  most : zeros ≤ 63
  is : Scaling (t * 2 ^ 52) (t * 2 ^ (zeros - 11) % 2 ^ 64) (52 - (zeros - 11))

moved : (t : ℕ) → 0 < t → t < 2 ^ 52 → Moved t (count_leading_zeros 64 t)
moved t p h =
    let (j, e, least, most) = leading_top 64 t p (omega arith) in
    let few : j < 52 = lt_of_not-le (λ (z : 52 ≤ j). omega (arith, pow_mono z)) in
    let up : count_leading_zeros 64 t - 11 ≡ 52 - j = omega arith in
    let down : 52 - (52 - j) ≡ j = omega arith in
    let s : Scaling (t * 2 ^ 52) (t * 2 ^ (52 - j)) j = scaling_small t j (52 - j) (omega arith) least most in
    let whole : t * 2 ^ (52 - j) % 2 ^ 64 ≡ t * 2 ^ (52 - j) = omega (arith, s.most) in
    record { enough = omega arith; most = omega arith; is = rw (up, down, whole) s }

pub overflow_sub-shift : goal.overflow_sub-shift
overflow_sub-shift c = omega (arith, moved c.args.t c.requires.0 c.requires.1)

pub returns : goal.returns
returns c = let m = moved c.args.t c.requires.0 c.requires.1 in rw c.from.ensures (omega arith, m.is)
