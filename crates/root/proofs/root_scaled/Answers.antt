-- `root::root_scaled` meets its contract: h is m, or twice m for an odd g, so that h * 2^52 is m * 2^s, and its root has 53 digits (`Scale.antt`). Assumes nothing.
use mathlib.Core.Path.{◌≡◌, ap, ◌∙◌}
use Prim.Native.Nat.{ℕ, ◌+◌, ◌*◌, ◌%◌, ◌^◌, ◌≤◌, ◌<◌}
use native.Mathlib.Omega.{arith}
use Rattle.root.specs.Function.{nearest_root, places_for, scaled_root}
use Rattle.root.proofs.Scale.{doubled, root_range}
use Rattle.root.proofs.root_scaled.Goals as goal

module _ (m g n : ℕ) (least : 2 ^ 52 ≤ m) (most : m < 2 ^ 53) (is : n ≡ nearest_root (m * (1 + g % 2) * 2 ^ 52)) where
  rooted : n ≡ nearest_root (m * 2 ^ places_for g)
  rooted = is ∙ ap nearest_root (doubled m g least most).value

  range : (2 ^ 52 ≤ n) × (n < 2 ^ 53)
  range = rw rooted (root_range m g least most)

pub overflow_sub-result : goal.overflow_sub-result
overflow_sub-result c = omega (arith, range c.args.x.m c.args.x.g _ c.requires.0 c.requires.1.0 c.root_core-n.ensures)

pub overflow_add-result-2 : goal.overflow_add-result-2
overflow_add-result-2 c = omega (arith, range c.args.x.m c.args.x.g _ c.requires.0 c.requires.1.0 c.root_core-n.ensures)

pub returns : goal.returns
unfolding scaled_root
returns c = rw (rooted c.args.x.m c.args.x.g _ c.requires.0 c.requires.1.0 c.root_core-n.ensures)
