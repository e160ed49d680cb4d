-- `record::sound::inside` meets its contract: a view is two numbers of two bytes, so that its end fits. Assumes nothing.
use Prim.Native.Nat.{◌+◌}
use native.Mathlib.Omega.{arith}
use Rattle.record.proofs.sound.inside.Goals as goal

pub overflow_add-result : goal.overflow_add-result
overflow_add-result c = let k = c.args.k in let g = c.type_inv.b in rw c.view_at-v.ensures (omega (arith, g k, g (k + 1), g (k + 2), g (k + 2 + 1)))

pub returns : goal.returns
returns c = rw c.view_at-v.ensures
