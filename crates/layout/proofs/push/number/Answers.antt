-- `layout::push::number` meets its contract: after i turns i ids are put. Assumes nothing.
use mathlib.Core.Path.{◌≡◌}
use native.Mathlib.Omega.{arith}
use Rattle.layout.proofs.Storing.{one_more, all_put}
use Rattle.layout.proofs.push.number.Goals as goal

pub loop-i-preserved : goal.loop-i-preserved
loop-i-preserved c = one_more _ _ _ _ _ _ (omega arith) (omega arith) c.loop-i.invariant

pub returns : goal.returns
returns c = let a = c.args in let end : c.loop-i.i ≡ a.count = omega arith in all_put a.ids.now _ a.at a.next a.count (rw end at c.loop-i.invariant)
