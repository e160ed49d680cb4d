-- `decimal::ten_to` meets its contract: after i turns p is 10^i, and ten times it is the next (`times_ten`). Assumes nothing.
use native.Mathlib.Omega.{arith}
use Rattle.decimal.proofs.Powers.{one, ten, times_ten}
use Rattle.decimal.proofs.ten_to.Goals as goal

pub loop-init : goal.loop-init
loop-init c = one

pub loop-preserved : goal.loop-preserved
loop-preserved c = rw (c.loop.invariant, ten) (times_ten c.loop.counter (omega arith))
