-- `names::pieces::front` meets its contract: up to i there is no point, and the hash is that of what was passed. Assumes nothing.
use mathlib.Core.Path.{◌≡◌}
use native.Mathlib.Omega.{arith}
use lib.ListN.{length}
use Rattle.names.proofs.Cut.{front_none, front_end, front_stop, front_more}
use Rattle.names.proofs.pieces.front.Goals as goal

pub loop-i-init : goal.loop-i-init
loop-i-init c = front_none _

pub returns-then-b-eq46 : goal.returns-then-b-eq46
returns-then-b-eq46 c = let l = c.loop-i in front_stop _ l.i l.hash l.invariant c.loop-i-test.true c.if-b-eq46.true

pub overflow_cast-hash : goal.overflow_cast-hash
overflow_cast-hash c = omega (arith, c.type_inv.label c.loop-i.i)

pub overflow_add-hash : goal.overflow_add-hash
overflow_add-hash c = omega (arith, c.type_inv.label c.loop-i.i)

pub loop-i-preserved : goal.loop-i-preserved
loop-i-preserved c = let l = c.loop-i in front_more _ l.i l.hash l.invariant c.loop-i-test.true c.if-b-eq46.false

pub returns : goal.returns
returns c =
    let l = c.loop-i in let n : l.i ≡ length c.args.label.now = omega arith in
    rw n at (front_end _ l.i l.hash l.invariant c.loop-i-test.false)
