-- `root::root_core` meets its contract: each turn brings down one pair of digits, and q is the root of those so far (`Pairs.antt`). Assumes nothing.
use mathlib.Core.Path.{◌≡◌}
use native.Mathlib.Omega.{arith}
use Rattle.root.proofs.Pairs.{set_digit, no_digit, round_up, round_down}
use Rattle.root.proofs.root_core.Goals as goal
use Rattle.root.proofs.root_core.Goals.{then-trial-next, else-trial-next}

pub loop-preserved : goal.loop-preserved
loop-preserved c =
    elim c.if-trial-next.branch [
      | then-trial-next w ↦ rw (w.q-is, w.rem-is) (set_digit _ _ _ _ _ c.loop.invariant (omega arith) w.if-trial-next.true)
      | else-trial-next w ↦ rw (w.q-is, w.rem-is) (no_digit _ _ _ _ _ c.loop.invariant (omega arith) w.if-trial-next.false)
    ]

-- the loop ends at 53 turns
pub returns-then-q-rem : goal.returns-then-q-rem
returns-then-q-rem c =
    let e : c.loop.counter ≡ 53 = omega arith in
    round_up _ _ _ _ (omega arith) (rw e at c.loop.invariant) c.if-q-rem.true

pub returns-else-q-rem : goal.returns-else-q-rem
returns-else-q-rem c =
    let e : c.loop.counter ≡ 53 = omega arith in
    round_down _ _ _ _ (omega arith) (rw e at c.loop.invariant) c.if-q-rem.false
