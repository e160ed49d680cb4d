-- `number::step_over` meets its contract: past the end stands 0, which fails the test. Assumes nothing.
use Rattle.text.proofs.Laws.{past}
use Rattle.number.specs.Number.{step_over}
use Rattle.number.proofs.step_over.Goals as goal

pub returns-in_default : goal.returns-in_default
unfolding step_over
returns-in_default g c test fails answers = rw (past _ _ c.in_default.ensures.lookup.3, fails)

pub returns-then-passes : goal.returns-then-passes
unfolding step_over
returns-then-passes g c test fails answers = rw (← c.in-Some.ensures.lookup.3.1 0, ← answers _ _ c.passes.ensures, c.if-passes.true)

pub returns : goal.returns
unfolding step_over
returns g c test fails answers = rw (← c.in-Some.ensures.lookup.3.1 0, ← answers _ _ c.passes.ensures, c.if-passes.false)
