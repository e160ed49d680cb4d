-- `forms::section::section` meets its contract: what was stored and what is left to read are the lines from the start (`Turns`). Assumes nothing.
use mathlib.Core.Path.{◌∙◌}
use native.Mathlib.Omega.{arith}
use Rattle.forms.proofs.Turns.{first, turn, last, halt, over}
use Rattle.forms.proofs.section.section.Goals as goal

pub loop-init : goal.loop-init
loop-init c = first _ _ _ _ _ _

pub shape_of-own-in_default : goal.shape_of-own-in_default
shape_of-own-in_default c = c.loop.invariant.size

pub returns-in_default : goal.returns-in_default
returns-in_default c =
    rw (c.or_stand.ensures, c.stop.ensures)
    (halt c.loop.invariant c.line_at-line.result c.line_at-line.ensures (omega (arith, c.loop-test.true)) c.in_default.not-At)

pub put_line-n-requires : goal.put_line-n-requires
put_line-n-requires c = omega (arith, c.loop.invariant.few, c.loop-test.true)

pub shape_of-own-in_default-newline : goal.shape_of-own-in_default-newline
shape_of-own-in_default-newline c = c.put_line-n.auto.own ∙ c.loop.invariant.size

pub returns-in_default-newline : goal.returns-in_default-newline
returns-in_default-newline c =
    rw (c.put_line-n.ensures.next_is, c.put_line-n.ensures.buffer)
    (last c.loop.invariant c.line_at-line.result c.line_at-line.ensures (omega (arith, c.loop-test.true)) _ c.in-At.is
    (rw c.newline.ensures at c.in_default-newline.not-At))

pub loop-preserved : goal.loop-preserved
loop-preserved c =
    rw (c.put_line-n.ensures.next_is, c.put_line-n.ensures.buffer, ← c.in-At-newline.is, c.newline.ensures)
    (turn c.loop.invariant c.line_at-line.result c.line_at-line.ensures (omega (arith, c.loop-test.true)) _ c.in-At.is)

pub shape_of-own : goal.shape_of-own
shape_of-own c = c.loop.invariant.size

pub returns : goal.returns
returns c = rw c.stop-2.ensures (over c.loop.invariant (omega (arith, c.loop-test.false)))
