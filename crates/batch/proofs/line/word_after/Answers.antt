-- `batch::line::word_after` meets its contract: its test is the definition's. Assumes nothing.
use Rattle.std.proofs.Common.{eq-eqb, ne_eqb}
use Rattle.batch.specs.Line.{word_after}
use Rattle.batch.proofs.line.word_after.Goals as goal

pub returns-then-b-eq32 : goal.returns-then-b-eq32
unfolding word_after
returns-then-b-eq32 c = rw (eq-eqb _ _ c.if-b-eq32.true)

pub returns-else-b-eq32 : goal.returns-else-b-eq32
unfolding word_after
returns-else-b-eq32 c = rw (ne_eqb _ _ c.if-b-eq32.false)
