-- `record::sound::spelled` meets its contract: either reader's label is the one that the test looks at. Assumes nothing.
use Rattle.record.specs.Sound.{spelled_test}
use Rattle.record.proofs.sound.spelled.Goals as goal

pub returns-then-dotted : goal.returns-then-dotted
unfolding spelled_test
returns-then-dotted c = rw (c.if-dotted.true, ← c.parse_label_opt_suffix-read.ensures)

pub returns : goal.returns
unfolding spelled_test
returns c = rw (c.if-dotted.false, ← c.parse_label-read.ensures)
