-- `lines::words::counted` meets its contract: the two words are added one after the other. Assumes nothing.
use Rattle.rail.proofs.Added.{added, both}
use Rattle.rail.proofs.Spaced.{spaced_append}
use Rattle.lines.proofs.words.counted.Goals as goal

pub returns : goal.returns
returns c = rw (← spaced_append) at (both (added c.word.ensures) (added c.decimal_word.ensures))
