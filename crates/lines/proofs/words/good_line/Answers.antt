-- `lines::words::good_line` meets its contract: its words are added one after the other. Assumes nothing.
use Rattle.ground.specs.Words.{bytes}
use Rattle.rail.proofs.Added.{added, both}
use Rattle.lines.proofs.Spaced.{words_more}
use Rattle.lines.proofs.words.good_line.Goals as goal

pub returns : goal.returns
returns c =
    let w = bytes "instructions" in
    let counts = words_more w _ _ (both (added c.add.ensures) (added c.decimal_word.ensures)) c.counted.ensures in
    both (words_more w _ _ counts c.counted-2.ensures) (added c.add-2.ensures)
