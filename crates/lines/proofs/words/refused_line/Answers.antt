-- `lines::words::refused_line` meets its contract: its words are added one after the other. Assumes nothing.
use Rattle.ground.specs.Words.{bytes}
use Rattle.rail.proofs.Added.{added, both}
use Rattle.lines.proofs.Spaced.{words_more}
use Rattle.lines.proofs.words.refused_line.Goals as goal

pub returns : goal.returns
returns c =
    both (words_more (bytes "refused") _ _ (both (added c.add.ensures) (added c.decimal_word.ensures)) (added c.decimal_word-2.ensures))
    (added c.add-2.ensures)
