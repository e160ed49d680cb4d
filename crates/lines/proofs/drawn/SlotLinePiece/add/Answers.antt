-- A slot's line meets its contract: its words are added one after the other. Assumes nothing.
use Rattle.ground.specs.Words.{bytes}
use Rattle.rail.proofs.Added.{added, both}
use Rattle.lines.proofs.Spaced.{words_more}
use Rattle.lines.specs.Drawn.{slot_line}
use Rattle.lines.proofs.drawn.SlotLinePiece.add.Goals as goal

pub returns : goal.returns
unfolding slot_line
returns c =
    rw (← c.to_bits.ensures)
    (both (words_more (bytes "slot") _ _ (both (added c.add.ensures) (added c.decimal_word.ensures)) (added c.hex_word.ensures)) (added c.add-2.ensures))
