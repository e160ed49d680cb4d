-- `lines::drawn::tally_line` meets its contract: its words are added one after the other. Assumes nothing.
use Rattle.rail.proofs.Added.{added, both}
use Rattle.lines.proofs.Spaced.{words_more}
use Rattle.lines.proofs.drawn.tally_line.Goals as goal

pub returns : goal.returns
returns c =
    let l = c.args.name.now in let two = words_more l _ _ (both (added c.add.ensures) c.counted.ensures) c.counted-2.ensures in
    both (words_more l _ _ (words_more l _ _ two c.counted-3.ensures) c.counted-4.ensures) (added c.add-2.ensures)
