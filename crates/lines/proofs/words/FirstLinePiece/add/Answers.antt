-- The first line meets its contract: one line for each case. Assumes nothing.
use Rattle.lines.specs.Lines.{first_line}
use Rattle.lines.proofs.words.FirstLinePiece.add.Goals as goal

pub returns-in-Ok : goal.returns-in-Ok
unfolding first_line
returns-in-Ok c = rw c.in-Ok.is c.good_line.ensures

pub returns-in-Err : goal.returns-in-Err
unfolding first_line
returns-in-Err c = rw c.in-Err.is c.refused_line.ensures
