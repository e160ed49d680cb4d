-- What lowering told meets its contract: one line for each case. Assumes nothing.
use Rattle.lines.specs.Drawn.{lowered_line}
use Rattle.lines.proofs.drawn.LoweredLinePiece.add.Goals as goal

pub returns-in-Ok : goal.returns-in-Ok
unfolding lowered_line
returns-in-Ok c = rw c.in-Ok.is c.tally_line.ensures

pub returns-in-Err : goal.returns-in-Err
unfolding lowered_line
returns-in-Err c = rw c.in-Err.is c.refused_line.ensures
