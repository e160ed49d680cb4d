-- Behind the lines of the slots stand the lines of the rows passed.
use Rattle.ground.specs.Lists.{up_to}
use Rattle.row.specs.Row.{decode_row, row_of}
use Rattle.rail.specs.Words.{joined}
use Rattle.lines.specs.Drawn.{row_line}
use Rattle.rail.proofs.Added.{Behind}
use Rattle.answers.proofs.drawn.DrawnPiece.add.Given as goal

abbrev pub invariant-loop-k : goal.invariant-loop-k
invariant-loop-k l = Behind l.initial.rail (joined (up_to l.k (λ i. row_line (decode_row (row_of l.self.rows.now i))))) l.rail
