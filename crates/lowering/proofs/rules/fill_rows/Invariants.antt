-- What the loop keeps: the rows of the first i records are written.
use Rattle.record.specs.Decode.{count_of}
use Rattle.lowering.specs.Steps.{line_in, sketch_in, bytes_if, firsts_of}
use Rattle.lowering.proofs.rows.Filling.{Pieces}
use Rattle.lowering.proofs.rules.fill_rows.Given as goal

abbrev pub invariant-loop-i : goal.invariant-loop-i
invariant-loop-i l = Pieces (bytes_if (firsts_of (sketch_in l.sheet.records.now l.names)) l.next) (line_in l.sheet.records.now l.names) (count_of l.sheet.records.now) l.initial.rows l.at l.rows l.i
