-- What the loop keeps: the first i records have their first slots.
use Rattle.lowering.proofs.ids.Firsts.{Placing}
use Rattle.lowering.proofs.spans.first_slots.Given as goal

abbrev pub invariant-loop-i : goal.invariant-loop-i
invariant-loop-i l = Placing l.sheet.records.now l.sheet.points l.sheet.circles l.firsts l.at l.i
