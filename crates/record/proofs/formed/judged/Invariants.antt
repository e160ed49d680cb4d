-- What the loop keeps.
use Rattle.record.proofs.Passed.{Passed}
use Rattle.record.proofs.formed.judged.Given as goal

abbrev pub invariant-loop-i : goal.invariant-loop-i
invariant-loop-i l = Passed l.full l.text l.records l.i l.guessed
