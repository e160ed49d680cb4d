-- What the loop keeps.
use Rattle.names.specs.Steps.{NotedFrom}
use Rattle.names.proofs.note.Given as goal

abbrev pub invariant-loop-i : goal.invariant-loop-i
invariant-loop-i l = NotedFrom l.records l.names l.i l.guesses
