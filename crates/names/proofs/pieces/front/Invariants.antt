-- What the loop keeps.
use Rattle.names.proofs.Cut.{Fronted}
use Rattle.names.proofs.pieces.front.Given as goal

abbrev pub invariant-loop-i : goal.invariant-loop-i
invariant-loop-i l = Fronted l.label l.i l.hash
