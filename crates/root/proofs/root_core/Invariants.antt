-- What the loop keeps.
use Rattle.root.proofs.Pairs.{Taken}
use Rattle.root.proofs.root_core.Given as goal

abbrev pub invariant-loop : goal.invariant-loop
invariant-loop l = Taken l.h l.q l.rem l.a l.counter
