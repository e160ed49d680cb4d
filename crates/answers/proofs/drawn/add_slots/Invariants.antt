-- Behind the first line stand the lines of the slots passed.
use Rattle.answers.proofs.Slots.{Passed}
use Rattle.answers.proofs.drawn.add_slots.Given as goal

abbrev pub invariant-loop-id : goal.invariant-loop-id
invariant-loop-id l = Passed l.initial.rail l.rail l.ids l.id-iterator.a.rest.now l.values l.id-iterator.b.rest.now
