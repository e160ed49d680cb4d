-- What the loop keeps: the ids of the first q names are in their places.
use lib.ListN.{length}
use Rattle.lowering.specs.Sketch.{span_at, span_ids}
use Rattle.lowering.specs.Steps.{names_at, first_at}
use Rattle.lowering.proofs.rows.Filling.{Pieces}
use Rattle.lowering.proofs.rules.Line.row_ids.Given as goal

abbrev pub invariant-loop-q : goal.invariant-loop-q
invariant-loop-q l = Pieces (λ q. span_ids (first_at l.self.firsts.now) l.self.next (span_at l.kind l.third (names_at l.self.names.now l.kind l.self.i) q)) (λ q. q) (length (names_at l.self.names.now l.kind l.self.i)) l.initial.out l.m l.out l.q
