-- What the loop keeps.
use mathlib.Core.Path.{◌≡◌}
use mathlib.Core.Bool.{false}
use Rattle.refusal.specs.First.{EachBelow}
use Rattle.drawing.specs.Numbers.{wrong_name}
use Rattle.drawing.proofs.faults.Line.any_wrong_name.Given as goal

abbrev pub invariant-loop-q : goal.invariant-loop-q
invariant-loop-q l = EachBelow l.q (λ k. wrong_name l.self.kind l.self.names.now l.self.i k ≡ false)
