-- What the loop keeps: the shapes of the first i records are pushed.
use mathlib.Core.Path.{◌≡◌}
use Rattle.lowering.specs.Sketch.{of_kind}
use Rattle.lowering.specs.Steps.{kinds_of, numbers_in, laid_in, pushed_of}
use Rattle.lowering.proofs.shapes.Shapes.push_all.Given as goal

abbrev pub invariant-loop-i : goal.invariant-loop-i
invariant-loop-i l =
    laid_in l.last l.ids l.values
    ≡ pushed_of (numbers_in l.self.records.now l.self.guesses.now) l.kind (of_kind (kinds_of l.self.records.now) l.kind l.i) (laid_in l.initial.last l.initial.ids l.initial.values)
