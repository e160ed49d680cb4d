-- `lowering::shapes::Declared::push_if` meets its contract where it is of the kind: one push. Assumes nothing.
use mathlib.Core.Path.{sym, ◌∙◌}
use borrow.Author.Tests.{eq-eqb}
use Rattle.layout.specs.Run.{run}
use Rattle.lowering.specs.Sketch.{figure_of}
use Rattle.lowering.specs.Steps.{kinds_of, numbers_in}
use Rattle.lowering.proofs.slots.Steps.{push_state}
use Rattle.lowering.proofs.shapes.Declared.push_if.Goals as goal

pub returns : goal.returns
unfolding run
returns c =
    let a = c.args in rw (eq-eqb (kinds_of a.self.now.records.now a.self.now.i) a.kind (sym c.kind_at.ensures ∙ c.if-kind_at-kind.false), c.unwrap_or.ensures)
    (push_state (figure_of (numbers_in a.self.now.records.now a.self.now.guesses.now a.self.now.i) a.kind) _ _ _ _ _ _
    c.push.ensures)
