-- `drawing::faults::Line::any_wrong_name` meets its contract where a wrong name is found. Assumes nothing.
use borrow.Author.Rules.{rules}
use mathlib.Core.Path.{sym, ◌∙◌}
use Rattle.kinds.proofs.Cells.{labels_is}
use Rattle.drawing.specs.Numbers.{wrong_name, any_wrong_name}
use Rattle.refusal.proofs.Search.{any_here}
use Rattle.drawing.proofs.faults.Line.any_wrong_name.Goals as goal

pub returns-then-wrong_name : goal.returns-then-wrong_name
unfolding any_wrong_name
returns-then-wrong_name c =
    let l = c.args.self.now in
    rw (← labels_is l.kind, ← c.cell_of-q-end.ensures, ← any_here (wrong_name l.kind l.names.now l.i) _ c.loop-q.q c.loop-q-test.true (sym c.wrong_name.ensures ∙ c.if-wrong_name.true))
    (search rules)
