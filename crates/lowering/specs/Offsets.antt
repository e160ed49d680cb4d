-- Where a component stands in its shape.
use Rattle.std.specs.Prelude.{cond, ℕ, ◌+◌, eqb}
use Rattle.ground.specs.Words.{bytes}
use Rattle.record.specs.Entry.{Label}
use Rattle.names.specs.Labels.{same}
use Rattle.drawing.specs.Needs.{Shape, point, circle, arc}
use Rattle.lowering.specs.Slots.{y_axis, no_axis}

-- which component of its shape a part's x, y or number is
abbrev pub component_at : Shape → Label → ℕ → ℕ
component_at point suffix axis = cond (eqb axis y_axis) 1 0
component_at circle suffix axis = cond (eqb axis no_axis) 2 (cond (eqb axis y_axis) 1 0)
component_at arc suffix axis = cond (same suffix (bytes ".a")) 0 (cond (same suffix (bytes ".b")) 2 4) + cond (eqb axis y_axis) 1 0
