-- What a component's name stands for in a shape that is read out, and in its ids: `.a` and y stand for the y of the arc's a.
use Rattle.std.specs.Prelude.{cond, ℕ, eqb, Float}
use Rattle.ground.specs.Words.{bytes}
use Rattle.layout.specs.declared.ShapeKind.{ShapeKind}
use Rattle.layout.specs.declared.ShapeKind.TheVariants as K
use Rattle.layout.specs.declared.PointVars.{PointVars}
use Rattle.layout.specs.declared.CircleVars.{CircleVars}
use Rattle.layout.specs.declared.ArcVars.{ArcVars}
use Rattle.layout.specs.Slots.{Figure, point, circle, arc}
use Rattle.names.specs.Labels.{same}
use Rattle.lowering.specs.Slots.{Slot, y_axis}

-- ---- by a component's name

-- x or y
abbrev pub on_axis : {A : Type 0} → A → A → ℕ → A
on_axis x y axis = cond (eqb axis y_axis) y x

-- the center's x and y, or the radius
abbrev pub in_circle : {A : Type 0} → A → A → A → Slot → A
in_circle x y radius t = cond (same t.suffix (bytes ".radius")) radius (on_axis x y t.axis)

-- x and y of a, b or the center
abbrev pub in_arc : {A : Type 0} → A → A → A → A → A → A → Slot → A
in_arc ax ay bx by x y t =
    cond (same t.suffix (bytes ".a")) (on_axis ax ay t.axis) (cond (same t.suffix (bytes ".b")) (on_axis bx by t.axis) (on_axis x y t.axis))

-- ---- in a shape and in its ids

-- the field of a shape that a component's suffix and axis stand for
abbrev pub field_of : Figure → Slot → Float
field_of (point p) t = on_axis p.x p.y t.axis
field_of (circle c) t = in_circle c.center.x c.center.y c.radius t
field_of (arc a) t = in_arc a.a.x a.a.y a.b.x a.b.y a.center.x a.center.y t

-- the ids of a shape, as a lookup hands them back
pub data Ids : Type 0 where
  of_point : PointVars → Ids
  of_circle : CircleVars → Ids
  of_arc : ArcVars → Ids

-- their shape's kind
abbrev pub ids_kind : Ids → ShapeKind
ids_kind (of_point p) = K.Point
ids_kind (of_circle c) = K.Circle
ids_kind (of_arc a) = K.Arc

-- the id that a component's suffix and axis stand for
abbrev pub id_of : Ids → Slot → ℕ
id_of (of_point p) t = on_axis p.x p.y t.axis
id_of (of_circle c) t = in_circle c.center.x c.center.y c.radius t
id_of (of_arc a) t = in_arc a.start.x a.start.y a.end.x a.end.y a.center.x a.center.y t
