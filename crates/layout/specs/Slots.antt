-- Slots: all points (x, y), then circles (center x, center y, radius), then arcs (a.x, a.y, b.x, b.y, center.x, center.y).
use Rattle.std.specs.Prelude.{ℕ, ◌+◌, ◌*◌, cond, eqb, Option, Some, None, List, [], ◌∷◌, Float}
use Rattle.layout.specs.declared.Stage.{Stage}
use Rattle.layout.specs.declared.Stage.TheVariants.{Points, Circles, Arcs, Done}
use Rattle.layout.specs.declared.ShapeKind.{ShapeKind}
use Rattle.layout.specs.declared.ShapeKind.TheVariants as K
use Rattle.layout.specs.declared.Layout.{Layout}
use Rattle.layout.specs.declared.Point.{Point}
use Rattle.layout.specs.declared.Circle.{Circle}
use Rattle.layout.specs.declared.Arc.{Arc}

-- ---- shapes

-- a shape of some kind
pub data Figure : Type 0 where
  point : Point → Figure
  circle : Circle → Figure
  arc : Arc → Figure

-- its kind
abbrev pub kind_of : Figure → ShapeKind
kind_of (point p) = K.Point
kind_of (circle c) = K.Circle
kind_of (arc a) = K.Arc

-- its components, in the order of its slots
abbrev pub components : Figure → List Float
components (point p) = p.x ∷ p.y ∷ []
components (circle c) = c.center.x ∷ c.center.y ∷ c.radius ∷ []
components (arc a) = a.a.x ∷ a.a.y ∷ a.b.x ∷ a.b.y ∷ a.center.x ∷ a.center.y ∷ []

-- how many slots a shape of a kind has
abbrev pub size_of : ShapeKind → ℕ
size_of K.Point = 2
size_of K.Circle = 3
size_of K.Arc = 6

-- ---- layouts

-- the most shapes of a kind
abbrev pub most_shapes : ℕ
most_shapes = 4000

-- one past the largest id that is given
abbrev pub ids_end : ℕ
ids_end = 4294967295

-- no shapes yet
abbrev pub empty : Layout
empty = record { points = 0; circles = 0; arcs = 0; stage = Points }

-- how many shapes of a kind a layout has
abbrev pub shapes_in : ShapeKind → Layout → ℕ
shapes_in K.Point l = l.points
shapes_in K.Circle l = l.circles
shapes_in K.Arc l = l.arcs

-- the layout with one more of a kind
abbrev pub with_one : ShapeKind → Layout → Layout
with_one K.Point l = record { points = l.points + 1; circles = l.circles; arcs = l.arcs; stage = l.stage }
with_one K.Circle l = record { points = l.points; circles = l.circles + 1; arcs = l.arcs; stage = l.stage }
with_one K.Arc l = record { points = l.points; circles = l.circles; arcs = l.arcs + 1; stage = l.stage }

-- the most slots of a layout
abbrev pub most_slots : ℕ
most_slots = most_shapes * (size_of K.Point + size_of K.Circle + size_of K.Arc)

-- how many slots a layout has
abbrev pub slot_count : Layout → ℕ
slot_count l = l.points * size_of K.Point + l.circles * size_of K.Circle + l.arcs * size_of K.Arc

-- where the slots of a kind begin
abbrev pub kind_start : ShapeKind → Layout → ℕ
kind_start K.Point l = 0
kind_start K.Circle l = l.points * size_of K.Point
kind_start K.Arc l = l.points * size_of K.Point + l.circles * size_of K.Circle

-- the first slot of shape i of a kind
abbrev pub slot_of : ShapeKind → Layout → ℕ → ℕ
slot_of k l i = kind_start k l + i * size_of k

-- ---- stages: points, circles, arcs, done

-- the number of a stage
abbrev pub stage_number : Stage → ℕ
stage_number Points = 0
stage_number Circles = 1
stage_number Arcs = 2
stage_number Done = 3

-- the stage with a number, if there is one
abbrev pub stage_numbered : ℕ → Option Stage
stage_numbered n = cond (eqb n 0) (Some Points) (cond (eqb n 1) (Some Circles) (cond (eqb n 2) (Some Arcs) (cond (eqb n 3) (Some Done) None)))

-- the number of the stage at which shapes of a kind are pushed
abbrev pub stage_due : ShapeKind → ℕ
stage_due K.Point = 0
stage_due K.Circle = 1
stage_due K.Arc = 2
