-- What the bridge is given by numbers: a layout by its counts and the number of its stage, and shapes by their components.
use Rattle.std.specs.Prelude.{cond, ℕ, ◌+◌, eqb, ltb, Float}
use Rattle.layout.specs.declared.Stage.{Stage}
use Rattle.layout.specs.declared.Stage.TheVariants.{Points, Circles, Arcs, Done}
use Rattle.layout.specs.declared.Layout.{Layout}
use Rattle.layout.specs.declared.Point.{Point}
use Rattle.layout.specs.Slots.{Figure, point, circle, arc, most_shapes}

-- the number of the last stage
abbrev pub last_stage : ℕ
last_stage = 3

-- the stage with a number; a number past the last gives the last
abbrev pub stage_by : ℕ → Stage
stage_by s = cond (eqb s 0) Points (cond (eqb s 1) Circles (cond (eqb s 2) Arcs Done))

-- so many points; with no such stage, more than there can be, so that 20 is told
abbrev pub points_by : ℕ → ℕ → ℕ
points_by points s = cond (ltb last_stage s) (most_shapes + 1) points

-- a layout by its counts and the number of its stage
unfoldable pub layout_by : ℕ → ℕ → ℕ → ℕ → Layout
layout_by points circles arcs s = record { points = points_by points s; circles = circles; arcs = arcs; stage = stage_by s }

-- x and y
abbrev pub xy : Float → Float → Point
xy x y = record { x = x; y = y }

-- shapes by their components
abbrev pub point_by : Float → Float → Figure
point_by x y = point (xy x y)

abbrev pub circle_by : Float → Float → Float → Figure
circle_by x y radius = circle (record { center = xy x y; radius = radius })

abbrev pub arc_by : Float → Float → Float → Float → Float → Float → Figure
arc_by ax ay bx by cx cy = arc (record { a = xy ax ay; b = xy bx by; center = xy cx cy })
