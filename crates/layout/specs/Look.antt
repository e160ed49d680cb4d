-- What the lookups of ids and the readout answer, by the number of a shape.
use Rattle.std.specs.Prelude.{ℕ, ◌+◌, ◌*◌, List, length, get_or, Float, Result, Ok, Err}
use Rattle.std.specs.Float.{nan}
use Rattle.refusal.specs.declared.Refusal.{Refusal}
use Rattle.refusal.specs.First.{answered}
use Rattle.layout.specs.declared.ShapeKind.{ShapeKind}
use Rattle.layout.specs.declared.ShapeKind.TheVariants.{Point, Circle, Arc}
use Rattle.layout.specs.declared.Layout.{Layout}
use Rattle.layout.specs.declared.Point as DP
use Rattle.layout.specs.declared.Circle as DC
use Rattle.layout.specs.declared.Arc as DA
use Rattle.layout.specs.declared.PointVars.{PointVars}
use Rattle.layout.specs.declared.CircleVars.{CircleVars}
use Rattle.layout.specs.declared.ArcVars.{ArcVars}
use Rattle.layout.specs.Slots.{size_of, slot_of}
use Rattle.layout.specs.Refusals.{reason_number, look_told}

-- ---- any shape, in numbers or in ids

-- what is told of shape i of a kind in a slice of a length, and else what is good
abbrev pub look_answer : {A : Type 0} → ShapeKind → Layout → ℕ → ℕ → A → Result A Refusal
look_answer k l len i good = answered reason_number Err (look_told k l len i) (Ok good)

-- shape i of a kind, as it is read from a slot on
unfoldable pub looked : {X A : Type 0} → ShapeKind → (List X → ℕ → A) → Layout → List X → ℕ → Result A Refusal
looked k read l slots i = look_answer k l (length slots) i (read slots (slot_of k l i))

-- ---- ids

-- the ids of a point from a slot on
abbrev pub point_vars : List ℕ → ℕ → PointVars
point_vars ids at = record { x = get_or ids at 0; y = get_or ids (at + 1) 0 }

-- those of a circle
abbrev pub circle_vars : List ℕ → ℕ → CircleVars
circle_vars ids at = record { center = point_vars ids at; radius = get_or ids (at + 2) 0 }

-- those of an arc
abbrev pub arc_vars : List ℕ → ℕ → ArcVars
arc_vars ids at = record {
  start = point_vars ids at;
  end = record { x = get_or ids (at + 2) 0; y = get_or ids (at + 3) 0 };
  center = record { x = get_or ids (at + 4) 0; y = get_or ids (at + 5) 0 };
}

-- the ids of point i
abbrev pub point_ids : Layout → List ℕ → ℕ → Result PointVars Refusal
point_ids = looked Point point_vars

-- the ids of circle i
abbrev pub circle_ids : Layout → List ℕ → ℕ → Result CircleVars Refusal
circle_ids = looked Circle circle_vars

-- the ids of arc i as geometry_variables.rs has it, from 2P on
unfoldable pub arc_ids : Layout → List ℕ → ℕ → Result ArcVars Refusal
arc_ids l ids i = look_answer Arc l (length ids) i (arc_vars ids (l.points * size_of Point + i * size_of Arc))

-- the ids of arc i by the added lookup, from 2P+3C on
abbrev pub arc_slot_ids : Layout → List ℕ → ℕ → Result ArcVars Refusal
arc_slot_ids = looked Arc arc_vars

-- ---- values

-- the point whose values stand from a slot on
abbrev pub point_at : List Float → ℕ → DP.Point
point_at values at = record { x = get_or values at nan; y = get_or values (at + 1) nan }

-- the circle whose values stand from a slot on
abbrev pub circle_at : List Float → ℕ → DC.Circle
circle_at values at = record { center = point_at values at; radius = get_or values (at + 2) nan }

-- the arc whose values stand from a slot on
abbrev pub arc_at : List Float → ℕ → DA.Arc
arc_at values at = record {
  a = point_at values at;
  b = record { x = get_or values (at + 2) nan; y = get_or values (at + 3) nan };
  center = record { x = get_or values (at + 4) nan; y = get_or values (at + 5) nan };
}

-- point i, read out
abbrev pub point_read : Layout → List Float → ℕ → Result DP.Point Refusal
point_read = looked Point point_at

-- circle i, read out
abbrev pub circle_read : Layout → List Float → ℕ → Result DC.Circle Refusal
circle_read = looked Circle circle_at

-- arc i, read out
abbrev pub arc_read : Layout → List Float → ℕ → Result DA.Arc Refusal
arc_read = looked Arc arc_at
