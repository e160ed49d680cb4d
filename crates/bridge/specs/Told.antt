-- What the bridge tells: a code, 0 where all is good and else the number of the refusal, and six numbers. For each answer of the
-- library a definition says which.
use Rattle.std.specs.Prelude.{◌≡◌, List, [], ◌∷◌, cond, ℕ, eqb, leb, length, Float, Result, Ok, Err}
use Rattle.std.specs.Float.{binary64}
use Rattle.std.specs.Float.Ieee.{to_bits}
use Rattle.bridge.specs.declared.told.Told.{Told}
use Rattle.kinds.specs.Kinds.{label_places}
use Rattle.record.specs.Decode.{decode_at}
use Rattle.record.specs.Entry.{Label, view_of}
use Rattle.reader.specs.declared.Reading.{Reading}
use Rattle.drawing.specs.declared.Checked.{Checked}
use Rattle.ask.specs.declared.Angle.{Angle}
use Rattle.ask.specs.declared.Angle.TheVariants.{Degrees, Radians}
use Rattle.lowering.specs.declared.Lowered.{Lowered}
use Rattle.layout.specs.declared.Layout.{Layout}
use Rattle.refusal.specs.declared.Refusal.{Refusal}
use Rattle.layout.specs.declared.Pushed.{Pushed}
use Rattle.layout.specs.declared.Point.{Point}
use Rattle.layout.specs.declared.Circle.{Circle}
use Rattle.layout.specs.declared.Arc.{Arc}
use Rattle.layout.specs.declared.PointVars.{PointVars}
use Rattle.layout.specs.declared.CircleVars.{CircleVars}
use Rattle.layout.specs.declared.ArcVars.{ArcVars}
use Rattle.layout.specs.Slots.{stage_number}

-- ---- codes and numbers

-- a good answer, by its parts
abbrev pub good_told : List ℕ → Told
good_told parts = record { code = 0; parts = parts }

-- a refusal, by its number and place
abbrev pub refused_told : Refusal → Told
refused_told r = record { code = r.number; parts = r.place ∷ 0 ∷ 0 ∷ 0 ∷ 0 ∷ 0 ∷ [] }

-- a code and numbers that tell an answer which the library's promise allows
pub record Tells {A : Type 0} (promise : A → Type 0) (told : A → Told) (code : ℕ) (parts : List ℕ) : Type 0 where
  pub answer : A
  pub promised : promise answer
  pub is : record { code = code; parts = parts } ≡ told answer

-- an answer by its parts where it is good
abbrev pub told_by : {A : Type 0} → (A → List ℕ) → Result A Refusal → Told
told_by parts (Ok x) = good_told (parts x)
told_by parts (Err r) = refused_told r

-- ---- pages and records

-- the parts of a reading: how many instructions and guesses there are, and where it stopped
abbrev pub reading_parts : Reading → List ℕ
reading_parts reading = reading.instructions ∷ reading.guesses ∷ reading.end ∷ 0 ∷ 0 ∷ 0 ∷ []

-- of a check: how many points, circles, arcs and rows there are
abbrev pub checked_parts : Checked → List ℕ
checked_parts checked = checked.points ∷ checked.circles ∷ checked.arcs ∷ checked.rows ∷ 0 ∷ 0 ∷ []

-- a layout by its counts and the number of its stage, and two numbers more
abbrev pub layout_parts : Layout → ℕ → ℕ → List ℕ
layout_parts l e f = l.points ∷ l.circles ∷ l.arcs ∷ stage_number l.stage ∷ e ∷ f ∷ []

-- of a lowering: the layout, the next id, and how many rows there are
abbrev pub lowered_parts : Lowered → List ℕ
lowered_parts lowered = layout_parts lowered.layout lowered.next lowered.rows

-- the bits of a number
abbrev pub bits_of : Float → ℕ
bits_of x = to_bits binary64 x

-- where label q of a record starts, given its length; an empty one starts at 0
abbrev pub start_told : List ℕ → ℕ → ℕ → ℕ
start_told b q len = cond (eqb len 0) 0 (cond (leb label_places q) 0 (view_of (decode_at b 0) q).start)

-- label q of a record: its start and its length
abbrev pub label_told : List ℕ → ℕ → Label → Told
label_told b q l = good_told (start_told b q (length l) ∷ length l ∷ 0 ∷ 0 ∷ 0 ∷ 0 ∷ [])

-- an angle: 1 for degrees or 2 for radians, and the bits of its number
abbrev pub angle_parts : Angle → List ℕ
angle_parts (Degrees x) = 1 ∷ bits_of x ∷ 0 ∷ 0 ∷ 0 ∷ 0 ∷ []
angle_parts (Radians x) = 2 ∷ bits_of x ∷ 0 ∷ 0 ∷ 0 ∷ 0 ∷ []

-- what each of these answers tells
abbrev pub reading_told : Result Reading Refusal → Told
reading_told = told_by reading_parts

abbrev pub checked_told : Result Checked Refusal → Told
checked_told = told_by checked_parts

abbrev pub lowered_told : Result Lowered Refusal → Told
lowered_told = told_by lowered_parts

abbrev pub asked_told : Result Angle Refusal → Told
asked_told = told_by angle_parts

-- ---- layouts

-- the parts of a push: the layout and the next id
abbrev pub pushed_parts : Pushed → List ℕ
pushed_parts p = layout_parts p.layout p.next 0

-- of a step to the next stage
abbrev pub stepped_parts : Layout → List ℕ
stepped_parts layout = layout_parts layout 0 0

-- of the ids of a point: of x and y
abbrev pub point_ids_parts : PointVars → List ℕ
point_ids_parts v = v.x ∷ v.y ∷ 0 ∷ 0 ∷ 0 ∷ 0 ∷ []

-- of a circle: of the center's x and y, and of the radius
abbrev pub circle_ids_parts : CircleVars → List ℕ
circle_ids_parts v = v.center.x ∷ v.center.y ∷ v.radius ∷ 0 ∷ 0 ∷ 0 ∷ []

-- of an arc: of x and y of its start, its end and its center
abbrev pub arc_ids_parts : ArcVars → List ℕ
arc_ids_parts v = v.start.x ∷ v.start.y ∷ v.end.x ∷ v.end.y ∷ v.center.x ∷ v.center.y ∷ []

-- of a point read out: the bits of x and y
abbrev pub point_parts : Point → List ℕ
point_parts p = bits_of p.x ∷ bits_of p.y ∷ 0 ∷ 0 ∷ 0 ∷ 0 ∷ []

-- of a circle: the bits of the center's x and y, and of the radius
abbrev pub circle_parts : Circle → List ℕ
circle_parts c = bits_of c.center.x ∷ bits_of c.center.y ∷ bits_of c.radius ∷ 0 ∷ 0 ∷ 0 ∷ []

-- of an arc: the bits of x and y of a, b and the center
abbrev pub arc_parts : Arc → List ℕ
arc_parts a = bits_of a.a.x ∷ bits_of a.a.y ∷ bits_of a.b.x ∷ bits_of a.b.y ∷ bits_of a.center.x ∷ bits_of a.center.y ∷ []

-- what each of these answers tells
abbrev pub pushed_told : Result Pushed Refusal → Told
pushed_told = told_by pushed_parts

abbrev pub stepped_told : Result Layout Refusal → Told
stepped_told = told_by stepped_parts

abbrev pub point_ids_told : Result PointVars Refusal → Told
point_ids_told = told_by point_ids_parts

abbrev pub circle_ids_told : Result CircleVars Refusal → Told
circle_ids_told = told_by circle_ids_parts

abbrev pub arc_ids_told : Result ArcVars Refusal → Told
arc_ids_told = told_by arc_ids_parts

abbrev pub point_told : Result Point Refusal → Told
point_told = told_by point_parts

abbrev pub circle_told : Result Circle Refusal → Told
circle_told = told_by circle_parts

abbrev pub arc_told : Result Arc Refusal → Told
arc_told = told_by arc_parts
