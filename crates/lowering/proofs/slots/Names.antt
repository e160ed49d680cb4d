-- What the name of each component stands for, in a shape that is read out and in its ids, name by name. Assumes nothing.
use mathlib.Core.Path.{◌≡◌, refl}
use mathlib.Core.List.{List, [], ◌∷◌, map}
use Rattle.ground.specs.Words.{bytes}
use Rattle.layout.specs.declared.Point.{Point}
use Rattle.layout.specs.declared.Circle.{Circle}
use Rattle.layout.specs.declared.Arc.{Arc}
use Rattle.layout.specs.declared.PointVars.{PointVars}
use Rattle.layout.specs.declared.CircleVars.{CircleVars}
use Rattle.layout.specs.declared.ArcVars.{ArcVars}
use Rattle.layout.specs.Slots.{point, circle, arc}
use Rattle.record.specs.Entry.{Label}
use Rattle.lowering.specs.Slots.{Slot, slot, x_axis, y_axis, no_axis}
use Rattle.lowering.specs.Fields.{field_of, of_point, of_circle, of_arc, id_of}

module _ (l : Label) where
  -- the names of the components of a point, a circle and an arc
  abbrev point_names : List Slot
  point_names = slot l [] x_axis ∷ slot l [] y_axis ∷ []

  abbrev circle_names : List Slot
  circle_names = slot l (bytes ".center") x_axis ∷ slot l (bytes ".center") y_axis ∷ slot l (bytes ".radius") no_axis ∷ []

  abbrev arc_names : List Slot
  arc_names =
      slot l (bytes ".a") x_axis ∷ slot l (bytes ".a") y_axis ∷ slot l (bytes ".b") x_axis ∷ slot l (bytes ".b") y_axis
      ∷ slot l (bytes ".center") x_axis ∷ slot l (bytes ".center") y_axis ∷ []

  -- the fields that they stand for
  pub fields_named : (p : Point) (c : Circle) (a : Arc)
      → (map (field_of (point p)) point_names ≡ p.x ∷ p.y ∷ [])
      × (map (field_of (circle c)) circle_names ≡ c.center.x ∷ c.center.y ∷ c.radius ∷ [])
      × (map (field_of (arc a)) arc_names ≡ a.a.x ∷ a.a.y ∷ a.b.x ∷ a.b.y ∷ a.center.x ∷ a.center.y ∷ [])
  fields_named p c a = (refl, refl, refl)

  -- the ids that they stand for: an arc's `.a` is its start, and `.b` its end
  pub ids_named : (p : PointVars) (c : CircleVars) (a : ArcVars)
      → (map (id_of (of_point p)) point_names ≡ p.x ∷ p.y ∷ [])
      × (map (id_of (of_circle c)) circle_names ≡ c.center.x ∷ c.center.y ∷ c.radius ∷ [])
      × (map (id_of (of_arc a)) arc_names ≡ a.start.x ∷ a.start.y ∷ a.end.x ∷ a.end.y ∷ a.center.x ∷ a.center.y ∷ [])
  ids_named p c a = (refl, refl, refl)
