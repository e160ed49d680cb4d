-- The parts of a layout, each in a slot of its own, and how a readout shows them.
use Rattle.std.specs.Prelude.{ℕ, ◌+◌, ◌<◌, ◌≡◌, List, length, get_or, set, Float, Ok}
use Rattle.std.specs.Float.{nan}
use Rattle.layout.specs.declared.ShapeKind.{ShapeKind}
use Rattle.layout.specs.declared.ShapeKind.TheVariants as K
use Rattle.layout.specs.declared.Layout.{Layout}
use Rattle.layout.specs.declared.Point.{Point}
use Rattle.layout.specs.declared.Circle.{Circle}
use Rattle.layout.specs.declared.Arc.{Arc}
use Rattle.layout.specs.Slots.{Figure, point, circle, arc, components, size_of, shapes_in, slot_count, slot_of}
use Rattle.layout.specs.Look.{point_at, circle_at, arc_at, point_read, circle_read, arc_read}
use Rattle.layout.specs.Push.{State}

-- a component of a shape: the shape's kind, its number, and the component's place in it
pub record Component : Type 0 where
  pub kind : ShapeKind
  pub shape : ℕ
  pub place : ℕ

-- the layout has it
abbrev pub Has : Layout → Component → Type 0
Has l p = (p.shape < shapes_in p.kind l) × (p.place < size_of p.kind)

-- its slot
abbrev pub slot_for : Layout → Component → ℕ
slot_for l p = slot_of p.kind l p.shape + p.place

-- the shape of a kind that is read out from a slot on
abbrev pub shape_at : ShapeKind → List Float → ℕ → Figure
shape_at K.Point values at = point (point_at values at)
shape_at K.Circle values at = circle (circle_at values at)
shape_at K.Arc values at = arc (arc_at values at)

-- what is read out as a part
abbrev pub part_read : Layout → List Float → Component → Float
part_read l values p = get_or (components (shape_at p.kind values (slot_of p.kind l p.shape))) p.place nan

-- the readout of shape i of a kind finds it there
abbrev pub ReadsShape : ShapeKind → Layout → List Float → ℕ → Type 0
ReadsShape K.Point l values i = point_read l values i ≡ Ok (point_at values (slot_of K.Point l i))
ReadsShape K.Circle l values i = circle_read l values i ≡ Ok (circle_at values (slot_of K.Circle l i))
ReadsShape K.Arc l values i = arc_read l values i ≡ Ok (arc_at values (slot_of K.Arc l i))

-- a value put in a part's slot is read out as that part and as no other
pub record ReadsBack (l : Layout) (values : List Float) (p : Component) (x : Float) : Type 0 where
  pub inside : slot_for l p < slot_count l
  pub reads : (k : ShapeKind) (i : ℕ) → i < shapes_in k l → ReadsShape k l (set values (slot_for l p) x) i
  pub own : part_read l (set values (slot_for l p) x) p ≡ x
  pub others : (q : Component) → Has l q → (q ≡ p → ⊥) → part_read l (set values (slot_for l p) x) q ≡ part_read l values q

-- ---- what was pushed is read out

-- each shape is read out by its number; `other` stands for what is past the end
pub record ReadBack (last : State) (ps : List Point) (cs : List Circle) (xs : List Arc) : Type 0 where
  pub points : (i : ℕ) (other : Point) → i < length ps → point_read last.layout last.values i ≡ Ok (get_or ps i other)
  pub circles : (i : ℕ) (other : Circle) → i < length cs → circle_read last.layout last.values i ≡ Ok (get_or cs i other)
  pub arcs : (i : ℕ) (other : Arc) → i < length xs → arc_read last.layout last.values i ≡ Ok (get_or xs i other)
