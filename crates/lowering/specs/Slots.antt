-- The slots of a drawing (docs/FORMAT.md, "Layout, check, lowering"): all points (x, y), then circles (center x, center y, radius), then arcs
-- (a.x, a.y, b.x, b.y, center.x, center.y). Each slot goes by the name of its component, and starts at that component's guess.
use Rattle.std.specs.Prelude.{cond, List, [], ◌∷◌, ◌++◌, map, ℕ, eqb, length, Float}
use Rattle.std.specs.Float.{binary64}
use Rattle.std.specs.Float.Ieee.{of_bits}
use Rattle.ground.specs.Lists.{flat}
use Rattle.layout.specs.declared.Layout.{Layout}
use Rattle.layout.specs.declared.Stage.TheVariants.{Done}
use Rattle.layout.specs.declared.ShapeKind.{ShapeKind}
use Rattle.layout.specs.declared.ShapeKind.TheVariants as K
use Rattle.layout.specs.Slots.{size_of, slot_of}
use Rattle.kinds.specs.Kinds.{pair_guess, number_guess}
use Rattle.record.specs.Entry.{Label, Entry, entry_at, label_no}
use Rattle.drawing.specs.Needs.{Shape, point, circle, arc, declaring, Part, parts}
use Rattle.names.specs.Labels.{kind_no, labelled, lowest_or}
use Rattle.drawing.specs.Check.{count_below}

-- ---- components

-- a component of a part: the part's x, its y, or its one number
abbrev pub x_axis : ℕ
x_axis = 1

abbrev pub y_axis : ℕ
y_axis = 2

abbrev pub no_axis : ℕ
no_axis = 0

-- one component of one declared shape: the shape's label, what stands behind it, and the axis
pub record Slot : Type 0 where
  pub shape : Label
  pub suffix : Label
  pub axis : ℕ

-- the same, put together
abbrev pub slot : Label → Label → ℕ → Slot
slot l suffix axis = record { shape = l; suffix = suffix; axis = axis }

-- the components of a part of the shape l: a pair has two, a number is one
abbrev pub slots_of_part : Label → Part → List Slot
slots_of_part l p = cond (eqb p.guess pair_guess) (slot l p.suffix x_axis ∷ slot l p.suffix y_axis ∷ []) (slot l p.suffix no_axis ∷ [])

-- the components of a shape with the label l
abbrev pub slots_of_shape : Shape → Label → List Slot
slots_of_shape s l = flat (slots_of_part l) (parts s)

-- ---- the slots of a drawing

-- the labels of the declared shapes of a kind, in record order
abbrev pub labels_of : Shape → List Entry → List Label
labels_of s [] = []
labels_of s (e ∷ es) = cond (eqb e.kind (declaring s)) (label_no e 0 ∷ labels_of s es) (labels_of s es)

-- the slots of the shapes of a kind
abbrev pub slots_of : Shape → List Entry → List Slot
slots_of s es = flat (slots_of_shape s) (labels_of s es)

-- all points, then circles, then arcs
unfoldable pub slots : List Entry → List Slot
slots es = slots_of point es ++ (slots_of circle es ++ slots_of arc es)

-- ---- the layout

-- the layout's kind of a shape
abbrev pub kind_for : Shape → ShapeKind
kind_for point = K.Point
kind_for circle = K.Circle
kind_for arc = K.Arc

-- how many slots a shape has
abbrev pub size : Shape → ℕ
size s = size_of (kind_for s)

-- how many shapes of a kind the first n records declare
abbrev pub before : Shape → List Entry → ℕ → ℕ
before s es n = count_below (kind_no es) (declaring s) (declaring s) n

-- how many shapes of a kind are declared: P, C and A
abbrev pub how_many : Shape → List Entry → ℕ
how_many s es = before s es (length es)

-- the layout after all pushes
abbrev pub layout_of : List Entry → Layout
layout_of es = record { points = how_many point es; circles = how_many circle es; arcs = how_many arc es; stage = Done }

-- the first slot of the shape that record i declares, by its number among those of its kind: arcs from 2P + 3C on
abbrev pub first_slot : Shape → List Entry → ℕ → ℕ
first_slot s es i = slot_of (kind_for s) (layout_of es) (before s es i)

-- ---- starting values

-- the guess with a label
unfoldable pub guess_of : List Entry → Label → Entry
guess_of es l = entry_at es (lowest_or (length es) (labelled es pair_guess number_guess l))

-- a guess's number for an axis
abbrev pub number_for : ℕ → Entry → ℕ
number_for axis g = cond (eqb axis y_axis) g.y g.x

-- what a component starts at
abbrev pub start_of : List Entry → Slot → Float
start_of es s = of_bits binary64 (number_for s.axis (guess_of es (s.shape ++ s.suffix)))

-- the starting values of all slots
unfoldable pub values_of : List Entry → List Float
values_of es = map (start_of es) (slots es)
