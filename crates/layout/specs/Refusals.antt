-- Refusals 20 to 25: the reasons for which a layout refuses, their numbers, and when each holds. The first of an order that holds is told, at place 0.
use Rattle.std.specs.Prelude.{ℕ, ◌+◌, ◌-◌, ◌<◌, Bool, false, not, ◌&&◌, ◌||◌, List, [], ◌∷◌, leb, ltb, eqb}
use Rattle.refusal.specs.First.{Answer, once}
use Rattle.layout.specs.declared.Stage.TheVariants.{Done}
use Rattle.layout.specs.declared.ShapeKind.{ShapeKind}
use Rattle.layout.specs.declared.ShapeKind.TheVariants as K
use Rattle.layout.specs.declared.Layout.{Layout}
use Rattle.layout.specs.Slots.{most_shapes, ids_end, size_of, shapes_in, slot_count, stage_number, stage_due}

-- ---- the reasons

pub data Reason : Type 0 where
  cannot_be wrong_stage full short few_ids no_shape : Reason

-- docs/FORMAT.md's number of a reason
abbrev pub reason_number : Reason → ℕ
reason_number cannot_be = 20
reason_number wrong_stage = 21
reason_number full = 22
reason_number short = 23
reason_number few_ids = 24
reason_number no_shape = 25

-- the orders in which they are told: of a push, of `done`, and of a lookup or a readout
abbrev pub push_order : List Reason
push_order = cannot_be ∷ wrong_stage ∷ full ∷ short ∷ few_ids ∷ []

abbrev pub done_order : List Reason
done_order = cannot_be ∷ wrong_stage ∷ []

abbrev pub look_order : List Reason
look_order = cannot_be ∷ short ∷ no_shape ∷ []

-- the numbers rise along an order, from above n on
abbrev pub Rising : ℕ → List Reason → Type 0
Rising n [] = Unit {0}
Rising n (r ∷ order) = (n < reason_number r) × Rising (reason_number r) order

-- ---- when each holds

-- 20: a count over 4,000, circles at the points stage, or arcs before the arcs stage
unfoldable pub impossible : Layout → Bool
impossible l =
    ltb most_shapes l.points || ltb most_shapes l.circles || ltb most_shapes l.arcs
    || (ltb 0 l.circles && ltb (stage_number l.stage) (stage_due K.Circle)) || (ltb 0 l.arcs && ltb (stage_number l.stage) (stage_due K.Arc))

-- of a push of a shape of a kind, given the next id and the lengths of the slices of ids and values: 21 at another stage; 22 with 4,000 of the kind already;
-- 23 with fewer slots than the layout has, the shape counted in; 24 with fewer ids left than due
abbrev pub bars_push : ShapeKind → Layout → ℕ → ℕ → ℕ → Reason → Bool
bars_push k l next ids values cannot_be = impossible l
bars_push k l next ids values wrong_stage = not (eqb (stage_number l.stage) (stage_due k))
bars_push k l next ids values full = leb most_shapes (shapes_in k l)
bars_push k l next ids values short = ltb ids (slot_count l + size_of k) || ltb values (slot_count l + size_of k)
bars_push k l next ids values few_ids = ltb (ids_end - next) (size_of k)
bars_push k l next ids values no_shape = false

-- of `done`: 21 at the last stage
abbrev pub bars_done : Layout → Reason → Bool
bars_done l cannot_be = impossible l
bars_done l wrong_stage = eqb (stage_number l.stage) (stage_number Done)
bars_done l full = false
bars_done l short = false
bars_done l few_ids = false
bars_done l no_shape = false

-- of a lookup or a readout of shape i of a kind, given the slice's length: 23 with fewer slots than the layout has; 25 with no shape of this number
abbrev pub bars_look : ShapeKind → Layout → ℕ → ℕ → Reason → Bool
bars_look k l len i cannot_be = impossible l
bars_look k l len i wrong_stage = false
bars_look k l len i full = false
bars_look k l len i short = ltb len (slot_count l)
bars_look k l len i few_ids = false
bars_look k l len i no_shape = leb (shapes_in k l) i

-- ---- what is told

unfoldable pub push_told : ShapeKind → Layout → ℕ → ℕ → ℕ → Answer Reason
push_told k l next ids values = once push_order (bars_push k l next ids values)

unfoldable pub done_told : Layout → Answer Reason
done_told l = once done_order (bars_done l)

unfoldable pub look_told : ShapeKind → Layout → ℕ → ℕ → Answer Reason
look_told k l len i = once look_order (bars_look k l len i)
