-- The id of a component is looked up under the name of the component: the lookup of a shape by its number clears its tests, and takes the ids of the
-- shape's slots in the order of its components' names. Assumes nothing.
use mathlib.Core.Path.{◌≡◌, refl, ◌∙◌}
use mathlib.Core.List.{List, map}
use Prim.Native.Nat.{ℕ, ◌+◌, ◌≤◌, ◌<◌}
use native.Mathlib.Omega.{arith}
use lib.ListN.{length, get_or, drop, length-append, get_or-append}
use Rattle.ground.specs.Lists.{up_to}
use Rattle.std.specs.Prelude.{Err}
use Rattle.layout.specs.Slots as layout
use Rattle.layout.specs.Refusals.{reason_number, look_told}
use Rattle.layout.specs.Look.{point_vars, circle_vars, arc_vars, looked}
use Rattle.refusal.specs.First.{EachBelow, passed}
use Rattle.refusal.proofs.Once.{answered_passed}
use Rattle.layout.specs.Push.{onward}
use Rattle.layout.proofs.Onward.{length_onward, get_or_onward}
use Rattle.layout.proofs.Laws.{look_passes}
use Rattle.record.specs.Entry.{Label, Entry}
use Rattle.names.specs.Labels.{name_no}
use Rattle.drawing.specs.Needs.{Shape, point, circle, arc}
use Rattle.lowering.specs.Slots.{Slot, slots_of_shape, slots, size, before, kind_for, layout_of, first_slot}
use Rattle.lowering.specs.Fields.{Ids, of_point, of_circle, of_arc, ids_kind, id_of}
use Rattle.lowering.specs.Lower.{onto}
use Rattle.lowering.specs.Demand.{Declares, ComponentOf, HandsIds, LookedUp}
use Rattle.lowering.proofs.drawing.Counts.{before_inside, at_first, slots_by_lem, length_slots, possible}

-- ---- the ids that are given

module _ (es : List Entry) (next : ℕ) (ids : List ℕ) where
  pub given_id : EachBelow (length (slots es)) (λ j. get_or (onto ids (onward next (length (slots es)))) j 0 ≡ next + j)
  given_id j h =
      let n = length (slots es) in
      get_or-append (onward next n) (drop (length (onward next n)) ids) 0 j (omega (arith, h, length_onward next n)) ∙ get_or_onward next n j h

  pub given_long : length (slots es) ≤ length (onto ids (onward next (length (slots es))))
  given_long = simp (length-append, length_onward) (omega arith)

-- ---- the ids of a shape, in the order of its components' names

module _ (ids : List ℕ) (at : ℕ) where
  abbrev taken : Shape → Ids
  taken point = of_point (point_vars ids at)
  taken circle = of_circle (circle_vars ids at)
  taken arc = of_arc (arc_vars ids at)

  ids_by_name : (s : Shape) (l : Label) → (ids_kind (taken s) ≡ kind_for s) × (map (id_of (taken s)) (slots_of_shape s l) ≡ up_to (size s) (λ k. get_or ids (at + k) 0))
  ids_by_name point l = (refl, rw (at_first ids at 0) refl)
  ids_by_name circle l = (refl, rw (at_first ids at 0) refl)
  ids_by_name arc l = (refl, rw (at_first ids at 0) refl)

-- ---- what the lookups hand back

module _ (es : List Entry) (few : length es ≤ layout.most_shapes) (ids : List ℕ) (long : length (slots es) ≤ length ids) where
  clear : (i : ℕ) (s : Shape) → before s es i < layout.shapes_in (kind_for s) (layout_of es) → look_told (kind_for s) (layout_of es) (length ids) (before s es i) ≡ passed
  clear i s = look_passes (kind_for s) (layout_of es) (length ids) (before s es i) (possible es few) (omega (arith, long, length_slots es))

  handed_back : (i : ℕ) (s : Shape) → Declares es i s → HandsIds es ids i (taken ids (first_slot s es i) s)
  unfolding looked
  handed_back i point d = answered_passed reason_number Err _ _ (clear i point (before_inside es i point d))
  handed_back i circle d = answered_passed reason_number Err _ _ (clear i circle (before_inside es i circle d))
  handed_back i arc d = answered_passed reason_number Err _ _ (clear i arc (before_inside es i arc d))

  pub looked_up : (i : ℕ) (s : Shape) (k : ℕ) (t : Slot) (n : ℕ) → ComponentOf es i s k t → get_or ids (first_slot s es i + k) 0 ≡ n → LookedUp es ids i s t n
  looked_up i s k t n c e =
      let at = first_slot s es i in
      let (kind, named) = ids_by_name ids at s (name_no es i) in
      record {
        found = taken ids at s;
        of_kind = kind;
        handed_back = handed_back i s c.declared;
        id_is = slots_by_lem (id_of (taken ids at s)) (λ k. get_or ids (at + k) 0) 0 c named ∙ e;
      }
