-- A value put in a slot is read out as the component that the slot is named for, and no other: the layout keeps each shape's fields in the order of
-- its components' names, and each component has a slot of its own. Assumes nothing.
use mathlib.Core.Path.{◌≡◌, refl, sym, ap, ◌∙◌, subst}
use mathlib.Core.List.{List, map}
use Prim.Native.Nat.{ℕ, ◌+◌, ◌≤◌}
use native.Mathlib.Omega.{arith}
use lib.ListN.{length, get_or, set, length-set}
use lib.Seq.{get_or-set_same, get_or-set_other}
use lib.Ieee.{Float, nan}
use Rattle.ground.specs.Lists.{up_to}
use Rattle.refusal.specs.First.{EachBelow}
use Rattle.layout.specs.Slots as layout
use Rattle.layout.specs.Parts.{shape_at}
use Rattle.layout.proofs.Parts.{reads}
use Rattle.record.specs.Entry.{Label, Entry}
use Rattle.names.specs.Labels.{name_no}
use Rattle.drawing.specs.Needs.{Shape, point, circle, arc}
use Rattle.lowering.specs.Slots.{Slot, slots_of_shape, slots, size, before, kind_for, layout_of, first_slot}
use Rattle.lowering.specs.Fields.{field_of}
use Rattle.lowering.specs.Demand.{slot_at, Declares, ComponentOf, HandsBack, ReadAs, ReadOut}
use Rattle.lowering.proofs.drawing.Counts.{before_inside, length_slots, possible, slots_by_lem, at_first}
use Rattle.lowering.proofs.drawing.Fine.{Fine}
use Rattle.lowering.proofs.slots.Components.{slot_of_lem, place_is}

-- ---- the fields of a shape, in the order of its components' names

module _ (vs : List Float) (at : ℕ) where
  abbrev shape : Shape → layout.Figure
  shape s = shape_at (kind_for s) vs at

  fields : (s : Shape) (l : Label) → (layout.kind_of (shape s) ≡ kind_for s) × (map (field_of (shape s)) (slots_of_shape s l) ≡ up_to (size s) (λ k. get_or vs (at + k) nan))
  fields point l = (refl, rw (at_first vs at nan) refl)
  fields circle l = (refl, rw (at_first vs at nan) refl)
  fields arc l = (refl, rw (at_first vs at nan) refl)

-- ---- what is read out of the values of a drawing

module _ (es : List Entry) (w : Fine es) (few : length es ≤ layout.most_shapes) where
  module _ (vs : List Float) (long : length (slots es) ≤ length vs) where
    enough : layout.slot_count (layout_of es) ≤ length vs
    enough = omega (arith, long, length_slots es)

    handed_back : (i : ℕ) (s : Shape) → Declares es i s → HandsBack es vs i (shape_at (kind_for s) vs (first_slot s es i))
    handed_back i point d = reads (layout_of es) vs (possible es few) enough (kind_for point) (before point es i) (before_inside es i point d)
    handed_back i circle d = reads (layout_of es) vs (possible es few) enough (kind_for circle) (before circle es i) (before_inside es i circle d)
    handed_back i arc d = reads (layout_of es) vs (possible es few) enough (kind_for arc) (before arc es i) (before_inside es i arc d)

    -- each component is read out as what stands in its slot
    read_as : (i : ℕ) (s : Shape) (k : ℕ) (t : Slot) → ComponentOf es i s k t → ReadAs es vs i s t (get_or vs (first_slot s es i + k) nan)
    read_as i s k t c =
        let at = first_slot s es i in
        let (kind, named) = fields vs at s (name_no es i) in
        record {
          shape = shape_at (kind_for s) vs at;
          of_kind = kind;
          handed_back = handed_back i s c.declared;
          field_is = slots_by_lem (field_of (shape vs at s)) (λ k. get_or vs (at + k) nan) nan c named;
        }

  pub read_out : (vs : List Float) → length (slots es) ≤ length vs → (v : Float) → EachBelow (length (slots es)) (λ j. ReadOut es vs j v)
  read_out vs long v j h =
      let now = set vs j v in
      let long-now : length (slots es) ≤ length now = rw length-set long in
      record {
        own = λ i s k c.
            let e : get_or now (first_slot s es i + k) nan ≡ v = rw (← (place_is es w i s k j h c)) (get_or-set_same vs j v nan (omega (arith, h, long))) in
            subst (ReadAs es now i s (slot_at es j)) e (read_as now long-now i s k (slot_at es j) c);
        others = λ i s k t c other.
            let m = first_slot s es i + k in
            let there : t ≡ slot_at es m = c.is ∙ sym (slot_of_lem es i s k c.declared c.one_of_it).1.is in
            let e : get_or now m nan ≡ get_or vs m nan = get_or-set_other vs j m v nan (λ q. other (there ∙ ap (slot_at es) q)) in
            (get_or vs m nan, read_as vs long i s k t c, subst (ReadAs es now i s t) e (read_as now long-now i s k t c));
      }
