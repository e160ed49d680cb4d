-- What a label names in a fine drawing, by the record that declares its shape: the shape's slots stand together, and no other slot has its label.
-- Assumes nothing.
use mathlib.Core.Path.{◌≡◌, refl, sym, ◌∙◌}
use mathlib.Core.Logic.{◌⊎◌, inl, inr}
use mathlib.Core.List.{List, [], ◌++◌, append_cancel_left}
use Prim.Native.Nat.{ℕ, ◌+◌, ◌-◌, ◌≤◌, ◌<◌}
use lib.ListN.{length, get_or}
use native.Mathlib.Omega.{arith}
use Rattle.ground.specs.Words.{bytes}
use Rattle.refusal.proofs.Says.{Says, says_iff, says_eq, says_and}
use Rattle.record.specs.Entry.{Label, Entry}
use Rattle.names.specs.Labels.{name_no}
use Rattle.names.specs.Cut.{stem, Pointless, KnownPart}
use Rattle.names.proofs.Laws.{says_same}
use Rattle.names.proofs.Cut.{stem_of}
use Rattle.drawing.specs.Needs.{Shape, point, circle, arc, declaring}
use Rattle.lowering.specs.Slots.{x_axis, y_axis, Slot, slot, slots_of_shape, slots, size, first_slot}
use Rattle.lowering.specs.Rows.{Naming, whole, part, center, Names, names}
use Rattle.lowering.specs.Demand.{no_slot, slot_at, Declares}
use Rattle.lowering.specs.Sketch.{size_by, center_by, axis_at}
use Rattle.lowering.proofs.drawing.Fine.{Fine, pointless}
use Rattle.lowering.proofs.slots.Components.{each_own, label_of, slot_of_lem, component_at_lem, slot_is, place_is}

-- the test of a name says that it names
pub says_names : (n : Naming) (third : ℕ) (l : Label) (s : Slot) → Says (names n third l s) (Names n third l s)
says_names whole third l s = says_same _ _
says_names part third l s = says_and (says_same _ _) (says_eq _ _)
says_names center third l s = says_and (says_same _ _) (says_eq _ _)

pub sizes : (s : Shape) → (0 < size s) × (size_by (declaring s) ≡ size s)
sizes point = (omega arith, refl)
sizes circle = (omega arith, refl)
sizes arc = (omega arith, refl)

-- ---- the x and y that a rule fixes: that of a point or a center

abbrev pub pair_part_of : Shape → Label
pair_part_of point = []
pair_part_of circle = bytes ".center"
pair_part_of arc = bytes ".center"

pub pair_known : (s : Shape) → KnownPart (pair_part_of s)
pair_known point = record { begins = refl; one = omega arith }
pair_known circle = record { begins = refl; one = omega arith }
pair_known arc = record { begins = refl; one = omega arith }

-- x or y
abbrev pub XY : ℕ → Type 0
XY a = (a ≡ x_axis) ⊎ (a ≡ y_axis)

-- where it stands among its shape's slots
abbrev pub pair_at : Shape → ℕ → ℕ
pair_at s a = center_by (declaring s) + axis_at a

pub stands : (s : Shape) (a : ℕ) → XY a → (pair_at s a < size s) × ((l : Label) → get_or (slots_of_shape s l) (pair_at s a) no_slot ≡ slot l (pair_part_of s) a)
stands point a (inl e) = rw e (omega arith, λ l. refl)
stands point a (inr e) = rw e (omega arith, λ l. refl)
stands circle a (inl e) = rw e (omega arith, λ l. refl)
stands circle a (inr e) = rw e (omega arith, λ l. refl)
stands arc a (inl e) = rw e (omega arith, λ l. refl)
stands arc a (inr e) = rw e (omega arith, λ l. refl)

-- ---- what the label of a declared shape names, and that of one of its parts

-- j is one of n slots from a place on
abbrev pub Among : ℕ → ℕ → ℕ → Type 0
Among a n j = (a ≤ j) × (j < a + n)

module _ (es : List Entry) (w : Fine es) where
  -- a slot's label has no point, and its part begins with one or is nothing
  clean : (j : ℕ) → j < length (slots es) → Pointless (slot_at es j).shape × (stem (slot_at es j).suffix ≡ [])
  clean j h =
      let (i, s, k, c, here) = component_at_lem es j h in
      rw c.is
      (each_own (λ (t : Slot). Pointless t.shape × (stem t.suffix ≡ [])) s (name_no es i) (λ u a b. (pointless es w i s c.declared, b)) k c.one_of_it)

  module _ (i : ℕ) (s : Shape) (d : Declares es i s) (third j : ℕ) (h : j < length (slots es)) where
    pub whole_meant : Says (names whole third (name_no es i) (slot_at es j)) (Among (first_slot s es i + 0) (size s) j)
    whole_meant =
        let m = j - first_slot s es i in
        says_iff (λ e. let (k, g, q) = slot_is es w i s j d h e in (omega (arith, q), omega (arith, g, q)))
        (λ r. let e : first_slot s es i + m ≡ j = omega (arith, r.0) in label_of es i s m (slot_at es j) (rw e at (slot_of_lem es i s m d (omega (arith, r.1, r.0))).1))
        (says_same (slot_at es j).shape (name_no es i))

    pub part_meant : XY third → Says (names part third (name_no es i ++ pair_part_of s) (slot_at es j)) (Among (first_slot s es i + pair_at s third) 1 j)
    part_meant o =
        let l = name_no es i in
        let u = pair_part_of s in
        let t = slot_at es j in
        let (inside, is) = stands s third o in
        says_iff
        (λ e.
        let (plain, behind) = clean j h in
        let own : t.shape ≡ l =
        sym (stem_of t.shape t.suffix (l ++ u) plain behind e.0) ∙ stem_of l u (l ++ u) (pointless es w i s d) (pair_known s).begins refl in
        let suffix : t.suffix ≡ u = append_cancel_left l t.suffix u (rw own at e.0) in
        let this : t ≡ slot l u third = λ x. slot (own x) (suffix x) (e.1 x) in
        let place = place_is es w i s (pair_at s third) j h (record { declared = d; one_of_it = inside; is = this ∙ sym (is l) }) in
        (omega (arith, place), omega (arith, place)))
        (λ r. let e : j ≡ first_slot s es i + pair_at s third = omega (arith, r.0, r.1) in rw (e, (slot_of_lem es i s (pair_at s third) d inside).1.is, is l) (refl, refl))
        (says_names part third (l ++ u) t)
