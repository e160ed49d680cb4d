-- The slots of a fine drawing are the components of its declared shapes, one for one: by the counts each slot is a component of a shape, and a slot's
-- label tells the shape. Assumes nothing.
use mathlib.Core.Path.{◌≡◌, refl, sym, ap, ◌∙◌}
use mathlib.Core.List.{List, [], ◌++◌, map, append_assoc, append-nil}
use Prim.Native.Nat.{ℕ, ◌+◌, ◌-◌, ◌*◌, ◌/◌, ◌%◌, ◌<◌}
use native.Mathlib.Omega.{arith}
use native.Mathlib.Decide.{dec_lt}
use lib.ListN.{length, get_or, take, drop, length-append}
use lib.Seq.{get_or-append-add, get_or-take, get_or-drop}
use Rattle.ground.specs.Lists.{up_to}
use Rattle.refusal.specs.First.{EachBelow}
use Rattle.layout.specs.Slots.{kind_start, slot_of}
use Rattle.record.specs.Entry.{Label, Entry}
use Rattle.names.specs.Labels.{kind_no, name_no}
use Rattle.names.specs.Cut.{stem}
use Rattle.drawing.specs.Needs.{Shape, point, circle, arc, declaring}
use Rattle.lowering.specs.Slots.{Slot, slot, slots_of_shape, labels_of, slots_of, slots, size, before, how_many, kind_for, layout_of, first_slot}
use Rattle.lowering.specs.Offsets.{component_at}
use Rattle.lowering.specs.Demand.{no_slot, slot_at, Declares, ComponentOf, OneComponent}
use Rattle.ground.proofs.Pieces.{Each, each_at, piece_at}
use Rattle.lowering.proofs.drawing.Counts.{one_of_kind, label_inside, before_inside, label_at_lem, length_shape, lengths, slots_by_lem, all_of, length_slots}
use Rattle.lowering.proofs.drawing.Fine.{Fine, same_shape}

-- ---- the components of one shape

-- what holds of a shape's label, whatever stands behind it, holds of its slots
pub each_own : (Q : Slot → Type 0) (s : Shape) (l : Label) → ((u : Label) (a : ℕ) → stem u ≡ [] → Q (slot l u a)) → (k : ℕ) → k < size s
    → Q (get_or (slots_of_shape s l) k no_slot)
each_own Q s l f k h = each_at Q (slots_of_shape s l) no_slot (all s) k (rw (length_shape s l) h)
  where
    all : (s : Shape) → Each Q (slots_of_shape s l)
    all point = (f _ _ refl, (f _ _ refl, tt))
    all circle = (f _ _ refl, (f _ _ refl, (f _ _ refl, tt)))
    all arc = (f _ _ refl, (f _ _ refl, (f _ _ refl, (f _ _ refl, (f _ _ refl, (f _ _ refl, tt))))))

-- a component has its shape's label
pub label_of : (es : List Entry) (i : ℕ) (s : Shape) (k : ℕ) (t : Slot) → ComponentOf es i s k t → t.shape ≡ name_no es i
label_of es i s k t c = rw c.is (each_own (λ (z : Slot). z.shape ≡ name_no es i) s (name_no es i) (λ u a b. refl) k c.one_of_it)

-- they differ: each tells its place
places_told : (s : Shape) (l : Label) → map (λ (t : Slot). component_at s t.suffix t.axis) (slots_of_shape s l) ≡ up_to (size s) (λ k. k)
places_told point l = refl
places_told circle l = refl
places_told arc l = refl

pub place_told : (es : List Entry) (i : ℕ) (s : Shape) (k : ℕ) (t : Slot) → ComponentOf es i s k t → component_at s t.suffix t.axis ≡ k
place_told es i s k t c = slots_by_lem (λ (t : Slot). component_at s t.suffix t.axis) (λ k. k) 0 c (places_told s (name_no es i))

-- ---- a slot and its component

module _ (es : List Entry) where
  -- the slots of a kind stand behind those of the kinds before it
  of_kinds : (s : Shape) → (front : List Slot) × (rest : List Slot) × (slots es ≡ front ++ (slots_of s es ++ rest)) × (length front ≡ kind_start (kind_for s) (layout_of es))
  unfolding slots
  of_kinds point = ([], slots_of circle es ++ slots_of arc es, refl, refl)
  of_kinds circle = (slots_of point es, slots_of arc es, refl, all_of es point)
  of_kinds arc = (slots_of point es ++ slots_of circle es, [], simp (append_assoc, append-nil), simp length-append (omega (arith, all_of es point, all_of es circle)))

  slot_inside : (i : ℕ) (s : Shape) (k : ℕ) → k < size s → before s es i < how_many s es → first_slot s es i + k < length (slots es)
  slot_inside i point k g h = omega (arith, length_slots es)
  slot_inside i circle k g h = omega (arith, length_slots es)
  slot_inside i arc k g h = omega (arith, length_slots es)

  -- component k of the shape that record i declares is the slot first_slot + k
  component_of : (i : ℕ) (s : Shape) (k : ℕ) → Declares es i s → k < size s → ComponentOf es i s k (slot_at es (first_slot s es i + k))
  component_of i s k d g =
      let (front, rest, is, long) = of_kinds s in
      let m = before s es i * size s in
      let at : first_slot s es i + k ≡ length front + (m + k) = omega (arith, long) in
      let own : take (size s) (drop m (slots_of s es ++ rest)) ≡ slots_of_shape s (name_no es i) =
      piece_at (slots_of_shape s) (size s) (labels_of s es) rest [] (lengths s (labels_of s es)) (before s es i) (label_inside es i s d)
      ∙ ap (slots_of_shape s) (label_at_lem es i s d) in
      record {
        declared = d;
        one_of_it = g;
        is =
            rw (at, is, get_or-append-add front _ (m + k) no_slot, ← get_or-drop m (slots_of s es ++ rest) k no_slot)
            (rw (← get_or-take (size s) (drop m (slots_of s es ++ rest)) k no_slot g, own) refl);
      }

  pub slot_of_lem : (i : ℕ) (s : Shape) (k : ℕ) → Declares es i s → k < size s
      → (first_slot s es i + k < length (slots es)) × ComponentOf es i s k (slot_at es (first_slot s es i + k))
  slot_of_lem i s k d g = (slot_inside i s k g (before_inside es i s d), component_of i s k d g)

  -- and each slot is one
  abbrev pub At : ℕ → Type 0
  At j = (i : ℕ) × (s : Shape) × (k : ℕ) × ComponentOf es i s k (slot_at es j) × (j ≡ first_slot s es i + k)

  at_kind : (j : ℕ) (s : Shape) (m k : ℕ) → m < how_many s es → k < size s → j ≡ slot_of (kind_for s) (layout_of es) m + k → At j
  at_kind j s m k h g e =
      let (i, b, is, number) = one_of_kind (kind_no es) (declaring s) m (length es) h in
      let here : j ≡ first_slot s es i + k = rw (← number) e in
      (i, s, k, rw here (component_of i s k (record { inside = b; kind_is = is }) g), here)

  pub component_at_lem : EachBelow (length (slots es)) At
  component_at_lem j h =
      let P = how_many point es in
      let C = how_many circle es in
      elim (dec_lt j (P * 2)) [
        | yes b ↦ at_kind j point (j / 2) (j % 2) (omega (arith, b)) (omega arith) (omega arith)
        | no f ↦ elim (dec_lt j (P * 2 + C * 3)) [
          | yes b ↦ at_kind j circle ((j - P * 2) / 3) ((j - P * 2) % 3) (omega (arith, b, f)) (omega arith) (omega (arith, f))
          | no g ↦ at_kind j arc ((j - (P * 2 + C * 3)) / 6) ((j - (P * 2 + C * 3)) % 6) (omega (arith, g, h, length_slots es)) (omega arith) (omega (arith, g))
        ]
      ]

  module _ (w : Fine es) where
    -- a slot is one component only
    only_one : (t : Slot) (i i' : ℕ) (s s' : Shape) (k k' : ℕ) → ComponentOf es i s k t → ComponentOf es i' s' k' t → (i ≡ i') × (s ≡ s') × (k ≡ k')
    only_one t i i' s s' k k' c c' =
        let (one, shapes) = same_shape es w i i' s s' c.declared c'.declared (sym (label_of es i s k t c) ∙ label_of es i' s' k' t c') in
        (one, shapes, sym (place_told es i s k t c) ∙ rw shapes (place_told es i' s' k' t c'))

    -- a component's place
    pub place_is : (i : ℕ) (s : Shape) (k j : ℕ) → j < length (slots es) → ComponentOf es i s k (slot_at es j) → j ≡ first_slot s es i + k
    place_is i s k j h c =
        let (i', s', k', c', here) = component_at_lem j h in
        let (one, shapes, places) = only_one (slot_at es j) i i' s s' k k' c c' in
        rw (one, shapes, places) here

    pub one_component : EachBelow (length (slots es)) (OneComponent es)
    one_component j h =
        let (i, s, k, c, here) = component_at_lem j h in
        record {
          declaring_record = i;
          shape = s;
          component = k;
          this = c;
          here = here;
          no_other = λ i' s' k' c'. only_one (slot_at es j) i' i s' s k' k c' c;
        }

    -- a slot with a declared shape's label is one of that shape's
    pub slot_is : (i : ℕ) (s : Shape) (j : ℕ) → Declares es i s → j < length (slots es) → (slot_at es j).shape ≡ name_no es i
        → (k : ℕ) × (k < size s) × (j ≡ first_slot s es i + k)
    slot_is i s j d h q =
        let (i', s', k, c, here) = component_at_lem j h in
        let (one, shapes) = same_shape es w i i' s s' d c.declared (sym q ∙ label_of es i' s' k (slot_at es j) c) in
        (k, rw shapes c.one_of_it, rw (one, shapes) here)
