-- The user's third demand, phrase by phrase: what a drawing that the check passes is lowered to, with enough ids left and enough room lent.
use Rattle.std.specs.Prelude.{◌≡◌, ℕ, ◌+◌, ◌*◌, ◌≤◌, ◌<◌, length, get_or, set, Float, Result, Ok}
use mathlib.Core.List.{List, [], ◌++◌, Memᴰ}
use Rattle.std.specs.Float.{nan, binary64}
use Rattle.std.specs.Float.Ieee.{of_bits}
use Rattle.refusal.specs.declared.Refusal.{Refusal}
use Rattle.refusal.specs.First.{SomeBelow, EachBelow}
use Rattle.layout.specs.declared.Stage.TheVariants.{Done}
use Rattle.layout.specs.Slots as layout
use Rattle.layout.specs.Slots.{ids_end}
use Rattle.layout.specs.Look.{point_ids, circle_ids, arc_slot_ids, point_read, circle_read, arc_read}
use Rattle.layout.specs.Run.{Distinct}
use Rattle.kinds.specs.Kinds.{Rule, Guess, first_rule, last_rule}
use Rattle.record.specs.Entry.{Label, Entry, entry_at, label_no}
use Rattle.record.specs.Formed.{entries}
use Rattle.names.specs.Labels.{kind_no, name_no}
use Rattle.drawing.specs.Needs.{Shape, point, circle, arc, declaring}
use Rattle.drawing.specs.Check.{count_below, checked_of, good_check}
use Rattle.lowering.specs.declared.Lowered.{Lowered}
use Rattle.ground.specs.Lists.{flat}
use Rattle.lowering.specs.Slots.{Slot, slot, slots, slots_of_shape, size, before, how_many, kind_for, layout_of, first_slot, number_for}
use Rattle.lowering.specs.Fields.{field_of, Ids, of_point, of_circle, of_arc, ids_kind, id_of}
use Rattle.row.specs.Row.{Row, row_bytes, most_ids, encode_row, id_at, row_no}
use Rattle.lowering.specs.Rows.{naming_of, Names, named_ids, rules_of}
use Rattle.lowering.specs.Lower.{Room, room_in, Lowers, good_lowering}

-- enough ids left and enough room lent, for so many slots and rows
pub record EnoughFor (slot_count row_count : ℕ) (room : Room) : Type 0 where
  pub ids_left : room.next + slot_count ≤ ids_end
  pub ids_lent : slot_count ≤ room.ids
  pub values_lent : slot_count ≤ room.values
  pub rows_lent : row_count * row_bytes ≤ room.row_bytes

-- the same, for a drawing's
abbrev pub Enough : List Entry → Room → Type 0
Enough es room = EnoughFor (length (slots es)) (length (rules_of es)) room

-- ---- slots

-- what stands past the last slot
abbrev pub no_slot : Slot
no_slot = slot [] [] 0

-- slot j
abbrev pub slot_at : List Entry → ℕ → Slot
slot_at es j = get_or (slots es) j no_slot

-- record i declares the shape s
pub record Declares (es : List Entry) (i : ℕ) (s : Shape) : Type 0 where
  pub inside : i < length es
  pub kind_is : kind_no es i ≡ declaring s

-- the slot t is component k of the shape s that record i declares
pub record ComponentOf (es : List Entry) (i : ℕ) (s : Shape) (k : ℕ) (t : Slot) : Type 0 where
  pub declared : Declares es i s
  pub one_of_it : k < size s
  pub is : t ≡ get_or (slots_of_shape s (name_no es i)) k no_slot

-- the slot at j is one component of one declared shape: of this, and of no other
pub record OneComponent (es : List Entry) (j : ℕ) : Type 0 where
  pub declaring_record : ℕ
  pub shape : Shape
  pub component : ℕ
  pub this : ComponentOf es declaring_record shape component (slot_at es j)
  pub here : j ≡ first_slot shape es declaring_record + component
  pub no_other : (i : ℕ) (s : Shape) (k : ℕ) → ComponentOf es i s k (slot_at es j) → (i ≡ declaring_record) × (s ≡ shape) × (k ≡ component)

-- ---- ids by shape

-- the lookup hands back these ids for the shape that record i declares, by its number among those of its kind
abbrev pub HandsIds : List Entry → List ℕ → ℕ → Ids → Type 0
HandsIds es ids i (of_point v) = point_ids (layout_of es) ids (before point es i) ≡ Ok v
HandsIds es ids i (of_circle v) = circle_ids (layout_of es) ids (before circle es i) ≡ Ok v
HandsIds es ids i (of_arc v) = arc_slot_ids (layout_of es) ids (before arc es i) ≡ Ok v

-- n is looked up as the id of the component t of the shape s that record i declares: it stands in the field that t is named for
pub record LookedUp (es : List Entry) (ids : List ℕ) (i : ℕ) (s : Shape) (t : Slot) (n : ℕ) : Type 0 where
  pub found : Ids
  pub of_kind : ids_kind found ≡ kind_for s
  pub handed_back : HandsIds es ids i found
  pub id_is : id_of found t ≡ n

-- ---- starting values

-- record g is a guess of the part that the slot is a component of
abbrev pub GuessFor : List Entry → Slot → ℕ → Type 0
GuessFor es t g = Guess (kind_no es g) × (name_no es g ≡ t.shape ++ t.suffix)

-- v is the number that the one guess of the slot's part has for it
pub record Starts (es : List Entry) (t : Slot) (v : Float) : Type 0 where
  pub guess : ℕ
  pub inside : guess < length es
  pub is_guess : GuessFor es t guess
  pub only : (g : ℕ) → g < length es → GuessFor es t g → g ≡ guess
  pub value : v ≡ of_bits binary64 (number_for t.axis (entry_at es guess))

-- ---- rows

-- a label l of the rule e names slot j
abbrev pub NamesSlot : List Entry → Entry → Label → ℕ → Type 0
NamesSlot es e l j = Names (naming_of e.kind) e.third l (slot_at es j)

-- ids are those of the slots that the rule e names by its label l, in rising order, and there is one at least
pub record Carries (es : List Entry) (next : ℕ) (e : Entry) (l : Label) (ids : List ℕ) : Type 0 where
  pub some : 0 < length ids
  pub named : (n : ℕ) → Memᴰ n ids → SomeBelow (length (slots es)) (λ j. (n ≡ next + j) × NamesSlot es e l j)
  pub all : (j : ℕ) → j < length (slots es) → NamesSlot es e l j → Memᴰ (next + j) ids
  pub rising : (a b : ℕ) → a < b → b < length ids → get_or ids a 0 < get_or ids b 0

-- bs is the row of the rule e: for each of its labels, in order, exactly the ids of the components that it names, and 0 where there is none
pub record RowOf (es : List Entry) (next : ℕ) (e : Entry) (bs : List ℕ) : Type 0 where
  pub row : Row
  pub written : bs ≡ encode_row row
  pub kind_is : row.kind ≡ e.kind
  pub third_is : row.third ≡ e.third
  pub bits_are : row.bits ≡ e.x
  pub ids_are : row.ids ≡ flat (named_ids es next e) e.labels
  pub no_more : length row.ids ≤ most_ids
  pub ids_read : EachBelow most_ids (λ q. id_at bs q ≡ get_or row.ids q 0)
  pub label_ids : EachBelow (length e.labels) (λ q. Carries es next e (label_no e q) (named_ids es next e (label_no e q)))

-- how many rules the first n records have
abbrev pub rules_before : List Entry → ℕ → ℕ
rules_before es n = count_below (kind_no es) first_rule last_rule n

-- ---- readout

-- the readout of the values vs hands back this for the shape that record i declares, by its number among those of its kind
abbrev pub HandsBack : List Entry → List Float → ℕ → layout.Figure → Type 0
HandsBack es vs i (layout.point p) = point_read (layout_of es) vs (before point es i) ≡ Ok p
HandsBack es vs i (layout.circle c) = circle_read (layout_of es) vs (before circle es i) ≡ Ok c
HandsBack es vs i (layout.arc a) = arc_read (layout_of es) vs (before arc es i) ≡ Ok a

-- v is read out as the component t of the shape s that record i declares: it stands in the field that t is named for
pub record ReadAs (es : List Entry) (vs : List Float) (i : ℕ) (s : Shape) (t : Slot) (v : Float) : Type 0 where
  pub shape : layout.Figure
  pub of_kind : layout.kind_of shape ≡ kind_for s
  pub handed_back : HandsBack es vs i shape
  pub field_is : field_of shape t ≡ v

-- v is put in slot j of the values vs: it is read out as that slot's component, and each other component as it was before
pub record ReadOut (es : List Entry) (vs : List Float) (j : ℕ) (v : Float) : Type 0 where
  pub own : (i : ℕ) (s : Shape) (k : ℕ) → ComponentOf es i s k (slot_at es j) → ReadAs es (set vs j v) i s (slot_at es j) v
  pub others : (i : ℕ) (s : Shape) (k : ℕ) (t : Slot) → ComponentOf es i s k t → (t ≡ slot_at es j → ⊥)
      → (was : Float) × ReadAs es vs i s t was × ReadAs es (set vs j v) i s t was

-- ---- the demand

-- what a drawing with P points, C circles, A arcs and R rules is lowered to, where the first id is next
pub record CannotGoWrong (es : List Entry) (P C A R next : ℕ) (ids : List ℕ) (values : List Float) (rows : List ℕ) : Type 0 where
  pub points : P ≡ how_many point es
  pub circles : C ≡ how_many circle es
  pub arcs : A ≡ how_many arc es
  -- its 2P+3C+6A slots
  pub slot_count : length (slots es) ≡ 2 * P + 3 * C + 6 * A
  -- have distinct ids,
  pub id_at : EachBelow (length (slots es)) (λ j. get_or ids j 0 ≡ next + j)
  pub distinct : Distinct (length (slots es)) ids
  pub fit : EachBelow (length (slots es)) (λ j. get_or ids j 0 < ids_end)
  -- each is one component of one declared shape
  pub one_component : EachBelow (length (slots es)) (OneComponent es)
  pub each_has_one : (i : ℕ) (s : Shape) (k : ℕ) → Declares es i s → k < size s
      → (first_slot s es i + k < length (slots es)) × ComponentOf es i s k (slot_at es (first_slot s es i + k))
  -- whose id the lookup by shape number hands back under its name,
  pub looked_up : (i : ℕ) (s : Shape) (k : ℕ) (t : Slot) → ComponentOf es i s k t → LookedUp es ids i s t (next + (first_slot s es i + k))
  -- and starts at that component's guess;
  pub starts : EachBelow (length (slots es)) (λ j. Starts es (slot_at es j) (get_or values j nan))
  -- each rule has one row, in order, with exactly the ids of the components it names;
  pub row_count : R ≡ rules_before es (length es)
  pub one_row : (i : ℕ) → i < length es → Rule (kind_no es i) → (rules_before es i < R) × RowOf es next (entry_at es i) (row_no rows (rules_before es i))
  -- and a value put in a slot is read out as that component and no other
  pub read_out : (vs : List Float) → length (slots es) ≤ length vs → (v : Float) → EachBelow (length (slots es)) (λ j. ReadOut es vs j v)

-- a call of lowering with the next id that was answered r, with the ids, the values and the rows after it
pub record LowersWell (es : List Entry) (P C A R next : ℕ) (r : Result Lowered Refusal) (ids' : List ℕ) (values' : List Float) (rows' : List ℕ) : Type 0 where
  -- it lowers without refusal;
  pub without_refusal : r ≡ good_lowering (record { points = P; circles = C; arcs = A; stage = Done }) (next + (2 * P + 3 * C + 6 * A)) R
  pub cannot_go_wrong : CannotGoWrong es P C A R next ids' values' rows'

-- a drawing that the check passes, with P points, C circles and A arcs, enough ids left and enough room lent, is lowered well
abbrev pub PassedLowersWell : Type 0
PassedLowersWell =
    (text records : List ℕ) (P C A R next : ℕ) (ids : List ℕ) (values : List Float) (rows : List ℕ)
    → checked_of (entries text records) ≡ good_check P C A R
    → EnoughFor (2 * P + 3 * C + 6 * A) R (room_in next ids values rows)
    → (r : Result Lowered Refusal) (ids' : List ℕ) (values' : List Float) (rows' : List ℕ)
    → Lowers (entries text records) next ids values rows r ids' values' rows'
    → LowersWell (entries text records) P C A R next r ids' values' rows'
