-- What lowering answers, and what both slices and the row buffer hold after it: the check's refusal; then 36, 37, 38; else slots and rows.
use Rattle.std.specs.Prelude.{◌≡◌, ◌⊎◌, Bool, ◌||◌, List, [], ◌∷◌, ◌++◌, ℕ, ◌+◌, ◌*◌, ◌<◌, ltb, length, drop, Float, Result, Err, Ok}
use Rattle.refusal.specs.declared.Refusal.{Refusal}
use Rattle.refusal.specs.First.{Answer, once, answered}
use Rattle.layout.specs.declared.Layout.{Layout}
use Rattle.layout.specs.Slots.{ids_end}
use Rattle.layout.specs.Push.{onward}
use Rattle.record.specs.Entry.{Entry}
use Rattle.drawing.specs.Faults.{number_of}
use Rattle.drawing.specs.Check.{check_of}
use Rattle.lowering.specs.declared.Lowered.{Lowered}
use Rattle.lowering.specs.Slots.{slots, layout_of, values_of}
use Rattle.row.specs.Row.{row_bytes, encode_rows}
use Rattle.lowering.specs.Rows.{rules_of, rows_of}

-- ---- 36, 37, 38

-- what is lent: the next id, the lengths of the slices of ids and values, and the bytes for rows
pub record Room : Type 0 where
  pub next : ℕ
  pub ids : ℕ
  pub values : ℕ
  pub row_bytes : ℕ

-- the same, put together
abbrev pub room_by : ℕ → ℕ → ℕ → ℕ → Room
room_by next ids values bytes = record { next = next; ids = ids; values = values; row_bytes = bytes }

pub data Lack : Type 0 where
  few_ids short_slices short_rows : Lack

-- the order in which they are told
abbrev pub lack_order : List Lack
lack_order = few_ids ∷ short_slices ∷ short_rows ∷ []

-- docs/FORMAT.md's number
abbrev pub lack_number : Lack → ℕ
lack_number few_ids = 36
lack_number short_slices = 37
lack_number short_rows = 38

-- too few ids left; a slice with fewer places than there are slots; a row buffer without room for a row for each rule
abbrev pub Lacking : List Entry → Room → Lack → Type 0
Lacking es room few_ids = ids_end < room.next + length (slots es)
Lacking es room short_slices = (room.ids < length (slots es)) ⊎ (room.values < length (slots es))
Lacking es room short_rows = room.row_bytes < length (rules_of es) * row_bytes

-- the same, as a test
abbrev pub lacking : List Entry → Room → Lack → Bool
lacking es room few_ids = ltb ids_end (room.next + length (slots es))
lacking es room short_slices = ltb room.ids (length (slots es)) || ltb room.values (length (slots es))
lacking es room short_rows = ltb room.row_bytes (length (rules_of es) * row_bytes)

-- the first of them, at place 0
unfoldable pub lack_of : List Entry → Room → Answer Lack
lack_of es room = once lack_order (lacking es room)

-- ---- the answer

-- a drawing is lowered to a layout, the next id and so many rows
abbrev pub good_lowering : Layout → ℕ → ℕ → Result Lowered Refusal
good_lowering layout next rows = Ok (record { layout = layout; next = next; rows = rows })

-- what is wrong with the drawing, then what is lacking, or else the layout, the next id, and how many rows there are
unfoldable pub lower_of : List Entry → Room → Result Lowered Refusal
lower_of es room = answered number_of Err (check_of es) (answered lack_number Err (lack_of es room) (good_lowering (layout_of es) (room.next + length (slots es)) (length (rules_of es))))

-- ---- what is lent

-- on a refusal what it was, and else something new
abbrev pub unless : {A : Type 0} → Result Lowered Refusal → A → A → A
unless (Err r) was new = was
unless (Ok lowered) was new = new

-- a list with new elements in the place of its first ones
abbrev pub onto : {A : Type 0} → List A → List A → List A
onto was new = new ++ drop (length new) was

-- the room that lent things have
abbrev pub room_in : ℕ → List ℕ → List Float → List ℕ → Room
room_in next ids values rows = room_by next (length ids) (length values) (length rows)

-- a call of lowering with the next id: its answer, and the ids, the values and the rows after it
pub record Lowers (es : List Entry) (next : ℕ) (ids : List ℕ) (values : List Float) (rows : List ℕ) (r : Result Lowered Refusal) (ids' : List ℕ) (values' : List Float) (rows' : List ℕ) : Type 0 where
  pub answer : r ≡ lower_of es (room_in next ids values rows)
  pub ids_are : ids' ≡ unless (lower_of es (room_in next ids values rows)) ids (onto ids (onward next (length (slots es))))
  pub values_are : values' ≡ unless (lower_of es (room_in next ids values rows)) values (onto values (values_of es))
  pub rows_are : rows' ≡ unless (lower_of es (room_in next ids values rows)) rows (onto rows (encode_rows (rows_of es next)))
