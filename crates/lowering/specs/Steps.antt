-- Lowering step by step, as the code goes: lines read from records and tables, shapes pushed in record order, ids and rows put behind one another.
-- It mirrors the code and need not be read.
use Rattle.std.specs.Prelude.{◌≡◌, ◌||◌, cond, List, [], ◌∷◌, map, ℕ, ◌+◌, ◌*◌, ◌≤◌, ◌<◌, ltb, eqb, length, get_or, Float, Option, Some, None, Result, Ok, Err}
use Rattle.ground.specs.Lists.{flat, up_to}
use Rattle.refusal.specs.declared.Refusal.{Refusal}
use Rattle.refusal.specs.Refusal.{refusal}
use Rattle.refusal.specs.First.{EachBelow, passed}
use Rattle.layout.specs.declared.Layout.{Layout}
use Rattle.layout.specs.declared.Pushed.{Pushed}
use Rattle.layout.specs.Slots.{ids_end, empty}
use Rattle.layout.specs.Push.{State, state, over, onward}
use Rattle.layout.specs.Run.{push, done, act, run}
use Rattle.record.specs.Record.{most_records}
use Rattle.kinds.specs.Kinds.{kind_at, Rule, new_point, new_circle, new_arc, label_places}
use Rattle.record.specs.Decode.{count_of, decode_at}
use Rattle.record.specs.Entry.{Entry}
use Rattle.names.specs.Cut.{known_parts}
use Rattle.drawing.specs.Check.{check_of}
use Rattle.row.specs.Row.{row_bytes, most_ids, encode_rows}
use Rattle.lowering.specs.declared.spans.Span.{Span}
use Rattle.lowering.specs.Slots.{slots, layout_of, values_of}
use Rattle.lowering.specs.Rows.{rows_of}
use Rattle.lowering.specs.declared.Lack as code
use Rattle.lowering.specs.declared.Lack.TheVariants as C
use Rattle.lowering.specs.Lower.{Room, room_in, onto, Lack, few_ids, short_slices, short_rows, lack_number}
use Rattle.lowering.specs.Demand.{Enough}
use Rattle.lowering.specs.Sketch.{Line, many_of, first_in, span_at, ids_by, row_if, figure_of, of_kind}

-- ---- lines, from records and tables

-- the kind of record i
abbrev pub kinds_of : List ℕ → ℕ → ℕ
kinds_of records i = (decode_at records i).kind

-- the names of record i, by its kind's count of labels
abbrev pub names_at : List ℕ → ℕ → ℕ → List ℕ
names_at names kind i = up_to (kind_at kind).labels (λ q. get_or names (i * label_places + q) 0)

-- the line of record i
abbrev pub line_in : List ℕ → List ℕ → ℕ → Line
line_in records names i =
    let r = decode_at records i in
    record { kind = r.kind; third = r.third; names = names_at names r.kind i; x = r.x; y = r.y }

-- lines by their numbers, so many
pub record SketchLines : Type 0 where
  pub count : ℕ
  pub line : ℕ → Line

-- all lines
abbrev pub sketch_in : List ℕ → List ℕ → SketchLines
sketch_in records names = record { count = count_of records; line = line_in records names }

-- the numbers of the guess of a part, by the table of guesses
abbrev pub numbers_in : List ℕ → List ℕ → ℕ → ℕ → ℕ × ℕ
numbers_in records guesses d part = let g = decode_at records (get_or guesses (d * known_parts + part) 0) in (g.x, g.y)

-- ---- pushes

-- a layout and the next id, with the slices
abbrev pub laid_in : Pushed → List ℕ → List Float → State
laid_in l ids values = state l.layout l.next ids values

-- line i, if it is of a kind
abbrev pub one_of : (ℕ → ℕ) → ℕ → ℕ → List ℕ
one_of kinds kind i = cond (eqb (kinds i) kind) (i ∷ []) []

-- the state after the shapes that some lines of a kind declare are pushed
abbrev pub pushed_of : (ℕ → ℕ → ℕ × ℕ) → ℕ → List ℕ → State → State
pushed_of numbers kind ds s = run (map push (map (λ d. figure_of (numbers d) kind) ds)) s

-- the state after all shapes of a kind are pushed, at the next stage
abbrev pub stage : (ℕ → ℕ) → (ℕ → ℕ → ℕ × ℕ) → ℕ → ℕ → State → State
stage kinds numbers n kind s = act done (pushed_of numbers kind (of_kind kinds kind n) s)

-- the state after all pushes
unfoldable pub laid : (ℕ → ℕ) → (ℕ → ℕ → ℕ × ℕ) → ℕ → State → State
laid kinds numbers n s = stage kinds numbers n new_arc (stage kinds numbers n new_circle (stage kinds numbers n new_point s))

-- a layout and two slices are those of a state
pub record Slotted (s : State) (l : Layout) (ids : List ℕ) (values : List Float) : Type 0 where
  pub layout_is : l ≡ s.layout
  pub ids_are : ids ≡ s.ids
  pub values_are : values ≡ s.values

-- ---- the first slots

-- few records, with their points and circles
pub record Counted (records : List ℕ) (points circles : ℕ) : Type 0 where
  pub few : count_of records ≤ most_records
  pub points_are : points ≡ many_of (kinds_of records) new_point (count_of records)
  pub circles_are : circles ≡ many_of (kinds_of records) new_circle (count_of records)

-- the first slot of the shape that record d declares, by a table
abbrev pub first_at : List ℕ → ℕ → ℕ
first_at firsts d = get_or firsts d 0

-- ---- ids and rows

-- a span's shape is in the table, and its ids are given ones
pub record Placeable (first : ℕ → ℕ) (next : ℕ) (s : Span) : Type 0 where
  pub inside : s.shape < most_records
  pub fits : next + (first s.shape + s.first) + s.count ≤ ids_end

-- ids, or bytes, put behind the first m of a list, and how many there are then
pub record Added (ids was : List ℕ) (m n : ℕ) (now : List ℕ) : Type 0 where
  pub count_is : n ≡ m + length ids
  pub list_is : now ≡ over was m ids

-- each name of a rule stands for given ids, and they are no more than eight
pub record Sayable (first : ℕ → ℕ) (next kind third : ℕ) (names : List ℕ) : Type 0 where
  pub each : EachBelow (length names) (λ q. Placeable first next (span_at kind third names q))
  pub few : length (ids_by first next kind third names) ≤ most_ids

-- a line is so, if it is a rule
abbrev pub SayableIf : (ℕ → ℕ) → ℕ → Line → Type 0
SayableIf first next l = Rule l.kind → Sayable first next l.kind l.third l.names

-- how many ids there are, and a list that begins with them
pub record Begins (ids was : List ℕ) (n : ℕ) (now : List ℕ) : Type 0 where
  pub count_is : n ≡ length ids
  pub list_is : now ≡ onto was ids

-- the bytes that a line adds: those of its row, if it is a rule
abbrev pub bytes_if : (ℕ → ℕ) → ℕ → Line → List ℕ
bytes_if first next l = encode_rows (row_if first next l)

-- a line can be said, and there is room for its row at a place
pub record Writing (first : ℕ → ℕ) (next : ℕ) (l : Line) (rows : List ℕ) (at : ℕ) : Type 0 where
  pub sayable : SayableIf first next l
  pub room : at + length (bytes_if first next l) ≤ length rows

-- the first slot of the shape that line d declares
abbrev pub firsts_of : SketchLines → ℕ → ℕ
firsts_of ls = first_in (λ i. (ls.line i).kind) ls.count

-- the bytes of all rows
abbrev pub bytes_by : ℕ → SketchLines → List ℕ
bytes_by next ls = flat (bytes_if (firsts_of ls) next) (up_to ls.count ls.line)

-- each line can be said, and there is room for all rows
pub record Writable (ls : SketchLines) (next : ℕ) (rows : List ℕ) : Type 0 where
  pub each : EachBelow ls.count (λ i. SayableIf (firsts_of ls) next (ls.line i))
  pub room : length (bytes_by next ls) ≤ length rows

-- ---- a drawing

-- the layout, ids and values after all pushes, and the rows of all lines
pub record FilledBy (records names guesses : List ℕ) (next : ℕ) (ids : List ℕ) (values : List Float) (rows : List ℕ) (l : Layout) (ids' : List ℕ) (values' : List Float) (rows' : List ℕ) : Type 0 where
  pub slotted : Slotted (laid (kinds_of records) (numbers_in records guesses) (count_of records) (state empty next ids values)) l ids' values'
  pub rows_are : rows' ≡ onto rows (bytes_by next (sketch_in records names))

-- a drawing that passes, with room for its slots and rows
pub record Passing (es : List Entry) (next : ℕ) (ids : List ℕ) (values : List Float) (rows : List ℕ) : Type 0 where
  pub passes : check_of es ≡ passed
  pub few : length es ≤ most_records
  pub enough : Enough es (room_in next ids values rows)

-- its layout, ids, values and rows
pub record Filled (es : List Entry) (next : ℕ) (ids : List ℕ) (values : List Float) (rows : List ℕ) (l : Layout) (ids' : List ℕ) (values' : List Float) (rows' : List ℕ) : Type 0 where
  pub slotted : Slotted (state (layout_of es) (next + length (slots es)) (onto ids (onward next (length (slots es)))) (onto values (values_of es))) l ids' values'
  pub rows_are : rows' ≡ onto rows (encode_rows (rows_of es next))

-- a lack of the code
abbrev pub lack_by : code.Lack → Lack
lack_by C.FewIds = few_ids
lack_by C.ShortSlices = short_slices
lack_by C.ShortRows = short_rows

-- what is refused with it, if there is one
abbrev pub refused_by : Result Unit code.Lack → Option Refusal
refused_by (Ok tt) = None
refused_by (Err lack) = Some (refusal (lack_number (lack_by lack)) 0)

-- 36, 37 or 38, by how many slots and rows there are, if one is told
abbrev pub lack_told : Room → ℕ → ℕ → Option Refusal
lack_told room slots rows =
    cond (ltb ids_end (room.next + slots)) (Some (refusal 36 0)) (cond (ltb room.ids slots || ltb room.values slots) (Some (refusal 37 0)) (cond (ltb room.row_bytes (rows * row_bytes)) (Some (refusal 38 0)) None))
