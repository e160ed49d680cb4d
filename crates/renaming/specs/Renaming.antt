-- Names do not matter (docs/FORMAT.md, "Lowering"): "Take two drawings that the check passes, with the same number of records, equal in all record
-- fields but labels, and a one-to-one renaming of declared shapes under which each label of the first becomes that of the second, the part after a
-- dot kept. Lowered from equal counters with enough room they give the same rows, ids and starting values, byte for byte."
use Rattle.std.specs.Prelude.{◌≡◌, ◌↔◌, List, ◌++◌, map, ℕ, ◌*◌, length, take, Float, Result}
use Rattle.refusal.specs.declared.Refusal.{Refusal}
use Rattle.refusal.specs.First.{SomeBelow, EachBelow}
use Rattle.kinds.specs.Kinds.{Declaration}
use Rattle.record.specs.Entry.{Label, Entry, entry_at}
use Rattle.record.specs.Formed.{entries}
use Rattle.names.specs.Labels.{kind_no, name_no}
use Rattle.names.specs.Cut.{stem, behind}
use Rattle.drawing.specs.Check.{checked_of, good_check}
use Rattle.row.specs.Row.{row_bytes}
use Rattle.lowering.specs.declared.Lowered.{Lowered}
use Rattle.lowering.specs.Slots.{slots}
use Rattle.lowering.specs.Rows.{rules_of}
use Rattle.lowering.specs.Lower.{room_in, Lowers}
use Rattle.lowering.specs.Demand.{Enough}

-- ---- a drawing that the check passes

-- whatever its counts of points, circles, arcs and rules are
abbrev pub Passes : List Entry → Type 0
Passes es = (P : ℕ) × (C : ℕ) × (A : ℕ) × (R : ℕ) × (checked_of es ≡ good_check P C A R)

-- ---- a one-to-one renaming of declared shapes

-- l is the label of a declared shape
abbrev pub Declared : List Entry → Label → Type 0
Declared es l = SomeBelow (length es) (λ i. Declaration (kind_no es i) × (name_no es i ≡ l))

-- of the labels of declared shapes no two become one
abbrev pub OneToOne : (Label → Label) → List Entry → Type 0
OneToOne becomes es = (k l : Label) → Declared es k → Declared es l → becomes k ≡ becomes l → k ≡ l

-- a label with its shape renamed, the part after a dot kept
abbrev pub renamed : (Label → Label) → Label → Label
renamed becomes l = becomes (stem l) ++ behind l

-- ---- equal in all record fields but labels, and each label of the first becomes that of the second

pub record Relabelled (becomes : Label → Label) (e e' : Entry) : Type 0 where
  pub kind_same : e'.kind ≡ e.kind
  pub third_same : e'.third ≡ e.third
  pub x_same : e'.x ≡ e.x
  pub y_same : e'.y ≡ e.y
  pub labels_become : e'.labels ≡ map (renamed becomes) e.labels

-- with the same number of records
pub record Renamed (becomes : Label → Label) (es es' : List Entry) : Type 0 where
  pub count_same : length es' ≡ length es
  pub each : EachBelow (length es) (λ i. Relabelled becomes (entry_at es i) (entry_at es' i))

-- ---- lowered from a counter, with enough room

-- a call of `lower` with a text, its records and the next id: what was lent, with enough ids left and enough room; what was answered; what the lent
-- things held after it; as `lower` promises
pub record Call (text records : List ℕ) (next : ℕ) : Type 0 where
  pub ids : List ℕ
  pub values : List Float
  pub rows : List ℕ
  pub enough : Enough (entries text records) (room_in next ids values rows)
  pub answer : Result Lowered Refusal
  pub ids_after : List ℕ
  pub values_after : List Float
  pub rows_after : List ℕ
  pub promised : Lowers (entries text records) next ids values rows answer ids_after values_after rows_after

-- ---- the same rows, ids and starting values, byte for byte

-- the answer, an id and a value for each of so many slots, and the bytes of so many rows, whatever the lent things held before and hold behind them.
-- Values are f64s, of which a NaN is one
pub record SameLowering (slot_count row_count : ℕ) {text records text' records' : List ℕ} {next : ℕ} (a : Call text records next) (b : Call text' records' next) : Type 0 where
  pub answer : a.answer ≡ b.answer
  pub ids : take slot_count a.ids_after ≡ take slot_count b.ids_after
  pub values : take slot_count a.values_after ≡ take slot_count b.values_after
  pub rows : take (row_count * row_bytes) a.rows_after ≡ take (row_count * row_bytes) b.rows_after

-- ---- the claim

-- for any two texts with any two lists of record bytes
abbrev pub NamesDoNotMatter : Type 0
NamesDoNotMatter =
    (text records text' records' : List ℕ) → let es = entries text records in let es' = entries text' records' in
    Passes es → Passes es' → (becomes : Label → Label) → OneToOne becomes es → Renamed becomes es es'
    → (next : ℕ) (a : Call text records next) (b : Call text' records' next)
    → SameLowering (length (slots es)) (length (rules_of es)) a b

-- ---- what holds beside it

-- that the renaming is one-to-one follows from the rest
abbrev pub NeverTwoToOne : Type 0
NeverTwoToOne = (es es' : List Entry) → Passes es → Passes es' → (becomes : Label → Label) → Renamed becomes es es' → OneToOne becomes es

-- and whatever room is lent, enough or not: what may be answered and left behind for the one may be for the other
abbrev pub NoCallTells : Type 0
NoCallTells =
    (text records text' records' : List ℕ) → let es = entries text records in let es' = entries text' records' in
    Passes es → Passes es' → (becomes : Label → Label) → Renamed becomes es es'
    → (next : ℕ) (ids : List ℕ) (values : List Float) (rows : List ℕ) (r : Result Lowered Refusal) (ids' : List ℕ) (values' : List Float) (rows' : List ℕ)
    → Lowers es next ids values rows r ids' values' rows' ↔ Lowers es' next ids values rows r ids' values' rows'
