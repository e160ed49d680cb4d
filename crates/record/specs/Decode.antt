-- A record back from its bytes, and which records come back whole (docs/FORMAT.md, "Record").
use Rattle.std.specs.Prelude.{◌≡◌, Bool, not, ◌||◌, cond, List, ℕ, ◌+◌, ◌*◌, ◌/◌, ◌^◌, ◌≤◌, ◌<◌, leb, ltb, eqb, length, take, drop, replicate}
use Rattle.ground.specs.Lists.{up_to}
use Rattle.refusal.specs.First.{EachBelow}
use Rattle.little.specs.Little.{byte, u16, u64}
use Rattle.kinds.specs.Kinds.{label_places}
use Rattle.record.specs.declared.View.{View}
use Rattle.record.specs.declared.Record.{Record}
use Rattle.record.specs.Record.{record_bytes, first_guess}
use Rattle.record.specs.Entry.{no_view, view_of}

-- ---- a record from its bytes

-- a kind is a guess's
abbrev pub is_guess : ℕ → Bool
is_guess kind = leb first_guess kind

-- the form of a kind has label place q: a guess has one, and an instruction all
abbrev pub has_place : ℕ → ℕ → Bool
has_place kind q = eqb q 0 || not (is_guess kind)

-- the view that is written in the four bytes from k on
abbrev pub view_at : List ℕ → ℕ → View
view_at b k = record { start = u16 b k; len = u16 b (k + 2) }

-- label place q of a record, by its bytes
abbrev pub place_in : List ℕ → ℕ → View
place_in b q = cond (has_place (byte b 1) q) (view_at b (4 + q * 4)) no_view

-- the record that bytes write: an instruction has four labels and then x, a guess one label and then x and y
unfoldable pub decode : List ℕ → Record
decode b =
    let guess = is_guess (byte b 1) in
    record {
      kind = byte b 1;
      third = byte b 2;
      count = byte b 3;
      labels = up_to label_places (place_in b);
      x = cond guess (u64 b 8) (u64 b 20);
      y = cond guess (u64 b 16) 0;
    }

-- ---- a record of a list

-- how many whole records bytes hold
abbrev pub count_of : List ℕ → ℕ
count_of bs = length bs / record_bytes

-- the bytes of record i, counted from 0
abbrev pub record_of : List ℕ → ℕ → List ℕ
record_of bs i = take record_bytes (drop (i * record_bytes) bs)

-- what stands past the last whole record: there is no kind 0
abbrev pub no_record : Record
no_record = record { kind = 0; third = 0; count = 0; labels = replicate label_places no_view; x = 0; y = 0 }

-- record i of the bytes of a list
unfoldable pub decode_at : List ℕ → ℕ → Record
decode_at bs i = cond (ltb i (count_of bs)) (decode (record_of bs i)) no_record

-- ---- what comes back whole

-- a view is written in two numbers of two bytes
pub record Short (v : View) : Type 0 where
  pub start_fits : v.start < 2 ^ 16
  pub len_fits : v.len < 2 ^ 16

-- each field fits its bytes, and those that the record's form has no bytes for are 0
pub record Fits (r : Record) : Type 0 where
  pub places : length r.labels ≡ label_places
  pub short : EachBelow label_places (λ q. Short (view_of r q))
  -- a guess has one label
  pub absent : first_guess ≤ r.kind → EachBelow label_places (λ q. 0 < q → view_of r q ≡ no_view)
  pub x_fits : r.x < 2 ^ 64
  pub y_fits : r.y < 2 ^ 64
  -- an instruction has one number
  pub no_y : r.kind < first_guess → r.y ≡ 0
