-- A record with its labels as their text, which is what a drawing is said in: check and lowering are stated over a list of entries.
use Rattle.std.specs.Prelude.{◌≡◌, List, [], map, ℕ, ◌+◌, get_or, take, drop}
use Prim.Native.String.{String}
use Rattle.ground.specs.Words.{bytes}
use Rattle.ground.specs.Lists.{up_to}
use Rattle.record.specs.declared.View.{View}
use Rattle.record.specs.declared.Record.{Record}

-- a label is its bytes
abbrev pub Label : Type 0
Label = List ℕ

-- one record: its numbers are the bits of f64s, and 0 where it has none
pub record Entry : Type 0 where
  pub kind : ℕ
  pub third : ℕ
  pub labels : List Label
  pub x : ℕ
  pub y : ℕ

-- what bytes that are no record are read as: there is no kind 0
abbrev pub no_entry : Entry
no_entry = record { kind = 0; third = 0; labels = []; x = 0; y = 0 }

-- an entry written out, its labels quoted
abbrev pub entry_with : ℕ → ℕ → List String → ℕ → ℕ → Entry
entry_with kind third labels x y = record { kind = kind; third = third; labels = map bytes labels; x = x; y = y }

-- entry i, counted from 0
abbrev pub entry_at : List Entry → ℕ → Entry
entry_at es i = get_or es i no_entry

-- label q of an entry, counted from 0
abbrev pub label_no : Entry → ℕ → Label
label_no e q = get_or e.labels q []

-- ---- from a record's fields

-- a label that is not there
abbrev pub no_view : View
no_view = record { start = 0; len = 0 }

-- label place q of a record, counted from 0
abbrev pub view_of : Record → ℕ → View
view_of r q = get_or r.labels q no_view

-- the part of a text that starts at a place and has a length
abbrev pub part : List ℕ → ℕ → ℕ → Label
part text start len = take len (drop start text)

-- a part of a lent text is handed back: these bytes, from a start in the text on. A place in memory is a block and an offset in it
pub record LendsPart (label : Label) (start : ℕ) (from : ℕ × ℕ) (bytes : List ℕ) (at : ℕ × ℕ) : Type 0 where
  pub is : bytes ≡ label
  pub there : at ≡ (from.0, start + from.1)

-- the part of a text that label q of a record names
abbrev pub named : List ℕ → Record → ℕ → Label
named text r q = part text (view_of r q).start (view_of r q).len

-- a record's fields with its labels as their text
unfoldable pub entry_of : List ℕ → Record → Entry
entry_of text r =
    record { kind = r.kind; third = r.third; labels = up_to r.count (named text r); x = r.x; y = r.y }
