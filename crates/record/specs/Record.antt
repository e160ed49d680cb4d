-- A record and its bytes (docs/FORMAT.md, "Record").
use Rattle.std.specs.Prelude.{cond, List, [], ◌∷◌, ◌++◌, ℕ, ◌*◌, ◌-◌, leb, replicate}
use Rattle.ground.specs.Lists.{flat, up_to}
use Rattle.little.specs.Little.{le16, le64}
use Rattle.record.specs.declared.View.{View}
use Rattle.record.specs.declared.Record.{Record}
use Rattle.kinds.specs.Kinds.{pair_guess, label_places}
use Rattle.record.specs.Entry.{no_view, view_of}

-- ---- limits and marks

-- a record's length in bytes
abbrev pub record_bytes : ℕ
record_bytes = 28

-- the most records of a list
abbrev pub most_records : ℕ
most_records = 1800

-- the room that so many take
abbrev pub record_room : ℕ
record_room = most_records * record_bytes

-- the longest text
abbrev pub longest_text : ℕ
longest_text = 32768

-- the first byte of its mark; the second is the kind
abbrev pub mark : ℕ
mark = 69

-- kinds from this on are guesses
abbrev pub first_guess : ℕ
first_guess = pair_guess

-- ---- records that are made

-- a record with one label
abbrev pub one_label : ℕ → ℕ → View → ℕ → ℕ → Record
one_label kind third label x y =
    record { kind = kind; third = third; count = 1; labels = label ∷ replicate (label_places - 1) no_view; x = x; y = y }

-- ---- the record as bytes

-- a view: its start, then its length
abbrev pub encode_view : View → List ℕ
encode_view v = le16 v.start ++ le16 v.len

-- the mark, the third byte, and the count of labels
abbrev pub opening : Record → List ℕ
opening r = mark ∷ r.kind ∷ r.third ∷ r.count ∷ []

-- an instruction: its label places, then the number
abbrev pub instruction : Record → List ℕ
instruction r = opening r ++ flat encode_view (up_to label_places (view_of r)) ++ le64 r.x

-- a guess: one label, the bits of x and y, and four zeros
abbrev pub guess : Record → List ℕ
guess r = opening r ++ flat encode_view (up_to 1 (view_of r)) ++ le64 r.x ++ le64 r.y ++ (0 ∷ 0 ∷ 0 ∷ 0 ∷ [])

unfoldable pub encode : Record → List ℕ
encode r = cond (leb first_guess r.kind) (guess r) (instruction r)

-- records one after another
unfoldable pub encode_all : List Record → List ℕ
encode_all [] = []
encode_all (r ∷ rs) = encode r ++ encode_all rs
