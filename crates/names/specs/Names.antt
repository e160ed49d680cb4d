-- Names: what a label comes to once its text has been looked at for the only time. A label up to its first point is looked for among the
-- declarations; what stands from the point on is the number of a part.
use Rattle.std.specs.Prelude.{◌≡◌, Bool, ◌&&◌, cond, List, ℕ, ◌+◌, ◌*◌, ◌/◌, ◌%◌, ◌<◌, ltb, eqb, length}
use Rattle.ground.specs.Lists.{up_to}
use Rattle.refusal.specs.First.{EachBelow}
use Rattle.kinds.specs.Kinds.{kind_at, new_point, new_arc, pair_guess, number_guess, Declaration, label_places}
use Rattle.record.specs.Record.{most_records}
use Rattle.record.specs.Entry.{Label, Entry, entry_at, label_no}
use Rattle.record.specs.Laid.{laid_out}
use Rattle.names.specs.Labels.{drawn, kind_no, name_no, within, labelled, lowest_or}
use Rattle.names.specs.Cut.{stem, behind, Pointless, known_parts, part_no}

-- ---- the name of a label

-- the first record that declares a label, or the number of records
abbrev pub declarer : List Entry → Label → ℕ
declarer es l = lowest_or (length es) (labelled es new_point new_arc l)

-- a name counts parts by ones, kinds by eights and records by 32
abbrev pub per_kind : ℕ
per_kind = 8

abbrev pub per_record : ℕ
per_record = 32

-- a declaring record, its kind and a part as one number
abbrev pub packed : List Entry → ℕ → ℕ → ℕ
packed es d part = d * per_record + (kind_no es d * per_kind + part)

-- the name of a label, and 0 where nobody declares it
unfoldable pub name_for : List Entry → Label → ℕ
name_for es l = cond (ltb (declarer es (stem l)) (length es)) (packed es (declarer es (stem l)) (part_no (behind l))) 0

-- the name of label q of entry i
abbrev pub name_at : List Entry → ℕ → ℕ → ℕ
name_at es i q = name_for es (label_no (entry_at es i) q)

-- ---- what a name tells

-- the declaring record
abbrev pub record_by : ℕ → ℕ
record_by name = name / per_record

-- the kind of the declared shape with the part: the sort
abbrev pub sort_by : ℕ → ℕ
sort_by name = name % per_record

-- that kind
abbrev pub kind_by : ℕ → ℕ
kind_by name = sort_by name / per_kind

-- the part
abbrev pub part_by : ℕ → ℕ
part_by name = name % per_kind

-- it tells a known part
abbrev pub tells_part : ℕ → Bool
tells_part name = ltb 0 name && ltb (part_by name) known_parts

-- ---- where a name says what the label says

-- no label is declared twice (31 holds nowhere), and no declared label has a point (30 holds nowhere)
pub record Clear (es : List Entry) : Type 0 where
  pub once : (i j : ℕ) → j < i → i < length es → Declaration (kind_no es i) → Declaration (kind_no es j) → name_no es j ≡ name_no es i → ⊥
  pub pointless : EachBelow (length es) (λ j. Declaration (kind_no es j) → Pointless (name_no es j))

-- ---- the table of names: four places a record

-- how many places it has
abbrev pub name_places : ℕ
name_places = most_records * label_places

-- what stands at place k: the name of a label, and 0 where the record's kind has no label
unfoldable pub name_in : List Entry → ℕ → ℕ
name_in es k = cond (ltb (k % label_places) (kind_at (kind_no es (k / label_places))).labels) (name_at es (k / label_places) (k % label_places)) 0

unfoldable pub names_of : List Entry → List ℕ
names_of es = up_to name_places (name_in es)

-- ---- the table of guesses: a place for each known part of each record

-- how many places it has
abbrev pub guess_places : ℕ
guess_places = most_records * known_parts

-- the place of the part that a name tells
abbrev pub place_by : ℕ → ℕ
place_by name = record_by name * known_parts + part_by name

-- a record of a kind, whose label has a name, is a guess of the part whose place is k
abbrev pub guesses_at : ℕ → ℕ → ℕ → Bool
guesses_at kind name k = within pair_guess number_guess kind && (tells_part name && eqb (place_by name) k)

-- entry i is one
unfoldable pub guesses_part : List Entry → ℕ → ℕ → Bool
guesses_part es k i = guesses_at (kind_no es i) (name_at es i 0) k

-- the lowest record that guesses it, or the number of records
abbrev pub guess_in : List Entry → ℕ → ℕ
guess_in es k = lowest_or (length es) (guesses_part es k)

unfoldable pub guesses_of : List Entry → List ℕ
guesses_of es = up_to guess_places (guess_in es)

-- ---- what is lent

-- what is made of both tables: of records that are laid out the names and the guesses, and else they stay as they were
pub record Resolves (text bs names guesses : List ℕ) (answer : Bool) (names' guesses' : List ℕ) : Type 0 where
  pub told : answer ≡ laid_out text bs
  pub names_are : names' ≡ cond (laid_out text bs) (names_of (drawn text bs)) names
  pub guesses_are : guesses' ≡ cond (laid_out text bs) (guesses_of (drawn text bs)) guesses
