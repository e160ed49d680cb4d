-- The faults behind 30 as tests on numbers: the kinds of the records, the table of names and the table of guesses. Where both tables are the
-- drawing's, they say what the tests over labels say (proved).
use Rattle.std.specs.Prelude.{Bool, false, not, ◌&&◌, ◌||◌, List, [], ◌∷◌, ℕ, ◌+◌, ◌*◌, leb, ltb, eqb, length, get_or}
use Rattle.refusal.specs.First.{any_below}
use Rattle.kinds.specs.Kinds.{kind_at, new_point, new_arc, first_rule, last_rule, pair_guess, number_guess, label_places}
use Rattle.record.specs.Decode.{count_of, decode_at}
use Rattle.record.specs.Entry.{Label, Entry}
use Rattle.names.specs.Labels.{kind_no, within}
use Rattle.names.specs.Cut.{known_parts, part_no}
use Rattle.names.specs.Names.{per_kind, record_by, sort_by, names_of, place_by, guesses_of}
use Rattle.drawing.specs.Needs.{Shape, point, circle, arc, declaring, Part, parts, Need, need_at}
use Rattle.drawing.specs.Faults as faults
use faults.{Fault, malformed, declared_twice, wrong_label, no_such_part, guessed_twice, without_guess}

-- ---- sorts

-- the sort of a shape's part
abbrev pub sort_of : Shape → Label → ℕ
sort_of s suffix = declaring s * per_kind + part_no suffix

-- a sort is one of those that a place needs
abbrev pub by_sort : Need → ℕ → Bool
by_sort [] sort = false
by_sort (c ∷ cs) sort = eqb sort (sort_of c.shape c.suffix) || by_sort cs sort

-- ---- what the tests go by

-- how many records there are, the kind of each, and both tables
pub record Numbers : Type 0 where
  pub count : ℕ
  pub kinds : ℕ → ℕ
  pub names : List ℕ
  pub guesses : List ℕ

-- those of records, with whatever tables are lent
abbrev pub lent_numbers : List ℕ → List ℕ → List ℕ → Numbers
lent_numbers bs names guesses = record { count = count_of bs; kinds = λ j. (decode_at bs j).kind; names = names; guesses = guesses }

-- those of a drawing, with its own tables
abbrev pub own_numbers : List Entry → Numbers
own_numbers es = record { count = length es; kinds = kind_no es; names = names_of es; guesses = guesses_of es }

-- the name of label q of record i, by the table of names
abbrev pub name_by : List ℕ → ℕ → ℕ → ℕ
name_by names i q = get_or names (i * label_places + q) 0

-- ---- the faults at record i, of a kind

-- 31: the record that its own name tells stands before it
unfoldable pub declared_before : ℕ → List ℕ → ℕ → Bool
declared_before kind names i = within new_point new_arc kind && ltb (record_by (name_by names i 0)) i

-- the name of label q is not of a sort that its place needs
unfoldable pub wrong_name : ℕ → List ℕ → ℕ → ℕ → Bool
wrong_name kind names i q = not (by_sort (need_at kind q) (sort_by (name_by names i q)))

-- 32
unfoldable pub any_wrong_name : ℕ → List ℕ → ℕ → Bool
any_wrong_name kind names i = within first_rule last_rule kind && any_below (kind_at kind).labels (wrong_name kind names i)

-- 33
unfoldable pub no_part_named : ℕ → List ℕ → ℕ → Bool
no_part_named kind names i = within pair_guess number_guess kind && wrong_name kind names i 0

-- 34: the lowest guess of its part stands before it
unfoldable pub guessed_before : ℕ → List ℕ → List ℕ → ℕ → Bool
guessed_before kind names guesses i = within pair_guess number_guess kind && ltb (get_or guesses (place_by (name_by names i 0)) 0) i

-- one of these parts of the shape that it declares has no guess among n records
abbrev pub any_lacking : ℕ → List ℕ → ℕ → List Part → Bool
any_lacking n guesses i [] = false
any_lacking n guesses i (p ∷ ps) = leb n (get_or guesses (i * known_parts + part_no p.suffix) 0) || any_lacking n guesses i ps

-- it declares this shape, and a part has no guess
abbrev pub lacks_by : ℕ → ℕ → List ℕ → ℕ → Shape → Bool
lacks_by kind n guesses i s = eqb kind (declaring s) && any_lacking n guesses i (parts s)

-- 35
unfoldable pub part_lacking : ℕ → ℕ → List ℕ → ℕ → Bool
part_lacking kind n guesses i = lacks_by kind n guesses i point || (lacks_by kind n guesses i circle || lacks_by kind n guesses i arc)

-- a fault behind 30 holds at record i
abbrev pub test_by : Numbers → Fault → ℕ → Bool
test_by t malformed i = false
test_by t declared_twice i = declared_before (t.kinds i) t.names i
test_by t wrong_label i = any_wrong_name (t.kinds i) t.names i
test_by t no_such_part i = no_part_named (t.kinds i) t.names i
test_by t guessed_twice i = guessed_before (t.kinds i) t.names t.guesses i
test_by t without_guess i = part_lacking (t.kinds i) t.count t.guesses i
