-- The faults of a drawing as tests, and the check: the first fault of the order, at the lowest record where it holds.
use Rattle.std.specs.Prelude.{Bool, false, not, ◌&&◌, ◌||◌, cond, List, [], ◌∷◌, ◌++◌, ℕ, zero, suc, ◌+◌, eqb, length, Result, Err, Ok}
use Rattle.refusal.specs.declared.Refusal.{Refusal}
use Rattle.refusal.specs.Refusal.{refusal}
use Rattle.refusal.specs.First.{any_below, Answer, passed, refused, first}
use Rattle.kinds.specs.Kinds.{kind_at, new_point, new_circle, new_arc, first_rule, last_rule, pair_guess, number_guess}
use Rattle.record.specs.Entry.{Label, Entry, entry_at, label_no}
use Rattle.record.specs.Formed.{places, malformed_test}
use Rattle.names.specs.Labels.{kind_no, name_no, same, within, labelled}
use Rattle.drawing.specs.declared.Checked.{Checked}
use Rattle.drawing.specs.Needs.{Shape, point, circle, arc, declaring, Part, parts, Need, need_at}
use Rattle.drawing.specs.Faults as faults
use faults.{Fault, malformed, declared_twice, wrong_label, no_such_part, guessed_twice, without_guess, order, number_of}

-- ---- labels

-- entry i is of a kind from low to high, and an earlier one with the same label is too
unfoldable pub twice : List Entry → ℕ → ℕ → ℕ → Bool
twice es low high i = within low high (kind_no es i) && any_below i (labelled es low high (name_no es i))

-- entry j is of this kind, and its first label with the suffix behind it is l
unfoldable pub named_at : List Entry → ℕ → Label → Label → ℕ → Bool
named_at es kind suffix l j = eqb (kind_no es j) kind && same l (name_no es j ++ suffix)

-- some entry is so
unfoldable pub some_named : List Entry → ℕ → Label → Label → Bool
some_named es kind suffix l = any_below (length es) (named_at es kind suffix l)

-- l is one of those that a place needs
abbrev pub meets : List Entry → Need → Label → Bool
meets es [] l = false
meets es (c ∷ cs) l = some_named es (declaring c.shape) c.suffix l || meets es cs l

-- entry j is of this kind, and its first label is l with the suffix behind it
unfoldable pub guess_at : List Entry → ℕ → Label → Label → ℕ → Bool
guess_at es kind suffix l j = eqb (kind_no es j) kind && same (name_no es j) (l ++ suffix)

-- some entry is so
unfoldable pub guessed : List Entry → ℕ → Label → Label → Bool
guessed es kind suffix l = any_below (length es) (guess_at es kind suffix l)

-- one of these parts has no guess
abbrev pub any_unguessed : List Entry → Label → List Part → Bool
any_unguessed es l [] = false
any_unguessed es l (p ∷ ps) = not (guessed es p.guess p.suffix l) || any_unguessed es l ps

-- ---- the faults

-- label q of entry i is not what its place needs
unfoldable pub wrong_place : List Entry → ℕ → ℕ → Bool
wrong_place es i q = not (meets es (need_at (kind_no es i) q) (label_no (entry_at es i) q))

-- 32
unfoldable pub wrong_label_test : List Entry → ℕ → Bool
wrong_label_test es i = within first_rule last_rule (kind_no es i) && any_below (kind_at (kind_no es i)).labels (wrong_place es i)

-- 33
unfoldable pub no_such_part_test : List Entry → ℕ → Bool
no_such_part_test es i = within pair_guess number_guess (kind_no es i) && wrong_place es i 0

-- entry i declares this shape, and a part has no guess
abbrev pub lacks : List Entry → ℕ → Shape → Bool
lacks es i s = eqb (kind_no es i) (declaring s) && any_unguessed es (name_no es i) (parts s)

-- 35
unfoldable pub without_guess_test : List Entry → ℕ → Bool
without_guess_test es i = lacks es i point || (lacks es i circle || lacks es i arc)

-- a fault holds at entry i
abbrev pub test : List Entry → Fault → ℕ → Bool
test es malformed i = malformed_test es i
test es declared_twice i = twice es new_point new_arc i
test es wrong_label i = wrong_label_test es i
test es no_such_part i = no_such_part_test es i
test es guessed_twice i = twice es pair_guess number_guess i
test es without_guess i = without_guess_test es i

-- ---- the check

-- the first fault of the order. A place is an entry, or the one after the last
unfoldable pub check_of : List Entry → Answer Fault
check_of es = first order (test es) (places es)

-- ---- what is answered

-- how many of the first n kinds are from low to high
unfoldable pub count_below : (ℕ → ℕ) → ℕ → ℕ → ℕ → ℕ
count_below kinds low high zero = 0
count_below kinds low high (suc n) = count_below kinds low high n + cond (within low high (kinds n)) 1 0

-- how many entries are of a kind from low to high
abbrev pub count_within : List Entry → ℕ → ℕ → ℕ
count_within es low high = count_below (kind_no es) low high (length es)

-- a drawing passes with so many points, circles, arcs and rows
abbrev pub good_check : ℕ → ℕ → ℕ → ℕ → Result Checked Refusal
good_check points circles arcs rows = Ok (record { points = points; circles = circles; arcs = arcs; rows = rows })

-- a drawing that passes has so many points, circles, arcs and rows; any other is refused with docs/FORMAT.md's number, at a place
abbrev pub answer : List Entry → Answer Fault → Result Checked Refusal
answer es passed = good_check (count_within es new_point new_point) (count_within es new_circle new_circle) (count_within es new_arc new_arc) (count_within es first_rule last_rule)
answer es (refused f i) = Err (refusal (number_of f) i)

-- what is told of a drawing
unfoldable pub checked_of : List Entry → Result Checked Refusal
checked_of es = answer es (check_of es)
