-- What is wrong with a drawing: docs/FORMAT.md's faults 31 to 35 in its words, over the entries of the records, behind 30.
use Rattle.std.specs.Prelude.{◌≡◌, ◌⊎◌, List, [], ◌∷◌, ◌++◌, ℕ, length}
use Rattle.refusal.specs.First.{SomeBelow}
use Rattle.kinds.specs.Kinds.{kind_at, Declaration, Rule, Guess}
use Rattle.record.specs.Entry.{Label, Entry, entry_at, label_no}
use Rattle.record.specs.Formed.{Malformed}
use Rattle.names.specs.Labels.{kind_no, name_no}
use Rattle.drawing.specs.Needs.{Shape, declaring, Part, parts, Need, need_at}

-- ---- labels of the drawing

-- l is the label of a shape that is declared anywhere in the drawing, with the suffix behind it
abbrev pub Named : List Entry → Shape → Label → Label → Type 0
Named es s suffix l = SomeBelow (length es) (λ j. (kind_no es j ≡ declaring s) × (name_no es j ++ suffix ≡ l))

-- l is one of those that a place needs
abbrev pub Meets : List Entry → Need → Label → Type 0
Meets es [] l = ⊥
Meets es (c ∷ cs) l = Named es c.shape c.suffix l ⊎ Meets es cs l

-- the part of the shape with the label l has a guess of its sort
abbrev pub Guessed : List Entry → Label → Part → Type 0
Guessed es l p = SomeBelow (length es) (λ j. (kind_no es j ≡ p.guess) × (name_no es j ≡ l ++ p.suffix))

-- one of these parts has no guess
abbrev pub AnyUnguessed : List Entry → Label → List Part → Type 0
AnyUnguessed es l [] = ⊥
AnyUnguessed es l (p ∷ ps) = (Guessed es l p → ⊥) ⊎ AnyUnguessed es l ps

-- ---- the faults at entry i

-- 31: it declares a label that an earlier one declares, of whatever kinds
abbrev pub DeclaredTwice : List Entry → ℕ → Type 0
DeclaredTwice es i = Declaration (kind_no es i) × SomeBelow i (λ j. Declaration (kind_no es j) × (name_no es j ≡ name_no es i))

-- 32: it is a rule, and one of its labels is not of the kind needed
abbrev pub WrongLabel : List Entry → ℕ → Type 0
WrongLabel es i =
    Rule (kind_no es i)
    × SomeBelow (kind_at (kind_no es i)).labels (λ q. Meets es (need_at (kind_no es i) q) (label_no (entry_at es i) q) → ⊥)

-- 33: it is a guess that names no part, or is of the wrong sort
abbrev pub NoSuchPart : List Entry → ℕ → Type 0
NoSuchPart es i = Guess (kind_no es i) × (Meets es (need_at (kind_no es i) 0) (name_no es i) → ⊥)

-- 34: it guesses a part that an earlier one guesses
abbrev pub GuessedTwice : List Entry → ℕ → Type 0
GuessedTwice es i = Guess (kind_no es i) × SomeBelow i (λ j. Guess (kind_no es j) × (name_no es j ≡ name_no es i))

-- 35: it declares a shape of which a part has no guess
abbrev pub WithoutGuess : List Entry → ℕ → Type 0
WithoutGuess es i = (s : Shape) × (kind_no es i ≡ declaring s) × AnyUnguessed es (name_no es i) (parts s)

-- ---- all of them, in the order in which they are told

pub data Fault : Type 0 where
  malformed declared_twice wrong_label no_such_part guessed_twice without_guess : Fault

-- the faults behind 30
abbrev pub behind30 : List Fault
behind30 = declared_twice ∷ wrong_label ∷ no_such_part ∷ guessed_twice ∷ without_guess ∷ []

-- the order of the check
abbrev pub order : List Fault
order = malformed ∷ behind30

-- docs/FORMAT.md's number of a fault
abbrev pub number_of : Fault → ℕ
number_of malformed = 30
number_of declared_twice = 31
number_of wrong_label = 32
number_of no_such_part = 33
number_of guessed_twice = 34
number_of without_guess = 35

-- a fault holds at entry i
abbrev pub Holds : List Entry → Fault → ℕ → Type 0
Holds es malformed i = Malformed es i
Holds es declared_twice i = DeclaredTwice es i
Holds es wrong_label i = WrongLabel es i
Holds es no_such_part i = NoSuchPart es i
Holds es guessed_twice i = GuessedTwice es i
Holds es without_guess i = WithoutGuess es i
