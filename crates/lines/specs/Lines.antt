-- The lines of a listing (docs/FORMAT.md, "A page read whole").
use Rattle.std.specs.Prelude.{cond, List, [], ◌∷◌, ◌++◌, ℕ, eqb, Result, Err, Ok}
use Rattle.ground.specs.Words.{bytes}
use Rattle.refusal.specs.declared.Refusal.{Refusal}
use Rattle.print.specs.Print.{decimal_of, hex_of}
use Rattle.kinds.specs.Kinds.{kind_at, numberless, angle, pair}
use Rattle.record.specs.Entry.{Entry}
use Rattle.rail.specs.Words.{line_with}
use Rattle.reader.specs.declared.Reading.{Reading}

-- ---- the first line

abbrev pub good_line : ℕ → ℕ → ℕ → List ℕ
good_line instructions guesses end =
    line_with (bytes "instructions") (decimal_of instructions ∷ bytes "guesses" ∷ decimal_of guesses ∷ bytes "end" ∷ decimal_of end ∷ [])

abbrev pub refused_line : Refusal → List ℕ
refused_line r = line_with (bytes "refused") (decimal_of r.number ∷ decimal_of r.place ∷ [])

-- what a reading gave
unfoldable pub first_line : Result Reading Refusal → List ℕ
first_line (Ok reading) = good_line reading.instructions reading.guesses reading.end
first_line (Err r) = refused_line r

-- ---- a record's line

-- the third byte that stands for x or deg; any other stands for y or rad
abbrev pub first_word : ℕ
first_word = 1

-- the word of a third byte, by the sort of the kind's number: deg or rad for an angle, and else x or y
abbrev pub third_word : ℕ → ℕ → List ℕ
third_word number third =
    cond (eqb number angle) (cond (eqb third first_word) (bytes "deg") (bytes "rad")) (cond (eqb third first_word) (bytes "x") (bytes "y"))

-- that word, if the kind has one
abbrev pub third_of : ℕ → ℕ → List (List ℕ)
third_of kind third = cond (eqb (kind_at kind).thirds 0) [] (third_word (kind_at kind).number third ∷ [])

-- the bits of each number that a sort of number has
abbrev pub numbers_of : ℕ → ℕ → ℕ → List (List ℕ)
numbers_of number x y = cond (eqb number numberless) [] (hex_of x ∷ cond (eqb number pair) (hex_of y ∷ []) [])

-- the kind, the labels, x, y, deg or rad if any, and the bits of each number that the kind has
unfoldable pub line_of : Entry → List ℕ
line_of e =
    line_with (decimal_of e.kind) (e.labels ++ third_of e.kind e.third ++ numbers_of (kind_at e.kind).number e.x e.y)
