-- Rows that are well formed, and rows that are not, by computation. Assumes nothing.
use mathlib.Core.Path.{◌≡◌, refl}
use mathlib.Core.Bool.{true, false}
use mathlib.Core.List.{List, [], ◌∷◌, ◌++◌, map}
use Prim.Native.Nat.{ℕ}
use lib.ListN.{take, drop}
use Rattle.row.specs.Row.{encode_row, bytes_of, held_in}
use Rattle.row.specs.Formed.{rows_test, row_test, ids_of}

-- a row of a kind with these ids
abbrev of : ℕ → ℕ → List ℕ → ℕ → List ℕ
of kind third ids bits = encode_row (record { kind = kind; third = third; ids = ids; bits = bits })

-- points 0 and 1 one above the other; the x of a point fixed at 1.0
abbrev vertical : List ℕ
vertical = of 5 0 (0 ∷ 1 ∷ 2 ∷ 3 ∷ []) 0

abbrev fixed : List ℕ
fixed = of 4 1 (0 ∷ []) 4607182418800017408

-- none, one and two rows; then a part of one, a kind that is no rule's, an id too few, an id too many, a third byte of another kind, none where
-- one is due, one above those that there are, a number that the kind has not, an id behind the ids, and another mark
pub tested :
    map rows_test (
    []
    ∷ vertical
    ∷ (vertical ++ fixed)
    ∷ take 43 vertical
    ∷ of 1 0 [] 0
    ∷ of 5 0 (0 ∷ 1 ∷ 2 ∷ []) 0
    ∷ of 5 0 (0 ∷ 1 ∷ 2 ∷ 3 ∷ 4 ∷ []) 0
    ∷ of 5 1 (0 ∷ 1 ∷ 2 ∷ 3 ∷ []) 0
    ∷ of 4 0 (0 ∷ []) 0
    ∷ of 4 3 (0 ∷ []) 0
    ∷ of 5 0 (0 ∷ 1 ∷ 2 ∷ 3 ∷ []) 1
    ∷ (take 35 vertical ++ 1 ∷ drop 36 vertical)
    ∷ (83 ∷ drop 1 vertical)
    ∷ [])
    ≡ true ∷ true ∷ true ∷ false ∷ false ∷ false ∷ false ∷ false ∷ false ∷ false ∷ false ∷ false ∷ false ∷ []
unfolding rows_test row_test ids_of held_in encode_row bytes_of
tested = refl
