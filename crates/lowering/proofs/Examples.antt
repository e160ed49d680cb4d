-- A plate with a vent hole and a round corner, by the names of its shapes, and what it is lowered to: one claim, which the definitions compute.
-- Assumes nothing.
use Rattle.std.specs.Prelude.{Result, Err}
use mathlib.Core.Path.{◌≡◌, refl}
use mathlib.Core.List.{List, [], ◌∷◌, ◌++◌, map}
use Prim.Native.Nat.{ℕ}
use lib.ListN.{replicate}
use Prim.Native.String.{String, ◌++◌ as ◌++ˢ◌}
use Rattle.refusal.specs.declared.Refusal.{Refusal}
use Rattle.refusal.specs.Refusal.{refusal}
use Rattle.refusal.specs.First.{lowest, first, once, answered}
use Rattle.text.specs.Text.{run_to, word_at, byte_on, label_at, label_on, suffixed_on}
use Rattle.layout.specs.declared.Stage.TheVariants.{Done}
use Rattle.record.specs.Entry.{Entry, entry_with}
use Rattle.record.specs.Sound.{spelled_test, sound_test}
use Rattle.record.specs.Formed.{malformed_test}
use Rattle.names.specs.Labels.{labelled, lowest_or}
use Rattle.drawing.specs.Check as check
use check.{twice, named_at, some_named, guess_at, guessed, wrong_place, wrong_label_test, no_such_part_test, without_guess_test, check_of, count_below}
use Rattle.lowering.specs.declared.Lowered.{Lowered}
use Rattle.lowering.specs.Slots.{Slot, slots, guess_of, number_for}
use Rattle.row.specs.Row.{Row, bytes_of, encode_row}
use Rattle.lowering.specs.Rows.{named_ids, rows_of}
use Rattle.lowering.specs.Lower.{Room, lack_of, lower_of, good_lowering}

-- ---- entries

abbrev one : ℕ → ℕ → String → ℕ → ℕ → Entry
one kind third l x y = entry_with kind third (l ∷ []) x y

abbrev declared : ℕ → String → Entry
declared kind l = one kind 0 l 0 0

abbrev pair : String → ℕ → ℕ → Entry
pair l x y = one 24 0 l x y

-- by the names of its shapes, the name of the one whose center is fixed, and the parts by which the arc's ends are guessed. The arc stands first and its
-- rule before it: neither matters to the slots. Numbers are small ones in the place of bits
abbrev pub plate_with : String → String → String → String → String → String → List Entry
plate_with corner vent p centered start end =
    declared 20 corner
    ∷ declared 3 corner
    ∷ declared 1 p
    ∷ declared 2 vent
    ∷ one 15 0 vent 90 0
    ∷ one 4 1 p 91 0
    ∷ one 4 2 (centered ++ˢ ".center") 92 0
    ∷ one 18 1 vent 93 0
    ∷ entry_with 12 0 (p ∷ corner ∷ []) 0 0
    ∷ pair (corner ++ˢ ".center") 9 10
    ∷ pair (corner ++ˢ end) 7 8
    ∷ pair (corner ++ˢ start) 5 6
    ∷ one 25 0 (vent ++ˢ ".radius") 4 0
    ∷ pair (vent ++ˢ ".center") 2 3
    ∷ pair p 0 1
    ∷ []

-- the corner's center is fixed, and its ends are guessed as they are
abbrev pub plate_by : String → String → String → List Entry
plate_by corner vent p = plate_with corner vent p corner ".a" ".b"

abbrev pub plate : List Entry
plate = plate_by "c" "v" "p"

-- ---- what is made of them

abbrev row : ℕ → ℕ → List ℕ → ℕ → Row
row kind third ids bits = record { kind = kind; third = third; ids = ids; bits = bits }

-- the point has the ids 100 and 101, the vent 102 to 104, the corner 105 to 110: arcs begin behind the circles. The center that is fixed has this id
abbrev pub rows_due : ℕ → List Row
rows_due centered =
    row 20 0 (105 ∷ 106 ∷ 107 ∷ 108 ∷ 109 ∷ 110 ∷ []) 0
    ∷ row 15 0 (102 ∷ 103 ∷ 104 ∷ []) 90
    ∷ row 4 1 (100 ∷ []) 91
    ∷ row 4 2 (centered ∷ []) 92
    ∷ row 18 1 (102 ∷ []) 93
    ∷ row 12 0 (100 ∷ 101 ∷ 105 ∷ 106 ∷ 107 ∷ 108 ∷ 109 ∷ 110 ∷ []) 0
    ∷ []

-- each slot's number of its guess
abbrev pub numbers : List Entry → List ℕ
numbers es = map (λ (s : Slot). number_for s.axis (guess_of es (s.shape ++ s.suffix))) (slots es)

-- these are those of the corner's ends
abbrev pub numbers_due : List ℕ → List ℕ
numbers_due ends = 0 ∷ 1 ∷ 2 ∷ 3 ∷ 4 ∷ (ends ++ 9 ∷ 10 ∷ [])

abbrev room : ℕ → ℕ → ℕ → ℕ → Room
room next ids values row_bytes = record { next = next; ids = ids; values = values; row_bytes = row_bytes }

abbrev answers : List (Result Lowered Refusal)
answers =
    lower_of plate (room 100 11 11 264)
    -- the last ids that there are
    ∷ lower_of plate (room 4294967284 11 11 264)
    -- 36 before 37, and 38 last
    ∷ lower_of plate (room 4294967285 10 11 264)
    ∷ lower_of plate (room 100 10 11 263)
    ∷ lower_of plate (room 100 11 10 264)
    ∷ lower_of plate (room 100 11 11 263)
    -- the check's refusal before them: a label declared twice
    ∷ lower_of (declared 1 "v" ∷ plate) (room 4294967285 0 0 0)
    ∷ []

abbrev good : ℕ → Result Lowered Refusal
good next = good_lowering (record { points = 1; circles = 1; arcs = 1; stage = Done }) next 6

-- the bytes of a row: its mark, the count of ids, the third byte, eight ids, the bits
abbrev written : List ℕ
written = 82 ∷ 4 ∷ 1 ∷ 2 ∷ 110 ∷ 0 ∷ 0 ∷ 0 ∷ (replicate 28 0 ++ 92 ∷ replicate 7 0)

pub examples : (rows_of plate 100 ≡ rows_due 110)
    × (encode_row (row 4 2 (110 ∷ []) 92) ≡ written)
    × (numbers plate ≡ numbers_due (5 ∷ 6 ∷ 7 ∷ 8 ∷ []))
    × (answers ≡ good 111 ∷ good 4294967295 ∷ Err (refusal 36 0) ∷ Err (refusal 37 0) ∷ Err (refusal 37 0) ∷ Err (refusal 38 0) ∷ Err (refusal 31 4) ∷ [])
unfolding slots named_ids rows_of encode_row bytes_of guess_of lack_of lower_of lowest_or lowest first once answered labelled twice named_at some_named guess_at guessed wrong_place wrong_label_test no_such_part_test without_guess_test check_of count_below malformed_test sound_test spelled_test run_to word_at byte_on label_at label_on suffixed_on
examples = (refl, refl, refl, refl)
