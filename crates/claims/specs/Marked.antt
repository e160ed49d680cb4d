-- The twelve marked cases of docs/FORMAT.md, (a) to (l), in one table: a text, what the whole reading tells of it, and the lines that are read.
use Rattle.std.specs.Prelude.{true, List, [], ◌∷◌, ◌++◌, ℕ, length, Result, Err, Ok}
use Prim.Native.String.{String}
use Rattle.refusal.specs.declared.Refusal.{Refusal}
use Rattle.ground.specs.Words.{bytes}
use Rattle.refusal.specs.Refusal.{refusal}
use Rattle.kinds.specs.Kinds.{pair_guess}
use Rattle.record.specs.Entry.{Entry, entry_with}
use Rattle.reader.specs.declared.Reading.{Reading}
use Rattle.reader.specs.Page.{reading_of, lines_of, good_reading}

-- a text, what is told of it, and its lines, with labels as their text; a refused text has none
pub record Case : Type 0 where
  pub text : List ℕ
  pub told : Result Reading Refusal
  pub lines : List Entry

-- ---- what the reader makes of a text

-- the lines that a good reading writes
abbrev pub lines_written : Result Reading Refusal → List Entry → List Entry
lines_written (Ok reading) lines = lines
lines_written (Err r) lines = []

-- the whole reading of a text, with room for ten records
abbrev pub case_of : List ℕ → Case
case_of text =
    let told = reading_of true text 280 in
    record { text = text; told = told; lines = lines_written told (lines_of text) }

-- ---- how the table is written

abbrev pub nl : List ℕ
nl = 10 ∷ []

-- a page with one instruction line and one guess
abbrev pub page : String → List ℕ
page line = bytes "# constraints" ++ nl ++ bytes line ++ nl ++ nl ++ bytes "# guesses" ++ nl ++ bytes "p roughly (1, 2)" ++ nl

-- a line by its kind, its third byte (1 for x, 2 for y), its labels and the bits of its number
abbrev pub line : ℕ → ℕ → List String → ℕ → Entry
line kind third labels bits = entry_with kind third labels bits 0

-- the guess: p, with the bits of 1 and of 2
abbrev pub the_guess : Entry
the_guess = entry_with pair_guess 0 ("p" ∷ []) 0x3ff0_0000_0000_0000 0x4000_0000_0000_0000

-- a page that is read up to its end: these lines, and the guess
abbrev pub reads_to : String → ℕ → List Entry → Case
reads_to first end lines = record { text = page first; told = good_reading (length lines) 1 end; lines = lines ++ (the_guess ∷ []) }

-- a text that is refused with a number at a place
abbrev pub refuses : List ℕ → ℕ → ℕ → Case
refuses text number place = record { text = text; told = Err (refusal number place); lines = [] }

-- ---- the table

abbrev pub cases : List Case
cases =
    -- (a) `arc1` declares an arc, and the line is left there
    refuses (page "arc1.center.x = 0") 5 18
    -- (b) a blank at the line's end
    ∷ refuses (page "point p ") 5 21
    -- (c) the empty text
    ∷ refuses [] 3 0
    -- (d) two records labelled `p.x`
    ∷ reads_to "p.x = (1, 2)" 55 (line 4 1 ("p.x" ∷ []) 0x3ff0_0000_0000_0000 ∷ line 4 2 ("p.x" ∷ []) 0x4000_0000_0000_0000 ∷ [])
    -- (e) `circle` is a label here
    ∷ reads_to "circle.x = 0" 55 (line 4 1 ("circle" ∷ []) 0 ∷ [])
    -- (f) fifteen digits, and one more
    ∷ reads_to "p.x = 999999999999999" 64 (line 4 1 ("p" ∷ []) 0x430c_6bf5_2633_fff8 ∷ [])
    ∷ refuses (page "p.x = 9999999999999999") 8 20
    -- (g) 10^22, and 10^23
    ∷ reads_to "p.x = 1e22" 53 (line 4 1 ("p" ∷ []) 0x4480_f0cf_064d_d592 ∷ [])
    ∷ refuses (page "p.x = 1e23") 8 20
    -- (h) k is -23
    ∷ refuses (page "p.x = 0.5e-22") 8 20
    -- (i) minus zero
    ∷ reads_to "p.x = -0" 51 (line 4 1 ("p" ∷ []) 0x8000_0000_0000_0000 ∷ [])
    -- (j) the root of two
    ∷ reads_to "radius(c, sqrt(2))" 61 (line 15 0 ("c" ∷ []) 0x3ff6_a09e_667f_3bcd ∷ [])
    -- (k) the root of minus four is a NaN
    ∷ reads_to "radius(c, sqrt(-4))" 62 (line 15 0 ("c" ∷ []) 0x7ff8_0000_0000_0000 ∷ [])
    -- (l) a blank before the bracket
    ∷ reads_to "horizontal(a, b )" 60 (line 6 0 ("a" ∷ "b" ∷ []) 0 ∷ [])
    ∷ refuses (page "line(a, b )") 4 14
    ∷ []
