-- A line of each form that docs/FORMAT.md's page has not, and lines of a check and a lowering, by computation. Assumes nothing.
use Rattle.std.specs.Prelude.{Err}
use mathlib.Core.Path.{◌≡◌, refl}
use mathlib.Core.List.{List, [], ◌∷◌}
use Prim.Native.Nat.{ℕ}
use lib.Ieee.{binary64, of_bits, to_bits}
use Rattle.lowering.specs.Lower.{good_lowering}
use Rattle.drawing.specs.Check.{good_check}
use Rattle.refusal.specs.Refusal.{refusal}
use Rattle.print.specs.Print.{last_digits, hex_of, width_up_to, decimal_of}
use Rattle.record.specs.Entry.{entry_with}
use Rattle.layout.specs.declared.Stage.TheVariants.{Done}
use Rattle.row.specs.Row.{meant, held_in, bytes_of, Row, encode_row, decode_row, row_of}
use Rattle.rail.specs.Words.{joined, quoted, spaced}
use Rattle.lines.specs.Lines.{first_line, line_of}
use Rattle.lines.specs.Drawn.{checked_line, lowered_line, slot_line, row_line}

pub others :
    joined (
    first_line (Err (refusal 10 125))
    ∷ line_of (entry_with 10 2 ("a" ∷ "b" ∷ "c" ∷ "d" ∷ []) 0x3ff0000000000000 0)
    ∷ line_of (entry_with 18 2 ("c" ∷ []) 0 0)
    ∷ line_of (entry_with 8 0 ("a" ∷ "b" ∷ "c" ∷ "d" ∷ []) 0 0)
    ∷ [])
    ≡ quoted (
    "refused 10 125"
    ∷ "10 a b c d rad 3ff0000000000000"
    ∷ "18 c y 0000000000000000"
    ∷ "8 a b c d"
    ∷ [])
unfolding first_line line_of spaced decimal_of hex_of last_digits width_up_to
others = refl

-- a row by its kind, third byte, ids and number, written and read back
abbrev pub row : ℕ → ℕ → List ℕ → ℕ → Row
row kind third ids bits = decode_row (encode_row (record { kind = kind; third = third; ids = ids; bits = bits }))

pub lowering :
    joined (
    checked_line (good_check 2 1 1 11)
    ∷ checked_line (Err (refusal 32 1))
    ∷ lowered_line (good_lowering (record { points = 2; circles = 1; arcs = 1; stage = Done }) 13 11)
    ∷ lowered_line (Err (refusal 31 1))
    ∷ slot_line 6 (of_bits binary64 0x4000000000000000)
    ∷ row_line (row 4 1 (0 ∷ []) 0)
    ∷ row_line (row 18 2 (12 ∷ []) 0x3ff0000000000000)
    ∷ row_line (row 10 2 (0 ∷ 1 ∷ 2 ∷ 3 ∷ 4 ∷ 5 ∷ 6 ∷ 7 ∷ []) 0x3ff0000000000000)
    ∷ row_line (row 6 0 (0 ∷ 1 ∷ 2 ∷ 4294967294 ∷ []) 0)
    ∷ row_line (row 15 0 (4 ∷ 5 ∷ 6 ∷ []) 0x4000000000000000)
    ∷ row_line (decode_row (row_of [] 0))
    ∷ [])
    ≡ quoted (
    "passed points 2 circles 1 arcs 1 rows 11"
    ∷ "refused 32 1"
    ∷ "lowered points 2 circles 1 arcs 1 next 13"
    ∷ "refused 31 1"
    ∷ "slot 6 4000000000000000"
    ∷ "row 4 0 x 0000000000000000"
    ∷ "row 18 12 y 3ff0000000000000"
    ∷ "row 10 0 1 2 3 4 5 6 7 rad 3ff0000000000000"
    ∷ "row 6 0 1 2 4294967294"
    ∷ "row 15 4 5 6 4000000000000000"
    ∷ "row 0"
    ∷ [])
unfolding checked_line lowered_line slot_line row_line meant held_in bytes_of encode_row row_of line_of spaced decimal_of hex_of last_digits width_up_to to_bits of_bits
lowering = refl
