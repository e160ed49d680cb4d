-- The lines that tell of a drawing: whether it passes the check, and what lowering makes of it, a line for each slot and each row.
use Rattle.std.specs.Prelude.{List, [], ◌∷◌, ◌++◌, map, ℕ, Float, Result, Err, Ok}
use Rattle.std.specs.Float.{binary64}
use Rattle.std.specs.Float.Ieee.{to_bits}
use Rattle.refusal.specs.declared.Refusal.{Refusal}
use Rattle.ground.specs.Words.{bytes}
use Rattle.print.specs.Print.{decimal_of, hex_of}
use Rattle.record.specs.Entry.{Entry}
use Rattle.drawing.specs.declared.Checked.{Checked}
use Rattle.lowering.specs.declared.Lowered.{Lowered}
use Rattle.row.specs.Row.{Row}
use Rattle.rail.specs.Words.{line_with}
use Rattle.lines.specs.Lines.{refused_line, line_of}

-- ---- the first line

-- a word, how many points, circles and arcs there are, and one number more with its name
abbrev pub tally_line : List ℕ → ℕ → ℕ → ℕ → List ℕ → ℕ → List ℕ
tally_line word points circles arcs name n =
    line_with word (bytes "points" ∷ decimal_of points ∷ bytes "circles" ∷ decimal_of circles ∷ bytes "arcs" ∷ decimal_of arcs ∷ name ∷ decimal_of n ∷ [])

-- what the check told
unfoldable pub checked_line : Result Checked Refusal → List ℕ
checked_line (Ok checked) = tally_line (bytes "passed") checked.points checked.circles checked.arcs (bytes "rows") checked.rows
checked_line (Err r) = refused_line r

-- what lowering told
unfoldable pub lowered_line : Result Lowered Refusal → List ℕ
lowered_line (Ok lowered) =
    let layout = lowered.layout in
    tally_line (bytes "lowered") layout.points layout.circles layout.arcs (bytes "next") lowered.next
lowered_line (Err r) = refused_line r

-- ---- a slot's line

-- its id, and the bits of its value
unfoldable pub slot_line : ℕ → Float → List ℕ
slot_line id value = line_with (bytes "slot") (decimal_of id ∷ hex_of (to_bits binary64 value) ∷ [])

-- ---- a row's line

-- the rule of a row, with its ids written in the place of labels
abbrev pub rule_of : Row → Entry
rule_of r = record { kind = r.kind; third = r.third; labels = map decimal_of r.ids; x = r.bits; y = 0 }

-- the word, and the rule's line
unfoldable pub row_line : Row → List ℕ
row_line r = bytes "row " ++ line_of (rule_of r)
