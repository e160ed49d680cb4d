-- The whole answer to a page, from the bytes of its text: the listing, the line of the check, or the lines of the lowering.
use Rattle.std.specs.Prelude.{Bool, true, false, List, ◌++◌, map, ℕ, length, get_or, Result, Err, Ok}
use Rattle.std.specs.Float.{nan}
use Rattle.lowering.specs.Lower.{good_lowering}
use Rattle.refusal.specs.declared.Refusal.{Refusal}
use Rattle.ground.specs.Lists.{up_to}
use Rattle.refusal.specs.Refusal.{refusal}
use Rattle.refusal.specs.First.{Answer, passed, refused}
use Rattle.record.specs.Record.{record_room}
use Rattle.record.specs.Entry.{Entry}
use Rattle.reader.specs.declared.Reading.{Reading}
use Rattle.reader.specs.Page.{reading_of, lines_of}
use Rattle.drawing.specs.Faults.{Fault, number_of}
use Rattle.drawing.specs.Check.{check_of, checked_of}
use Rattle.lowering.specs.Slots.{slots, layout_of, values_of}
use Rattle.lowering.specs.Rows.{rules_of, rows_of}
use Rattle.rail.specs.Words.{joined}
use Rattle.lines.specs.Lines.{refused_line, first_line, line_of}
use Rattle.lines.specs.Drawn.{checked_line, lowered_line, slot_line, row_line}
use Rattle.answers.specs.declared.Way.{Way}
use Rattle.answers.specs.declared.Way.TheVariants.{Plain, Whole, Check, Rows}

-- a page that is refused is answered with its refusal, whatever is asked
abbrev pub answer_to : Result Reading Refusal → List ℕ → List ℕ
answer_to (Ok reading) told = told
answer_to (Err r) told = refused_line r

-- ---- the listing

-- what the reading gave, and a line for each record
abbrev pub listed : Result Reading Refusal → List ℕ → List ℕ
listed reading s = first_line reading ++ joined (map line_of (lines_of s))

-- by the whole reading, or by the one that may leave text over
unfoldable pub listing_of : Bool → List ℕ → List ℕ
listing_of whole s = answer_to (reading_of whole s record_room) (listed (reading_of whole s record_room) s)

-- ---- the check

-- what it tells of the page's drawing, by the whole reading
unfoldable pub checking_of : List ℕ → List ℕ
checking_of s = answer_to (reading_of true s record_room) (checked_line (checked_of (lines_of s)))

-- ---- the lowering, from id 0

-- a line for each slot: slot j has the id j, and its starting value
abbrev pub slot_lines : List Entry → List (List ℕ)
slot_lines es = up_to (length (slots es)) (λ j. slot_line j (get_or (values_of es) j nan))

-- a drawing's first fault; or how many shapes it has, a line for each slot, and a line for each row
abbrev pub drawing_lines : Answer Fault → List Entry → List ℕ
drawing_lines (refused fault i) es = refused_line (refusal (number_of fault) i)
drawing_lines passed es =
    lowered_line (good_lowering (layout_of es) (length (slots es)) (length (rules_of es))) ++ joined (slot_lines es) ++ joined (map row_line (rows_of es 0))

-- all of them, by the whole reading
unfoldable pub lowering_of : List ℕ → List ℕ
lowering_of s = answer_to (reading_of true s record_room) (drawing_lines (check_of (lines_of s)) (lines_of s))

-- ---- what is asked

-- the answer to each way of asking
unfoldable pub answer_of : Way → List ℕ → List ℕ
answer_of Plain s = listing_of false s
answer_of Whole s = listing_of true s
answer_of Check s = checking_of s
answer_of Rows s = lowering_of s
