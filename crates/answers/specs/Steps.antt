-- How the code makes an answer: from the bytes of the records, and from what lowering wrote. It mirrors the code and need not be read.
use Rattle.std.specs.Prelude.{◌≡◌, Bool, true, false, List, ◌++◌, ℕ, ◌/◌, ◌≤◌, length, get_or, Float, Result}
use Rattle.std.specs.Float.{nan}
use Rattle.refusal.specs.declared.Refusal.{Refusal}
use Rattle.ground.specs.Lists.{up_to}
use Rattle.record.specs.Record.{most_records, longest_text, encode_all}
use Rattle.record.specs.Decode.{count_of, decode_at}
use Rattle.record.specs.Entry.{entry_of}
use Rattle.record.specs.Formed.{entries}
use Rattle.reader.specs.declared.Reading.{Reading}
use Rattle.reader.specs.Page.{records_in, lines_of}
use Rattle.drawing.specs.Check.{check_of, checked_of}
use Rattle.lowering.specs.declared.Lowered.{Lowered}
use Rattle.row.specs.Row.{row_bytes, decode_row, row_of}
use Rattle.rail.specs.Words.{joined}
use Rattle.lines.specs.Lines.{first_line, line_of}
use Rattle.lines.specs.Drawn.{checked_line, lowered_line, slot_line, row_line}
use Rattle.answers.specs.declared.Way.{Way}
use Rattle.answers.specs.declared.Way.TheVariants.{Plain, Whole, Check, Rows}
use Rattle.answers.specs.Answers.{listed, drawing_lines}

-- bytes that a good reading of a text wrote: those of its records
pub record Read (s bs : List ℕ) : Type 0 where
  pub short : length s ≤ longest_text
  pub few : length (records_in s) ≤ most_records
  pub bytes_are : bs ≡ encode_all (records_in s)
  pub entries_are : entries s bs ≡ lines_of s

-- whether the page has to be the whole text
abbrev pub whole_by : Way → Bool
whole_by Plain = false
whole_by Whole = true
whole_by Check = true
whole_by Rows = true

-- what is told of a page with a good reading
abbrev pub told_by : Way → Result Reading Refusal → List ℕ → List ℕ
told_by Plain reading s = listed reading s
told_by Whole reading s = listed reading s
told_by Check reading s = checked_line (checked_of (lines_of s))
told_by Rows reading s = drawing_lines (check_of (lines_of s)) (lines_of s)

-- what a reading gave, and the lines of the records that bytes hold
unfoldable pub listed_by : Result Reading Refusal → List ℕ → List ℕ → List ℕ
listed_by reading s bs = first_line reading ++ joined (up_to (count_of bs) (λ i. line_of (entry_of s (decode_at bs i))))

-- what lowering told, and the lines of slots by their ids and values
unfoldable pub slots_by : Result Lowered Refusal → List ℕ → List Float → List ℕ
slots_by told ids values = lowered_line told ++ joined (up_to (length ids) (λ j. slot_line (get_or ids j 0) (get_or values j nan)))

-- and the lines of the rows that bytes hold
unfoldable pub lowered_by : Result Lowered Refusal → List ℕ → List Float → List ℕ → List ℕ
lowered_by told ids values bs = slots_by told ids values ++ joined (up_to (length bs / row_bytes) (λ k. row_line (decode_row (row_of bs k))))
