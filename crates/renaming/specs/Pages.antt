-- The same of pages, as a person has them: two pages that read, whose drawings pass and differ by names alone, are answered alike by `answers::rows`.
use Rattle.std.specs.Prelude.{◌≡◌, true, List, ℕ}
use Rattle.record.specs.Record.{record_room}
use Rattle.record.specs.Entry.{Label}
use Rattle.reader.specs.Page.{reading_of, lines_of, good_reading}
use Rattle.answers.specs.Answers.{lowering_of}
use Rattle.renaming.specs.Renaming.{Passes, Renamed}

-- the whole page reads, and its drawing passes the check
pub record PassingPage (text : List ℕ) : Type 0 where
  pub instructions : ℕ
  pub guesses : ℕ
  pub end : ℕ
  pub reads : reading_of true text record_room ≡ good_reading instructions guesses end
  pub passes : Passes (lines_of text)

-- what `rows` prints of both is the same, byte for byte
abbrev pub PrintedAlike : Type 0
PrintedAlike =
    (text text' : List ℕ) → PassingPage text → PassingPage text'
    → (becomes : Label → Label) → Renamed becomes (lines_of text) (lines_of text')
    → lowering_of text ≡ lowering_of text'
