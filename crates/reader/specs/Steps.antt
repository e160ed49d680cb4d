-- How the code reads a page into a buffer of its own and then ends. It need not be read: no promise of a public function cites it.
use Rattle.std.specs.Prelude.{◌≡◌, Bool, List, ℕ, ◌+◌, length, Result, Err, Ok}
use Rattle.refusal.specs.declared.Refusal.{Refusal}
use Rattle.text.specs.declared.Stand.{Stand}
use Rattle.forms.specs.Section.{stored}
use Rattle.reader.specs.declared.Reading.{Reading}
use Rattle.reader.specs.Page.{problem_of, page_of, records_in, written_by}

-- a page read and its records stored
pub record Paged (s d : List ℕ) (instructions guesses : ℕ) (then : Stand) (d' : List ℕ) : Type 0 where
  pub instructions_are : instructions ≡ length (problem_of s).instructions
  pub guesses_are : guesses ≡ length (problem_of s).guesses
  pub then_is : then ≡ (problem_of s).then
  pub buffer : d' ≡ stored d 0 (records_in s)

-- how many records an answer tells of
abbrev pub told_records : Result Reading Refusal → ℕ
told_records (Ok reading) = reading.instructions + reading.guesses
told_records (Err why) = 0

-- what is told and written where the text has neither too many bytes nor a high one
pub record Ended (whole : Bool) (s d : List ℕ) (answer : Result Reading Refusal) (d' : List ℕ) : Type 0 where
  pub told : answer ≡ page_of whole s (problem_of s) (length d)
  pub buffer : d' ≡ written_by answer (records_in s) d
