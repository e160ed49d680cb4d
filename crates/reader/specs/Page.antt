-- A page (docs/FORMAT.md, "Problem"; `parse_problem` of parser.rs): its headings and sections, what is told of it, and what a good reading writes.
use Rattle.std.specs.Prelude.{◌≡◌, Bool, true, false, cond, ◌&&◌, List, ◌++◌, map, ℕ, ◌+◌, ◌*◌, ltb, length, drop, Result, Err, Ok}
use Rattle.refusal.specs.declared.Refusal.{Refusal}
use Rattle.ground.specs.Words.{bytes}
use Rattle.refusal.specs.Refusal.{refusal}
use Rattle.text.specs.Text.{or_stand, due, run_to, ws_on, word_on, byte_on, newline_on}
use Rattle.text.specs.declared.Stand.{Stand}
use Rattle.text.specs.declared.Stand.TheVariants.{At, Nothing, Refused}
use Rattle.record.specs.Record.{record_bytes, most_records, longest_text, encode_all}
use Rattle.record.specs.declared.Record.{Record}
use Rattle.record.specs.Entry.{Entry, entry_of}
use Rattle.forms.specs.Section.{lines_on}
use Rattle.reader.specs.declared.Reading.{Reading}

-- ---- the page

-- `#`, spaces, a word, a new line
unfoldable pub heading_on : List ℕ → Stand → List ℕ → Stand
heading_on s stand w = newline_on s (word_on s (ws_on s (byte_on s stand 35)) w)

-- one optional new line
unfoldable pub opt_newline_on : List ℕ → Stand → Stand
opt_newline_on s stand = or_stand (newline_on s stand) (newline_on s stand) stand

pub record Problem : Type 0 where
  pub instructions : List Record
  pub guesses : List Record
  pub then : Stand

-- `parse_problem`: refused by 3 to 7 where its parts are due, and by 8 and 9 where a number is tried
unfoldable pub problem_of : List ℕ → Problem
problem_of s =
    let constraints = due (At 0) (heading_on s (At 0) (bytes "constraints")) 3 in
    let is = lines_on false s constraints 4 in
    let gap = due is.then (newline_on s (newline_on s is.then)) 5 in
    let guesses = due gap (heading_on s (ws_on s gap) (bytes "guesses")) 6 in
    let gs = lines_on true s guesses 7 in
    record { instructions = is.records; guesses = gs.records; then = ws_on s (opt_newline_on s gs.then) }

-- ---- what is told, in docs/FORMAT.md's order

-- a page was read: how many instructions and guesses it has, and where reading stopped
abbrev pub good_reading : ℕ → ℕ → ℕ → Result Reading Refusal
good_reading instructions guesses end = Ok (record { instructions = instructions; guesses = guesses; end = end })

-- a refusal by its number at a place
abbrev pub refused_by : ℕ → ℕ → Result Reading Refusal
refused_by number place = Err (refusal number place)

-- the place of the first byte of 128 or more, or the text's end
abbrev pub high_at : List ℕ → ℕ
high_at s = run_to (λ b. ltb b 128) s 0

-- a page of so many instructions and guesses, read to a place of a text, for a buffer of so many bytes: 10 where the whole text is
-- due and text is left, then 11, then 12
abbrev pub told_of : Bool → ℕ → ℕ → ℕ → ℕ → ℕ → Result Reading Refusal
told_of whole size instructions guesses bytes end =
    cond (whole && ltb end size) (refused_by 10 end)
    (cond (ltb most_records (instructions + guesses)) (refused_by 11 0)
    (cond (ltb bytes (record_bytes * (instructions + guesses))) (refused_by 12 0)
    (good_reading instructions guesses end)))

-- where reading stands in the end; it never ends with nothing read (`never_nothing` in proofs/Never)
abbrev pub ended_of : Bool → ℕ → ℕ → ℕ → ℕ → Stand → Result Reading Refusal
ended_of whole size instructions guesses bytes (At end) = told_of whole size instructions guesses bytes end
ended_of whole size instructions guesses bytes Nothing = refused_by 3 0
ended_of whole size instructions guesses bytes (Refused why) = Err why

-- a page of a text
abbrev pub page_of : Bool → List ℕ → Problem → ℕ → Result Reading Refusal
page_of whole s p bytes = ended_of whole (length s) (length p.instructions) (length p.guesses) bytes p.then

-- 1, 2, then 3 to 9, then 10 to 12, for a buffer of so many bytes
unfoldable pub reading_of : Bool → List ℕ → ℕ → Result Reading Refusal
reading_of whole s bytes =
    cond (ltb longest_text (length s)) (refused_by 1 0)
    (cond (ltb (high_at s) (length s)) (refused_by 2 (high_at s))
    (page_of whole s (problem_of s) bytes))

-- ---- what is written

-- the records of a page in text order
abbrev pub records_in : List ℕ → List Record
records_in s = (problem_of s).instructions ++ (problem_of s).guesses

-- the lines of a page: its records in order, with labels as their text
abbrev pub lines_of : List ℕ → List Entry
lines_of s = map (entry_of s) (records_in s)

-- a good reading writes its records and leaves what lies past them; a refusal leaves the buffer as it was
abbrev pub written_by : Result Reading Refusal → List Record → List ℕ → List ℕ
written_by (Ok reading) rs d = encode_all rs ++ drop (record_bytes * length rs) d
written_by (Err why) rs d = d

unfoldable pub buffer_after : Bool → List ℕ → List ℕ → List ℕ
buffer_after whole s d = written_by (reading_of whole s (length d)) (records_in s) d

-- the promise of a reading: the answer, and the buffer's later contents
pub record Reads (whole : Bool) (s d : List ℕ) (answer : Result Reading Refusal) (d' : List ℕ) : Type 0 where
  pub told : answer ≡ reading_of whole s (length d)
  pub buffer : d' ≡ buffer_after whole s d
