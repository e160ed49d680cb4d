-- The lines of the records that a good reading wrote are the lines of the page, as each record comes back from its bytes; and what is
-- answered goes by what the reading told. Assumes nothing.
use Rattle.std.specs.Prelude.{Result, Err}
use mathlib.Core.Path.{◌≡◌, refl, ap, ◌∙◌}
use mathlib.Core.Bool.{Bool}
use mathlib.Core.List.{List, map, map-map}
use Prim.Native.Nat.{ℕ, ◌+◌, ◌*◌, ◌≤◌, ◌<◌}
use native.Mathlib.Nat.{mul_comm}
use native.Mathlib.Omega.{arith}
use lib.ListN.{length, get_or, take, replicate, length-append, length-replicate}
use Rattle.ground.specs.Lists.{up_to}
use Rattle.refusal.specs.declared.Refusal.{Refusal}
use Rattle.record.specs.Record.{record_bytes, most_records, record_room}
use Rattle.record.specs.Decode.{count_of, decode_at, no_record}
use Rattle.record.specs.Entry.{entry_of}
use Rattle.record.proofs.Back.{count_all}
use Rattle.ground.proofs.UpTo.{up_to_same, up_to_map}
use Rattle.reader.specs.declared.Reading.{Reading}
use Rattle.reader.specs.Page.{problem_of, reading_of, records_in, lines_of, Reads, good_reading}
use Rattle.reader.proofs.Written.{read_back}
use Rattle.reader.proofs.WellRead.{page_read, bytes_read, entries_read}
use Rattle.lines.specs.Lines.{first_line, line_of}
use Rattle.answers.specs.declared.Way.{Way}
use Rattle.answers.specs.declared.Way.TheVariants.{Plain, Whole, Check, Rows}
use Rattle.answers.specs.Answers.{answer_to, listed, listing_of, checking_of, lowering_of, answer_of}
use Rattle.answers.specs.Steps.{Read, whole_by, told_by, listed_by}

-- ---- what a good reading wrote

module _ {whole : Bool} {s d d' : List ℕ} {reading : Result Reading Refusal} (r : Reads whole s d reading d') {i g end : ℕ} (e : reading ≡ good_reading i g end) where
  good : Reads whole s d (good_reading i g end) d'
  good = rw e at r

  pub few_read : i + g ≤ most_records
  few_read = omega (arith, page_read whole s d i g end d' good, length-append (problem_of s).instructions (problem_of s).guesses)

  pub read_is : Read s (take ((i + g) * record_bytes) d')
  read_is =
      let p = page_read whole s d i g end d' good in
      rw mul_comm
      (record { short = p.short; few = p.few; bytes_are = bytes_read whole s d i g end d' good; entries_are = entries_read whole s d i g end d' good })

-- ---- the listing

module _ {s bs : List ℕ} (read : Read s bs) where
  line_read : (i : ℕ) → i < length (records_in s) → line_of (entry_of s (decode_at bs i)) ≡ line_of (entry_of s (get_or (records_in s) i no_record))
  line_read i h = ap (λ z. line_of (entry_of s z)) (rw read.bytes_are (read_back s read.short i h))

  lines_are : up_to (count_of bs) (λ i. line_of (entry_of s (decode_at bs i))) ≡ map line_of (lines_of s)
  lines_are =
      let n : count_of bs ≡ length (records_in s) = rw read.bytes_are (omega (arith, count_all (records_in s))) in
      rw (n, map-map) (up_to_same _ _ _ line_read ∙ up_to_map (records_in s) no_record _)

  pub listed_is : (reading : Result Reading Refusal) → listed_by reading s bs ≡ listed reading s
  unfolding listed_by
  listed_is reading = rw lines_are

-- ---- what is answered

-- by what the reading told
answer_by : (way : Way) (s : List ℕ) → answer_of way s ≡ answer_to (reading_of (whole_by way) s record_room) (told_by way (reading_of (whole_by way) s record_room) s)
unfolding answer_of listing_of checking_of lowering_of
answer_by Plain s = refl
answer_by Whole s = refl
answer_by Check s = refl
answer_by Rows s = refl

module _ (way : Way) {s d' : List ℕ} {reading : Result Reading Refusal} (r : Reads (whole_by way) s (replicate record_room 0) reading d') where
  told : answer_of way s ≡ answer_to reading (told_by way reading s)
  told = rw (r.told, length-replicate) (answer_by way s)

  -- a refusal, whatever is asked
  pub refused_answer : {refusal : Refusal} → reading ≡ Err refusal → answer_of way s ≡ first_line reading
  unfolding first_line
  refused_answer e = told ∙ rw e

  -- and what is asked of a page that reads
  pub good_answer : {i g end : ℕ} → reading ≡ good_reading i g end → answer_of way s ≡ told_by way (good_reading i g end) s
  good_answer e = told ∙ rw e
