-- The records that a good reading writes are well formed, so that 30 is told of none of them; their entries are the records that were
-- read, with their labels as text. Assumes nothing.
use Rattle.std.specs.Prelude.{Result}
use mathlib.Core.Path.{◌≡◌, sym, ap, ◌∙◌}
use mathlib.Core.Bool.{Bool}
use mathlib.Core.List.{List, map}
use Prim.Native.Nat.{ℕ, ◌+◌, ◌*◌, ◌≤◌, ◌<◌}
use native.Mathlib.Omega.{arith}
use lib.Dec.{ltb}
use lib.ListN.{length, get_or, take, drop, length-append, length-map, get_or-map}
use lib.Seq.{take_at, ext_get_or}
use borrow.Author.Tests.{ltb-false, leb-true, leb-false, le-leb, lt-leb, lt-ltb}
use Rattle.refusal.specs.declared.Refusal.{Refusal}
use Rattle.refusal.specs.First.{Nowhere}
use Rattle.text.specs.declared.Stand.TheVariants.{At}
use Rattle.record.specs.Record.{record_bytes, most_records, longest_text, first_guess, encode_all}
use Rattle.record.specs.Decode.{decode, count_of, record_of, decode_at, no_record}
use Rattle.record.specs.Entry.{no_entry, entry_of}
use Rattle.record.specs.Formed.{WellFormed, entries, Malformed, places}
use Rattle.record.proofs.Back.{record_of_all, count_all}
use Rattle.record.proofs.Entries.{whole_length}
use Rattle.record.proofs.Told.{passed_iff}
use Rattle.record.proofs.WellFormed.{well_formed_iff}
use Rattle.record.proofs.Written.{good_written, entry_decoded}
use Rattle.text.proofs.Laws.{Reached, here, cond_of}
use Rattle.reader.specs.declared.Reading.{Reading}
use Rattle.reader.specs.Page.{problem_of, high_at, reading_of, records_in, lines_of, buffer_after, Reads, good_reading}
use Rattle.reader.proofs.Ends.{not_good, good_says}
use Rattle.reader.proofs.Written.{written_fits, read_back}
use Rattle.reader.proofs.SoundPage.{some_of_each, record_at}

-- ---- the bytes of the records of a page

module _ (s : List ℕ) (short : length s ≤ longest_text) where
  count_is : count_of (encode_all (records_in s)) ≡ length (records_in s)
  count_is = omega (arith, count_all (records_in s))

  -- a record's bytes give the record
  back : (i : ℕ) → i < length (records_in s) → decode (record_of (encode_all (records_in s)) i) ≡ get_or (records_in s) i no_record
  unfolding decode_at
  back i h = rw (lt-ltb i (count_of (encode_all (records_in s))) (omega (arith, count_is))) at (read_back s short i h)

  module _ (few : length (records_in s) ≤ most_records) (ended : Reached (problem_of s).then) where
    pub page_well_formed : WellFormed s (encode_all (records_in s))
    page_well_formed =
        let rs = records_in s in
        let is = length (problem_of s).instructions in
        let w = some_of_each s ended in
        let n = length-append (problem_of s).instructions (problem_of s).guesses in
        let m = count_is in
        record {
          short = short;
          few = omega arith;
          whole = omega (arith, count_all rs);
          each = λ i h.
              let b : i < length rs = omega arith in
              let p = record_at s i b in
              rw (record_of_all rs i b) (good_written s (get_or rs i no_record) (written_fits s short no_record i b) short p.few p.placed p.sound);
          parted = record {
            guesses = is;
            some_instruction = w.0;
            some_guess = omega arith;
            before = λ i h k.
                let b : i < length rs = omega arith in
                omega (arith, rw (back i b) at k, leb-false first_guess (get_or rs i no_record).kind ((record_at s i b).sort ∙ lt-leb is i h));
            behind = λ i h k.
                let b : i < length rs = omega arith in
                rw (back i b) (leb-true first_guess (get_or rs i no_record).kind ((record_at s i b).sort ∙ le-leb is i h));
          };
        }

-- ---- what a good answer says of the page

pub record GoodPage (s : List ℕ) (i g end : ℕ) : Type 0 where
  pub short : length s ≤ longest_text
  pub ended : (problem_of s).then ≡ At end
  pub instructions_are : i ≡ length (problem_of s).instructions
  pub guesses_are : g ≡ length (problem_of s).guesses
  pub few : length (records_in s) ≤ most_records

-- ---- what a good reading writes

-- the bytes of so many instructions and guesses in a buffer
abbrev pub written_in : ℕ → ℕ → List ℕ → List ℕ
written_in i g d = take (record_bytes * (i + g)) d

module _ (whole : Bool) (s d : List ℕ) (i g end : ℕ) (d' : List ℕ) (r : Reads whole s d (good_reading i g end) d') where
  pub page_read : GoodPage s i g end
  unfolding reading_of
  page_read =
      let Q : Result Reading Refusal → Type 0 = λ a. a ≡ good_reading i g end → GoodPage s i g end in
      cond_of Q (ltb longest_text (length s)) _ _ (λ e. not_good)
      (λ e. cond_of Q (ltb (high_at s) (length s)) _ _ (λ f. not_good)
      (λ f k.
      let n = length-append (problem_of s).instructions (problem_of s).guesses in
      let w = good_says whole (length s) (length (problem_of s).instructions) (length (problem_of s).guesses) (length d) i g end (problem_of s).then k in
      record {
        short = ltb-false longest_text (length s) e;
        ended = w.ended;
        instructions_are = w.instructions_are;
        guesses_are = w.guesses_are;
        few = omega arith;
      }))
      (sym r.told)

  -- they are the bytes of the records of the page
  pub bytes_read : written_in i g d' ≡ encode_all (records_in s)
  unfolding buffer_after
  bytes_read =
      let p = page_read in
      let bs = encode_all (records_in s) in
      let n : length bs ≡ record_bytes * (i + g) = omega (arith, count_all (records_in s), length-append (problem_of s).instructions (problem_of s).guesses) in
      rw (r.buffer, ← r.told) (take_at bs (drop (record_bytes * length (records_in s)) d) (record_bytes * (i + g)) n)

  -- they are well formed
  pub well_formed_read : WellFormed s (written_in i g d')
  well_formed_read = let p = page_read in rw bytes_read (page_well_formed s p.short p.few (rw p.ended (here end)))

  -- so they pass, and 30 is told of none of them
  pub never_30 : Nowhere (Malformed (entries s (written_in i g d'))) (places (entries s (written_in i g d')))
  never_30 = (passed_iff (entries s (written_in i g d'))).0 ((well_formed_iff s (written_in i g d')).1 well_formed_read)

  -- their entries are the records of the page, in text order, with the labels as their text
  pub entries_read : entries s (written_in i g d') ≡ lines_of s
  unfolding entry_of
  entries_read =
      let p = page_read in
      let w = page_well_formed s p.short p.few (rw p.ended (here end)) in
      let rs = records_in s in
      let m = count_is s p.short in
      let n : length (entries s (encode_all rs)) ≡ length rs = whole_length s (encode_all rs) w.short w.few w.whole ∙ m in
      rw bytes_read
      (ext_get_or no_entry (entries s (encode_all rs)) (map (entry_of s) rs) (n ∙ sym (length-map rs (entry_of s)))
      (λ k h.
      let b : k < length rs = omega arith in
      entry_decoded s (encode_all rs) w k (omega arith) ∙ ap (entry_of s) (read_back s p.short k b) ∙ sym (get_or-map (entry_of s) rs k no_record)))
