-- What is told and written when reading has ended. Assumes nothing.
use Rattle.std.specs.Prelude.{Result, Err, Ok}
use mathlib.Core.Path.{◌≡◌, sym, ap, ◌∙◌}
use mathlib.Core.Bool.{Bool, cond, ◌&&◌}
use mathlib.Core.List.{List}
use Prim.Native.Nat.{ℕ, ◌+◌, ◌*◌, ◌≤◌}
use native.Mathlib.Omega.{arith}
use borrow.Author.Tests.{le-leb, ltb-false}
use lib.Dec.{ltb}
use lib.ListN.{length, take, length-append}
use Rattle.refusal.proofs.Good.{held_same}
use Rattle.refusal.specs.declared.Refusal.{Refusal}
use Rattle.text.specs.declared.Stand.{Stand}
use Rattle.text.specs.declared.Stand.TheVariants.{At, Nothing, Refused}
use Rattle.text.proofs.Laws.{cond_of}
use Rattle.store.specs.Store.{room, written}
use Rattle.store.proofs.Laws.{written_first}
use Rattle.record.specs.Record.{record_bytes, most_records, record_room, encode_all}
use Rattle.record.proofs.Back.{count_all}
use Rattle.reader.specs.declared.Reading.{Reading}
use Rattle.forms.specs.Section.{stored}
use Rattle.forms.proofs.Storing.{stored_all}
use Rattle.reader.specs.Page.{ended_of, page_of, problem_of, reading_of, records_in, written_by, buffer_after, Reads, good_reading}
use Rattle.reader.specs.Steps.{Paged, told_records, Ended}

-- ---- a good answer says that reading ended at a place, and that there is room

pub record Says (i g bytes : ℕ) (t : Stand) (a b e : ℕ) : Type 0 where
  pub instructions_are : a ≡ i
  pub guesses_are : b ≡ g
  pub ended : t ≡ At e
  pub few : i + g ≤ most_records
  pub room_for : record_bytes * (i + g) ≤ bytes

-- a refusal is not good
pub not_good : {A : Type 0} {why : Refusal} {a b e : ℕ} → Err why ≡ good_reading a b e → A
not_good h = let c : ◌≡◌ {A = ℕ} 0 1 = cc in absurd (omega arith)

pub good_says : (whole : Bool) (size i g bytes a b e : ℕ) (t : Stand) → ended_of whole size i g bytes t ≡ good_reading a b e → Says i g bytes t a b e
good_says whole size i g bytes a b e (At end) h =
    let Q : Result Reading Refusal → Type 0 = λ r. r ≡ good_reading a b e → Says i g bytes (At end) a b e in
    cond_of Q (whole && ltb end size) _ _ (λ x. not_good)
    (λ x. cond_of Q (ltb most_records (i + g)) _ _ (λ y. not_good)
    (λ y. cond_of Q (ltb bytes (record_bytes * (i + g))) _ (good_reading i g end) (λ z. not_good)
    (λ z k.
    let same : ◌≡◌ {A = Reading} (record { instructions = i; guesses = g; end = end }) (record { instructions = a; guesses = b; end = e }) = held_same k in
    record { instructions_are = sym (ap (λ (r : Reading). r.instructions) same); guesses_are = sym (ap (λ (r : Reading). r.guesses) same); ended = ap (λ (r : Reading). At r.end) same; few = ltb-false most_records (i + g) y; room_for = ltb-false bytes (record_bytes * (i + g)) z })))
    h
good_says whole size i g bytes a b e Nothing h = not_good h
good_says whole size i g bytes a b e (Refused why) h = not_good h

-- ---- reading has ended

module _ (whole : Bool) (s d zeros own : List ℕ) (i g : ℕ) (then : Stand) (p : Paged s zeros i g then own) (size : record_room ≡ length zeros) where
  -- what is copied of the code's own buffer, by the answer
  abbrev copied : Result Reading Refusal → List ℕ
  copied r = take (record_bytes * told_records r) own

  told_is : (r : Result Reading Refusal) → r ≡ ended_of whole (length s) i g (length d) then → r ≡ page_of whole s (problem_of s) (length d)
  told_is r h = rw (← p.then_is, ← p.instructions_are, ← p.guesses_are) h

  -- no more records are told than there is room for
  pub few : (r : Result Reading Refusal) → r ≡ ended_of whole (length s) i g (length d) then → told_records r ≤ most_records
  few (Ok a) h = let w = good_says whole (length s) i g (length d) a.instructions a.guesses a.end then (sym h) in omega arith
  few (Err why) h = omega arith

  -- what is told is told of the page, and what is copied is what a good reading writes
  pub ended : (r : Result Reading Refusal) (d' : List ℕ) → r ≡ ended_of whole (length s) i g (length d) then
      → d' ≡ cond (room d 0 (copied r)) (written d 0 (copied r)) d → Ended whole s d r d'
  unfolding written
  ended (Ok a) d' h c =
      let w = good_says whole (length s) i g (length d) a.instructions a.guesses a.end then (sym h) in
      let rs = records_in s in
      let size_is = count_all rs in
      let count : length rs ≡ a.instructions + a.guesses = omega (arith, length-append (problem_of s).instructions (problem_of s).guesses) in
      let long : record_bytes * (a.instructions + a.guesses) ≡ length (encode_all rs) = omega arith in
      let all : stored zeros 0 rs ≡ written zeros 0 (encode_all rs) = stored_all zeros 0 rs (omega arith) in
      let bytes_are : take (record_bytes * (a.instructions + a.guesses)) own ≡ encode_all rs = rw (p.buffer, all, long) (written_first zeros (encode_all rs)) in
      let plain : 0 + length (encode_all rs) ≡ record_bytes * length rs = omega arith in
      record { told = told_is _ h; buffer = c ∙ rw (bytes_are, le-leb (0 + length (encode_all rs)) (length d) (omega arith), plain) }
  ended (Err why) d' h c = record { told = told_is _ h; buffer = c ∙ rw (le-leb 0 (length d) (omega arith)) }

-- ---- what a reading tells and writes

pub reads_by : {whole : Bool} {s d d' : List ℕ} {r : Result Reading Refusal} → r ≡ reading_of whole s (length d) → d' ≡ written_by r (records_in s) d → Reads whole s d r d'
unfolding buffer_after
reads_by e f = record { told = e; buffer = rw (← e) f }
