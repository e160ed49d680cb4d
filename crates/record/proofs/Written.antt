-- The bytes of a record whose fields are sound are those of a good record, and an entry of a well formed list is its record with its
-- labels as text: decode after encode is the identity. Assumes nothing.
use mathlib.Core.Path.{◌≡◌, refl, sym, ap, ◌∙◌}
use mathlib.Core.List.{List, [], append-nil}
use Prim.Native.Nat.{ℕ, ◌+◌, ◌≤◌, ◌<◌}
use lib.ListN.{length}
use borrow.Author.Tests.{le-leb, lt-ltb}
use Rattle.refusal.specs.First.{EachBelow}
use Rattle.refusal.proofs.Says.{says_eq, says_all}
use Rattle.text.proofs.Laws.{cond_of}
use Rattle.little.specs.Little.{byte}
use Rattle.kinds.specs.Kinds.{label_places}
use Rattle.record.specs.declared.Record.{Record}
use Rattle.record.specs.Record.{mark, first_guess, instruction, guess, encode, longest_text}
use Rattle.record.specs.Decode.{is_guess, decode, count_of, record_of, decode_at, Fits}
use Rattle.record.specs.Entry.{entry_at, entry_of}
use Rattle.record.specs.Sound.{guess_end, guess_zeros, Placed, Sound, Good}
use Rattle.record.specs.Formed.{WellFormed, entries}
use Rattle.record.proofs.Back.{length_encode, decode_encode}
use Rattle.record.proofs.Entries.{entry_good, entry_at_lem}

-- ---- a record that is written

module _ (text : List ℕ) (r : Record) (fits : Fits r) where
  back : decode (encode r) ≡ r
  back = ap decode (sym (append-nil (encode r))) ∙ decode_encode r [] fits

  marked : byte (encode r) 0 ≡ mark
  unfolding encode
  marked = cond_of (λ (b : List ℕ). byte b 0 ≡ mark) (is_guess r.kind) (guess r) (instruction r) (λ e. refl) (λ e. refl)

  ended : first_guess ≤ r.kind → EachBelow guess_zeros (λ k. byte (encode r) (guess_end + k) ≡ 0)
  unfolding encode
  ended h =
      rw (le-leb first_guess r.kind h) ((says_all _ _ (λ k. says_eq (byte (guess r) (guess_end + k)) 0) guess_zeros).so refl)

  pub good_written : length text ≤ longest_text → r.count ≤ label_places → EachBelow label_places (Placed text r) → Sound (entry_of text r) → Good text (encode r)
  good_written short few placed sound =
      record {
        short = short;
        framed = record { whole = length_encode r; marked = marked; few = rw back few; placed = rw back placed; ended = rw back ended };
        sound = rw back sound;
      }

-- ---- the entries of a well formed list

module _ (text bs : List ℕ) (w : WellFormed text bs) where
  pub entry_decoded : (i : ℕ) → i < count_of bs → entry_at (entries text bs) i ≡ entry_of text (decode_at bs i)
  unfolding decode_at
  entry_decoded i h = entry_at_lem text bs w.short w.few i h ∙ entry_good text (record_of bs i) (w.each i h) ∙ rw (lt-ltb i (count_of bs) h) refl
