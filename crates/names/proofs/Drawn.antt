-- The entries of records, place by place, by what the code reads; and where 30 is told nowhere they are the entries of the list. Assumes nothing.
use mathlib.Core.Path.{◌≡◌, refl, sym, ap, ◌∙◌}
use mathlib.Core.Bool.{true}
use mathlib.Core.List.{List, []}
use Prim.Native.Nat.{ℕ, zero, suc, ◌+◌, ◌*◌, ◌≤◌, ◌<◌}
use native.Mathlib.Omega.{arith}
use native.Mathlib.Nat.{add_assoc}
use native.Mathlib.Decide.{dec_lt}
use lib.ListN.{length, get_or, drop, get_or-eq_default}
use lib.Seq.{get_or-take, get_or-drop, ext_get_or}
use borrow.Author.Tests.{lt-ltb, le-ltb, lt-leb, ne_eqb}
use Rattle.little.specs.Little.{byte, u16}
use Rattle.record.specs.Record.{record_bytes, first_guess}
use Rattle.record.specs.Decode.{decode, count_of, record_of, decode_at, view_at, place_in, has_place}
use Rattle.record.specs.Entry.{Entry, no_entry, entry_at, label_no, part, named, entry_of, no_view, view_of}
use Rattle.kinds.specs.Kinds.{kind_at, label_places, Known}
use Rattle.record.specs.Laid.{LaidRecord, LaidOut, laid_out}
use Rattle.record.specs.Formed.{WellFormed, entries}
use Rattle.ground.proofs.UpTo.{length_up_to, get_or_up_to}
use Rattle.kinds.proofs.Table.{some_label, few_labels, guess_labels}
use Rattle.record.proofs.Laid.{says_laid_out}
use Rattle.record.proofs.Entries.{entry_good, entry_at_lem, whole_length}
use Rattle.names.specs.Labels.{drawn, kind_no}

-- ---- records that are laid out

pub laid_by : (text bs : List ℕ) → laid_out text bs ≡ true → LaidOut text bs
laid_by text bs = (says_laid_out text bs).so

-- ---- the bytes of a record

module _ (bs : List ℕ) (i : ℕ) where
  pub byte_is : (k : ℕ) → k < record_bytes → byte (record_of bs i) k ≡ get_or bs (i * record_bytes + k) 0
  byte_is k h = rw (get_or-take record_bytes (drop (i * record_bytes) bs) k 0 h, get_or-drop (i * record_bytes) bs k 0) refl

  u16_is : (k m : ℕ) → k + 1 < record_bytes → m ≡ i * record_bytes + k → u16 (record_of bs i) k ≡ u16 bs m
  u16_is k m h e = rw (byte_is k (omega arith), byte_is (k + 1) h, e, ← add_assoc (i * record_bytes) k 1)

  view_is : (k m : ℕ) → k + 3 < record_bytes → m ≡ i * record_bytes + k → view_at (record_of bs i) k ≡ view_at bs m
  view_is k m h e j = record { start = u16_is k m (omega arith) e j; len = u16_is (k + 2) (m + 2) (omega arith) (omega arith) j }

  -- a record that is there, and one that is not
  pub decode_here : i < count_of bs → decode_at bs i ≡ decode (record_of bs i)
  unfolding decode_at
  decode_here h = rw (lt-ltb i (count_of bs) h) refl

  pub kind_past : count_of bs ≤ i → 0 ≡ (decode_at bs i).kind
  unfolding decode_at
  kind_past h = rw (le-ltb i (count_of bs) h) refl

  pub kind_here : i < count_of bs → get_or bs (i * record_bytes + 1) 0 ≡ (decode_at bs i).kind
  unfolding decode
  kind_here h = rw (decode_here h) (sym (byte_is 1 (omega arith)))

-- ---- a label of a record that is laid right

module _ (text bs : List ℕ) (i : ℕ) (h : i < count_of bs) (laid : LaidRecord text (record_of bs i)) where
  pub known_at : Known (decode_at bs i).kind
  known_at = rw (decode_here bs i h) laid.known

  pub labels_some : 0 < (kind_at (decode_at bs i).kind).labels
  labels_some = some_label (decode_at bs i).kind known_at

module _ (text bs : List ℕ) (i : ℕ) (h : i < count_of bs) (laid : LaidRecord text (record_of bs i)) (q : ℕ) (few : q < (kind_at (decode_at bs i).kind).labels) where
  -- so many labels are there
  pub label_there : q < (decode (record_of bs i)).count
  label_there = rw laid.count (rw (decode_here bs i h) at few)

  -- its view, by the bytes of the list
  view_here : view_of (decode (record_of bs i)) q ≡ view_at bs (i * record_bytes + 4 + q * 4)
  unfolding decode
  view_here =
      let b = record_of bs i in
      let four : q < label_places = omega (arith, few, few_labels (decode_at bs i).kind) in
      get_or_up_to label_places (place_in b) q no_view four ∙ rw (has_place_lem (byte b 1) q laid.count label_there) (view_is bs i (4 + q * 4) (i * record_bytes + 4 + q * 4) (omega arith) (omega arith))
    where
      -- a kind with more than one label is no guess's
      has_place_lem : (kind q : ℕ) → (decode (record_of bs i)).count ≡ (kind_at kind).labels → q < (decode (record_of bs i)).count → has_place kind q ≡ true
      has_place_lem kind zero e g = refl
      has_place_lem kind (suc q) e g =
          elim (dec_lt kind first_guess) [
            | yes l ↦ rw (lt-leb first_guess kind l, ne_eqb (suc q) 0 (λ z. omega (arith, z))) refl
            | no f ↦ absurd (omega (arith, guess_labels kind (omega (arith, f)), e, g))
          ]

  pub view_inside : u16 bs (i * record_bytes + 4 + q * 4) + u16 bs (i * record_bytes + 4 + q * 4 + 2) ≤ length text
  view_inside = rw view_here at ((laid.framed.placed q (omega (arith, label_there, laid.framed.few))).used label_there)

  pub label_read : part text (u16 bs (i * record_bytes + 4 + q * 4)) (u16 bs (i * record_bytes + 4 + q * 4 + 2)) ≡ label_no (entry_of text (decode_at bs i)) q
  unfolding entry_of
  label_read = rw (decode_here bs i h, get_or_up_to (decode (record_of bs i)).count (named text (decode (record_of bs i))) q [] label_there, view_here)

-- ---- an entry

module _ (text bs : List ℕ) where
  pub drawn_length : length (drawn text bs) ≡ count_of bs
  unfolding drawn
  drawn_length = length_up_to (count_of bs) (λ i. entry_of text (decode_at bs i))

  pub drawn_at : (i : ℕ) → entry_at (drawn text bs) i ≡ entry_of text (decode_at bs i)
  unfolding drawn decode_at entry_of
  drawn_at i =
      elim (dec_lt i (count_of bs)) [
        | yes h ↦ get_or_up_to (count_of bs) (λ k. entry_of text (decode_at bs k)) i no_entry h
        | no f ↦ (let past : count_of bs ≤ i = omega (arith, f) in
            get_or-eq_default (drawn text bs) no_entry (rw drawn_length past) ∙ rw (le-ltb i (count_of bs) past) refl)
      ]

  pub drawn_kind : (i : ℕ) → kind_no (drawn text bs) i ≡ (decode_at bs i).kind
  unfolding entry_of
  drawn_kind i = ap (λ (e : Entry). e.kind) (drawn_at i)

  pub drawn_label : (i q : ℕ) → label_no (entry_at (drawn text bs) i) q ≡ label_no (entry_of text (decode_at bs i)) q
  drawn_label i q = ap (λ (e : Entry). label_no e q) (drawn_at i)

-- ---- a well formed list

module _ (text bs : List ℕ) (w : WellFormed text bs) where
  good_at : (i : ℕ) → i < count_of bs → entry_at (entries text bs) i ≡ entry_at (drawn text bs) i
  unfolding decode_at
  good_at i h =
      entry_at_lem text bs w.short w.few i h
      ∙ entry_good text (record_of bs i) (w.each i h)
      ∙ sym (drawn_at text bs i ∙ rw (lt-ltb i (count_of bs) h) refl)

  pub entries_drawn : entries text bs ≡ drawn text bs
  entries_drawn =
      let n = whole_length text bs w.short w.few w.whole in
      ext_get_or no_entry (entries text bs) (drawn text bs) (n ∙ sym (drawn_length text bs)) (λ i h. good_at i (omega (arith, h, n)))
