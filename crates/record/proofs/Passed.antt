-- A list by the kinds of its records: it is at fault nowhere exactly if it is within its limits, of whole records, each as it should, and
-- instructions stand before guesses; and what a loop over the records has found. Assumes nothing.
use Rattle.std.specs.Prelude.{Ok, Err}
use mathlib.Core.Path.{◌≡◌, refl, sym, ap, ◌∙◌}
use mathlib.Core.Logic.{◌⊎◌, inl, inr, ◌↔◌, ⊎_elim}
use mathlib.Core.Bool.{Bool, true, false, not, ◌&&◌, ◌||◌}
use mathlib.Core.List.{List}
use Prim.Native.Nat.{ℕ, suc, ◌+◌, ◌%◌, ◌≤◌, ◌<◌}
use native.Mathlib.Nat.{not-suc-le-zero}
use native.Mathlib.Omega.{arith}
use native.Mathlib.Numerals.{add-one}
use lib.Dec.{eqb}
use lib.ListN.{length}
use borrow.Author.Count.{below_more}
use borrow.Author.Tests.{lt-ltb, le-ltb}
use Rattle.refusal.specs.First.{SomeBelow, EachBelow}
use Rattle.refusal.proofs.Says.{Says, stable, below_suc, says_not, says_and, says_or, says_cond, says_eq, says_le, says_lt, says_any}
use Rattle.refusal.proofs.Search.{stops_here, goes_through}
use Rattle.record.specs.Record.{record_bytes, most_records, longest_text, first_guess}
use Rattle.record.specs.Decode.{is_guess, decode, count_of, record_of}
use Rattle.record.specs.Formed.{ListOf, malformed_at, misplaced, verdict}
use Rattle.record.specs.Laid.{kind_told, guess_by, in_limits, fine_by, formed_by}
use Rattle.record.proofs.Told.{none_told_iff}
use Rattle.record.proofs.Records.{RecordBy, says_record, kind_of_lem, says_bad}
use Rattle.record.proofs.Parted.{GuessAt, OutOfPlace, parted, in_place, guess_in_lem}

module _ (full : Bool) (text bs : List ℕ) where
  -- ---- at fault nowhere

  abbrev kind_in : ℕ → ℕ
  kind_in i = kind_told full text (record_of bs i)

  -- what a place that is not at fault says
  abbrev Fine : ℕ → Type 0
  Fine i =
      ((length text ≤ longest_text) × (count_of bs ≤ most_records))
      × ((i < count_of bs → (RecordBy full text (record_of bs i) → ⊥) ⊎ OutOfPlace kind_in i → ⊥)
      × ((i < count_of bs → ⊥) → (length bs % record_bytes ≡ 0) × SomeBelow i (GuessAt kind_in)))

  pub says_fine : (i : ℕ) → Says (fine_by full text bs i) (Fine i)
  unfolding fine_by
  says_fine i =
      says_and (says_and (says_le (length text) longest_text) (says_le (count_of bs) most_records))
      (says_cond (says_lt i (count_of bs))
      (says_not (says_or (says_bad text (record_of bs i) full) (says_or (says_and (says_eq i 0) (guess i)) (says_and (says_not (guess i)) (says_any _ _ guess i)))))
      (says_and (says_eq (length bs % record_bytes) 0) (says_any _ _ guess i)))
    where
      guess : (j : ℕ) → Says (is_guess (kind_in j)) (GuessAt kind_in j)
      guess j = says_le first_guess (kind_in j)

  -- the kinds are what the records say
  kinds : EachBelow (count_of bs) (λ i. RecordBy full text (record_of bs i)) → EachBelow (count_of bs) (λ i. kind_in i ≡ (decode (record_of bs i)).kind)
  kinds each i h = kind_of_lem text (record_of bs i) full (each i h)

  listed : EachBelow (suc (count_of bs)) Fine → ListOf (RecordBy full text) text bs
  listed f =
      let each : EachBelow (count_of bs) (λ i. RecordBy full text (record_of bs i))
      = λ i h. stable (says_record text (record_of bs i) full) (λ b. (f i (omega (arith, h))).1.0 h (inl b)) in
      let limits = (f 0 (omega arith)).0 in
      let end = (f (count_of bs) (omega arith)).1.1 (λ h. omega (arith, h)) in
      let is-parted = parted bs kind_in (kinds each) (λ i h m. (f i (omega (arith, h))).1.0 h (inr m)) end.1 in
      record { short = limits.0; few = limits.1; whole = end.0; each = each; parted = is-parted }

  fine : ListOf (RecordBy full text) text bs → EachBelow (suc (count_of bs)) Fine
  fine l i h =
      let is = kinds l.each in
      let end : (i < count_of bs → ⊥) → i ≡ count_of bs = λ f. omega (arith, f) in
      ((l.short, l.few), (λ b. ⊎_elim (λ f. f (l.each i b)) (in_place bs kind_in is l.parted i b), λ f. (l.whole, rw (end f) (guess_in_lem bs kind_in is l.parted))))

  pub listed_iff : (formed_by full text bs ≡ Ok tt) ↔ ListOf (RecordBy full text) text bs
  unfolding formed_by
  listed_iff =
      let w = none_told_iff _ _ (λ i. says_not (says_fine i)) (suc (count_of bs)) in
      (λ e. listed (λ i h. stable (says_fine i) (w.0 e i h)), λ l. w.1 (λ i h f. f (fine l i h)))

  -- ---- a loop over the records

  -- what holds before place i: no place is at fault, and it is known whether there was a guess
  pub record Passed (i : ℕ) (guessed : Bool) : Type 0 where
    pub each : EachBelow i (λ j. fine_by full text bs j ≡ true)
    pub seen : guessed ≡ guess_by full text bs i

  pub start : Passed 0 false
  start = record { each = λ j h. absurd (not-suc-le-zero h); seen = refl }

  told : (i : ℕ) → i ≤ count_of bs → fine_by full text bs i ≡ false → EachBelow i (λ j. fine_by full text bs j ≡ true)
      → Err (malformed_at i) ≡ formed_by full text bs
  unfolding formed_by
  told i h e f = sym (ap verdict (stops_here _ (suc (count_of bs)) i (omega (arith, h)) (ap not e) (λ j k. ap not (f j k))))

  pub over : in_limits text bs ≡ false → Err (malformed_at 0) ≡ formed_by full text bs
  unfolding fine_by
  over e = told 0 (omega arith) (rw e refl) (λ j h. absurd (not-suc-le-zero h))

  module _ (limits : in_limits text bs ≡ true) (i : ℕ) (guessed : Bool) (p : Passed i guessed) where
    -- a record, by its kind
    module _ (h : i < count_of bs) (kind : ℕ) (k : kind ≡ kind_in i) where
      pub here_is : fine_by full text bs i ≡ not (misplaced kind i guessed)
      unfolding fine_by
      here_is = rw (limits, lt-ltb i (count_of bs) h, k, p.seen) refl

      pub fault : misplaced kind i guessed ≡ true → Err (malformed_at i) ≡ formed_by full text bs
      fault e = told i (omega (arith, h)) (here_is ∙ ap not e) p.each

      pub next : misplaced kind i guessed ≡ false → Passed (i + 1) (guessed || is_guess kind)
      next e = record { each = below_more _ _ p.each (here_is ∙ ap not e); seen = rw (add-one, k, p.seen) refl }

    -- the place behind the last
    module _ (n : i ≡ count_of bs) where
      pub end_is : fine_by full text bs i ≡ eqb (length bs % record_bytes) 0 && guessed
      unfolding fine_by
      end_is = rw (limits, le-ltb i (count_of bs) (omega arith), p.seen) refl

      pub end_good : eqb (length bs % record_bytes) 0 && guessed ≡ true → Ok tt ≡ formed_by full text bs
      unfolding formed_by
      end_good e =
          let each : EachBelow (suc (count_of bs)) (λ j. fine_by full text bs j ≡ true)
          = λ j h. ⊎_elim (λ q. ap (fine_by full text bs) (q ∙ sym n) ∙ end_is ∙ e) (λ l. p.each j (omega (arith, l, n))) (below_suc h) in
          sym (ap verdict (goes_through _ (suc (count_of bs)) (λ j h. ap not (each j h))))

      pub end_fault : eqb (length bs % record_bytes) 0 && guessed ≡ false → Err (malformed_at (count_of bs)) ≡ formed_by full text bs
      end_fault e = ap (λ (k : ℕ). Err (malformed_at k)) (sym n) ∙ told i (omega (arith, n)) (end_is ∙ e) p.each
