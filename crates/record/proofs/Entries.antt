-- The entries of a list, place by place: what is told of them is told by the kinds of the records. Assumes nothing.
use mathlib.Core.Path.{◌≡◌, refl, sym, ap, ◌∙◌}
use mathlib.Core.Logic.{inl}
use mathlib.Core.Bool.{Bool, true, false, not, ◌&&◌, cond, or-false, not-not}
use mathlib.Core.Option.{Option, none, some}
use mathlib.Core.List.{List, [], ◌∷◌, ◌++◌}
use Prim.Native.Nat.{ℕ, suc, ◌+◌, ◌%◌, ◌≤◌, ◌<◌}
use native.Mathlib.Omega.{arith}
use native.Mathlib.Decide.{dec_lt}
use lib.Dec.{eqb}
use lib.ListN.{length, get_or, length-append, get_or-append}
use lib.Seq.{get_or-append-add}
use borrow.Author.Tests.{le-leb, lt-ltb, le-ltb, eq-eqb, ne_eqb, eqb-true}
use Rattle.ground.specs.Lists.{up_to}
use Rattle.refusal.specs.First.{EachBelow, Nowhere, lowest}
use Rattle.refusal.proofs.Says.{Says, fails, refuted, stable, says_so, says_not, says_and, says_le}
use Rattle.refusal.proofs.Search.{Searched, at, nowhere, searched, stops_here, goes_through}
use Rattle.refusal.proofs.Alike.{any_alike}
use Rattle.text.proofs.Laws.{cond_of}
use Rattle.record.specs.Record.{record_bytes, most_records, longest_text}
use Rattle.record.specs.Decode.{is_guess, decode, count_of, record_of}
use Rattle.record.specs.Entry.{Entry, no_entry, entry_at, entry_of}
use Rattle.record.specs.Sound.{Good, framed_test, sound_test, good_test}
use Rattle.record.specs.Formed.{entry, entries, any_guess, fault_test, malformed_test, verdict, formed_of, misplaced}
use Rattle.record.specs.Laid.{kind_told, in_limits, fine_by, formed_by}
use Rattle.ground.proofs.UpTo.{length_up_to, get_or_up_to}
use Rattle.record.proofs.Agree.{says_framed, says_good, none_unsound}
use Rattle.record.proofs.Records.{says_record, kind_of_lem, says_bad}
use Rattle.record.proofs.Passed.{Passed, says_fine, over, here_is, end_is}

-- ---- one entry

-- a good record's entry is made of its fields
pub entry_good : (text b : List ℕ) → Good text b → entry text b ≡ entry_of text (decode b)
unfolding entry
entry_good text b g = rw ((says_framed text b).back g.framed) refl

entry_kind : (text b : List ℕ) → Good text b → (entry text b).kind ≡ kind_told true text b
unfolding entry_of
entry_kind text b g = ap (λ (e : Entry). e.kind) (entry_good text b g) ∙ sym (kind_of_lem text b true g)

module _ (text b : List ℕ) (short : length text ≤ longest_text) where
  -- the entry is sound exactly if the record is good
  entry_sound : sound_test (entry text b) ≡ good_test text b
  unfolding entry good_test
  entry_sound = rw (le-leb (length text) longest_text short) (go (framed_test (length text) b))
    where
      go : (f : Bool) → sound_test (cond f (entry_of text (decode b)) no_entry) ≡ f && sound_test (entry_of text (decode b))
      go true = refl
      go false = none_unsound

  -- a record is at fault at a place by its entry, or by its kind
  misplaced_is : (i : ℕ) (behind : Bool) → fault_test (entry text b) (eqb i 0) behind ≡ misplaced (kind_told true text b) i behind
  misplaced_is i behind = go (good_test text b) refl
    where
      go : (g : Bool) → good_test text b ≡ g → fault_test (entry text b) (eqb i 0) behind ≡ misplaced (kind_told true text b) i behind
      go true e =
          let g = (says_good text b).so e in
          rw (entry_sound, e, entry_kind text b g, refuted (says_bad text b true) (λ f. f g)) refl
      go false e = rw (entry_sound, e, (says_bad text b true).back (fails (says_good text b) e)) refl

-- ---- the places

module _ (es : List Entry) where
  -- an entry, and the place after the last
  inside_is : (i : ℕ) → i < length es → malformed_test es i ≡ fault_test (entry_at es i) (eqb i 0) (any_guess es i)
  unfolding malformed_test
  inside_is i h =
      rw (lt-ltb i (length es) h, ne_eqb i (length es) (λ e. omega (arith, e, h))) (or-false (fault_test (entry_at es i) (eqb i 0) (any_guess es i)))

  last_is : malformed_test es (length es) ≡ not (any_guess es (length es))
  unfolding malformed_test
  last_is = rw (le-ltb (length es) (length es) (omega arith), eq-eqb (length es) (length es) refl) refl

-- ---- the list

module _ (text bs : List ℕ) (short : length text ≤ longest_text) (few : count_of bs ≤ most_records) where
  abbrev front : List Entry
  front = up_to (count_of bs) (λ i. entry text (record_of bs i))

  -- a piece of a record at the end is one entry more
  abbrev rest : List Entry
  rest = cond (eqb (length bs % record_bytes) 0) [] (no_entry ∷ [])

  list_is : entries text bs ≡ front ++ rest
  unfolding entries
  list_is = rw (le-leb (length text) longest_text short, le-leb (count_of bs) most_records few) refl

  front_length : length front ≡ count_of bs
  front_length = length_up_to (count_of bs) (λ i. entry text (record_of bs i))

  pub entry_at_lem : (i : ℕ) → i < count_of bs → entry_at (entries text bs) i ≡ entry text (record_of bs i)
  entry_at_lem i h =
      ap (λ (l : List Entry). entry_at l i) list_is
      ∙ get_or-append front rest no_entry i (omega (arith, front_length, h))
      ∙ get_or_up_to (count_of bs) (λ k. entry text (record_of bs k)) i no_entry h

  length_is : length (entries text bs) ≡ count_of bs + length rest
  length_is = ap length list_is ∙ length-append front rest ∙ rw front_length refl

  pub whole_length : length bs % record_bytes ≡ 0 → length (entries text bs) ≡ count_of bs
  whole_length e = length_is ∙ rw (eq-eqb (length bs % record_bytes) 0 e) (omega arith)

  -- no record stands behind the last
  none_behind : entry_at (entries text bs) (count_of bs) ≡ no_entry
  none_behind =
      let n : count_of bs ≡ length front + 0 = omega (arith, front_length) in
      ap (λ (l : List Entry). entry_at l (count_of bs)) list_is ∙ ap (λ (m : ℕ). get_or (front ++ rest) m no_entry) n ∙ get_or-append-add front rest 0 no_entry
      ∙ cond_of (λ (l : List Entry). get_or l 0 no_entry ≡ no_entry) (eqb (length bs % record_bytes) 0) [] (no_entry ∷ []) (λ e. refl) (λ e. refl)

  -- ---- the places, one by one

  limits : in_limits text bs ≡ true
  limits = rw (le-leb (length text) longest_text short, le-leb (count_of bs) most_records few) refl

  -- the kind at a place that is not at fault is the entry's
  kind_here : (j : ℕ) → j < count_of bs → fine_by true text bs j ≡ true → (entry_at (entries text bs) j).kind ≡ kind_told true text (record_of bs j)
  kind_here j h e =
      let g = stable (says_record text (record_of bs j) true) (λ f. ((says_fine true text bs j).so e).1.0 h (inl f)) in
      ap (λ (e : Entry). e.kind) (entry_at_lem j h) ∙ entry_kind text (record_of bs j) g

  -- where no lower place is at fault a place is by the entries exactly if it is by the kinds
  module _ (i : ℕ) (h : i ≤ count_of bs) (fine : EachBelow i (λ j. fine_by true text bs j ≡ true)) where
    passed : Passed true text bs i (any_guess (entries text bs) i)
    passed = record { each = fine; seen = any_alike _ _ i (λ j k. ap is_guess (kind_here j (omega (arith, h, k)) (fine j k))) }

    same : malformed_test (entries text bs) i ≡ not (fine_by true text bs i)
    same =
        elim (dec_lt i (count_of bs)) [
          | yes b ↦ inside_is (entries text bs) i (omega (arith, length_is, b))
              ∙ ap (λ (e : Entry). fault_test e (eqb i 0) (any_guess (entries text bs) i)) (entry_at_lem i b)
              ∙ misplaced_is text (record_of bs i) short i (any_guess (entries text bs) i)
              ∙ sym (ap not (here_is true text bs limits i _ passed b _ refl) ∙ not-not _)
          | no f ↦ (let n : i ≡ count_of bs = omega (arith, f) in
              end n (eqb (length bs % record_bytes) 0) refl ∙ sym (ap not (end_is true text bs limits i _ passed n)))
        ]
      where
        end : i ≡ count_of bs → (w : Bool) → eqb (length bs % record_bytes) 0 ≡ w → malformed_test (entries text bs) i ≡ not (w && any_guess (entries text bs) i)
        end n true e = rw (n, ← whole_length (eqb-true (length bs % record_bytes) 0 e)) (last_is (entries text bs))
        end n false e =
            inside_is (entries text bs) i (omega (arith, n, rw e at length_is)) ∙ rw (n, none_behind, none_unsound) refl

  clean : (i : ℕ) → i ≤ suc (count_of bs) → EachBelow i (λ j. fine_by true text bs j ≡ true) → EachBelow i (λ j. malformed_test (entries text bs) j ≡ false)
  clean i h fine j k = same j (omega (arith, h, k)) (λ m l. fine m (omega (arith, k, l))) ∙ ap not (fine j k)

  in_limits_lem : formed_of (entries text bs) ≡ formed_by true text bs
  unfolding formed_of formed_by
  in_limits_lem = go _ (searched _ _ (λ j. says_not (says_so {b = fine_by true text bs j})) (suc (count_of bs)))
    where
      fines : {i : ℕ} → Nowhere (λ j. fine_by true text bs j ≡ true → ⊥) i → EachBelow i (λ j. fine_by true text bs j ≡ true)
      fines f j k = stable says_so (f j k)

      go : (o : Option ℕ) → Searched (λ j. fine_by true text bs j ≡ true → ⊥) (suc (count_of bs)) o → formed_of (entries text bs) ≡ verdict o
      go (some i) (at l) =
          let f = fines l.below in
          let here = same i (omega (arith, l.inside)) f ∙ ap not (refuted says_so l.here) in
          ap verdict (stops_here _ _ i (omega (arith, l.inside, length_is)) here (clean i (omega (arith, l.inside)) f))
      go none (nowhere never) =
          let f = fines never in
          let w = (((says_fine true text bs (count_of bs)).so (f (count_of bs) (omega arith))).1.1 (λ h. omega (arith, h))).0 in
          ap verdict (goes_through _ _ (λ j k. clean (suc (count_of bs)) (omega arith) f j (omega (arith, k, whole_length w))))

-- what is told of the entries is told by the kinds
pub told_by_kinds : (text bs : List ℕ) → formed_of (entries text bs) ≡ formed_by true text bs
unfolding entries formed_of lowest malformed_test sound_test
told_by_kinds text bs = go (in_limits text bs) refl
  where
    said : Says (in_limits text bs) ((length text ≤ longest_text) × (count_of bs ≤ most_records))
    said = says_and (says_le (length text) longest_text) (says_le (count_of bs) most_records)

    go : (l : Bool) → in_limits text bs ≡ l → formed_of (entries text bs) ≡ formed_by true text bs
    go true e = in_limits_lem text bs (said.so e).0 (said.so e).1
    go false e = rw e refl ∙ over true text bs e
