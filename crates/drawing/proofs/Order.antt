-- The check of a drawing in its order: 30 first, then what one pass over the records tells by their numbers. Assumes nothing.
use Rattle.std.specs.Prelude.{Result, Ok, Err}
use mathlib.Core.Path.{◌≡◌, refl, sym, ap, ◌∙◌, subst}
use mathlib.Core.Bool.{Bool, false}
use mathlib.Core.Option.{Option, none, some}
use mathlib.Core.List.{List, [], ◌∷◌, map}
use Prim.Native.Nat.{ℕ, suc, ◌≤◌, ◌<◌}
use native.Mathlib.Nat.{le_refl}
use native.Mathlib.Omega.{arith}
use lib.ListN.{length, get_or, get_or-eq_default}
use Rattle.ground.proofs.Pieces.{Each}
use Rattle.refusal.specs.declared.Refusal.{Refusal}
use Rattle.refusal.specs.Refusal.{refusal}
use Rattle.refusal.specs.First.{passed, refused, tell, first, lowest}
use Rattle.refusal.specs.Worst.{rank_at, Worst, worst, ranked}
use Rattle.refusal.proofs.Search.{none_iff, lowest_last}
use Rattle.refusal.proofs.ByPlaces.{by_places, at_rank, past_rank}
use Rattle.kinds.specs.Kinds.{new_point, new_circle, new_arc, first_rule, last_rule}
use Rattle.record.specs.Decode.{count_of, decode_at}
use Rattle.record.specs.Entry.{Entry, no_entry}
use Rattle.record.specs.Formed.{WellFormed, entries, Malformed, places, malformed_test, verdict, formed_of}
use Rattle.record.proofs.Told.{says_malformed, passed_iff}
use Rattle.record.proofs.WellFormed.{well_formed_iff}
use Rattle.names.specs.Labels.{drawn, kind_no}
use Rattle.names.proofs.Drawn.{drawn_length, drawn_kind, entries_drawn}
use Rattle.drawing.specs.Faults as faults
use faults.{Fault, malformed, behind30, number_of}
use Rattle.drawing.specs.Judged.{thirty_or, count_in, tells_of}
use Rattle.drawing.specs.Check as check
use check.{twice, wrong_label_test, no_such_part_test, without_guess_test, test, check_of, count_below, count_within, answer, checked_of}
use Rattle.drawing.proofs.Laws.{count_kinds}

-- ---- one pass

-- what the pass found
module _ (t : Fault → ℕ → Bool) (n rank place : ℕ) (e : record { rank = rank; place = place } ≡ worst (length behind30) (rank_at behind30 t) n) where
  told_by_lem : first behind30 t n ≡ ranked behind30 rank place
  told_by_lem = by_places t n behind30 ∙ ap (λ (w : Worst). ranked behind30 w.rank w.place) (sym e)

  pub found : rank < length behind30 → (f : Fault) × (first behind30 t n ≡ refused f place) × (get_or (map number_of behind30) rank 0 ≡ number_of f)
  found h = let (f, is, number) = at_rank number_of behind30 rank place h in (f, told_by_lem ∙ is, number)

  pub found_none : length behind30 ≤ rank → first behind30 t n ≡ passed
  found_none h = told_by_lem ∙ past_rank behind30 rank place h

-- ---- only 30 is told at the place after the last entry

past : (es : List Entry) → kind_no es (length es) ≡ 0
past es = ap (λ (e : Entry). e.kind) (get_or-eq_default es no_entry (le_refl (length es)))

-- an order whose faults hold not at the last place is told without it
first_last : (order : List Fault) (t : Fault → ℕ → Bool) (n : ℕ) → Each (λ f. t f n ≡ false) order → first order t (suc n) ≡ first order t n
unfolding first
first_last [] t n e = refl
first_last (f ∷ order) t n e = rw (lowest_last n (t f) e.0, first_last order t n e.1)

shorter : (es : List Entry) → first behind30 (test es) (suc (length es)) ≡ first behind30 (test es) (length es)
unfolding twice wrong_label_test no_such_part_test without_guess_test
shorter es = first_last behind30 (test es) (length es) (rw (past es), (rw (past es), (rw (past es), (rw (past es), (rw (past es), tt)))))

-- ---- 30

-- what is told of a list that is not well formed is told by the check
pub told_30 : (es : List Entry) (r : Refusal) → formed_of es ≡ Err r → Err r ≡ checked_of es
unfolding checked_of check_of first formed_of
told_30 es r e = go (lowest (places es) (malformed_test es)) e
  where
    go : (o : Option ℕ) → verdict o ≡ Err r → Err r ≡ answer es (tell malformed o (first behind30 (test es) (places es)))
    go (some j) q = cc
    go none q = let z : ◌≡◌ {A = ℕ} 0 1 = cc in absurd (omega arith)

module _ (text bs : List ℕ) (w : WellFormed text bs) where
  -- the check of a well formed list is that of the order behind 30, over its records
  pub check_is : check_of (drawn text bs) ≡ first behind30 (test (drawn text bs)) (count_of bs)
  unfolding check_of first
  check_is =
      let es = drawn text bs in
      let never : lowest (places es) (malformed_test es) ≡ none = subst (λ (l : List Entry). lowest (places l) (malformed_test l) ≡ none) (entries_drawn text bs w)
      ((none_iff (malformed_test (entries text bs)) (Malformed (entries text bs)) (says_malformed (entries text bs)) (places (entries text bs))).1
      ((passed_iff (entries text bs)).0 ((well_formed_iff text bs).1 w))) in
      ap (λ (o : Option ℕ). tell malformed o (first behind30 (test es) (places es))) never
      ∙ shorter es
      ∙ ap (first behind30 (test es)) (drawn_length text bs)

  -- what is told of it: a fault behind 30, or none
  pub told_behind : (f : Fault) (i : ℕ) → first behind30 (test (drawn text bs)) (count_of bs) ≡ refused f i → checked_of (entries text bs) ≡ Err (refusal (number_of f) i)
  unfolding checked_of
  told_behind f i e = rw (entries_drawn text bs w, check_is, e) refl

  count_is : (low high : ℕ) → count_within (drawn text bs) low high ≡ count_in bs low high
  count_is low high = count_kinds (kind_no (drawn text bs)) (λ i. (decode_at bs i).kind) low high (length (drawn text bs)) (drawn_kind text bs) ∙ ap (count_below (λ i. (decode_at bs i).kind) low high) (drawn_length text bs)

  pub told_none : first behind30 (test (drawn text bs)) (count_of bs) ≡ passed → tells_of text bs passed ≡ checked_of (entries text bs)
  unfolding checked_of
  told_none e = rw (entries_drawn text bs w, check_is, e, count_is new_point new_point, count_is new_circle new_circle, count_is new_arc new_arc, count_is first_rule last_rule) refl

-- 30, or else what is told of a well formed list
pub told_right : (text bs : List ℕ) (other : Refusal) → (WellFormed text bs → checked_of (entries text bs) ≡ Err other) → thirty_or (formed_of (entries text bs)) other ≡ checked_of (entries text bs)
told_right text bs other f = go (formed_of (entries text bs)) refl
  where
    go : (o : Result Unit Refusal) → formed_of (entries text bs) ≡ o → thirty_or o other ≡ checked_of (entries text bs)
    go (Err r) e = told_30 (entries text bs) r e
    go (Ok tt) e = sym (f ((well_formed_iff text bs).0 e))
