-- Each way in which lowering ends: with the check's refusal, with 36, 37 or 38, or with slots and rows. What the check tells of a list gives its counts,
-- and that its entries are those that the code reads. Assumes nothing.
use Rattle.std.specs.Prelude.{Result, Err}
use mathlib.Core.Path.{◌≡◌, refl, sym, ◌∙◌}
use mathlib.Core.Logic.{inl, inr}
use mathlib.Core.Bool.{Bool, true, false, ◌||◌, cond}
use mathlib.Core.List.{List}
use Prim.Native.Nat.{ℕ, ◌+◌, ◌*◌, ◌≤◌, ◌<◌}
use native.Mathlib.Omega.{arith}
use lib.Dec.{ltb}
use borrow.Author.Tests.{ltb-false}
use lib.ListN.{length, take}
use lib.Seq.{take_at}
use lib.Ieee.{Float}
use Rattle.std.specs.Prelude.{Option, Some, None}
use Rattle.refusal.specs.declared.Refusal.{Refusal}
use Rattle.refusal.specs.Refusal.{refusal}
use Rattle.refusal.specs.First.{Answer, passed, refused, lowest, first, once, answered}
use Rattle.refusal.proofs.Says.{fails, says_lt, says_or}
use Rattle.layout.specs.declared.Layout.{Layout}
use Rattle.layout.specs.Slots.{ids_end}
use Rattle.layout.specs.Run.{slots_for}
use Rattle.layout.specs.Push.{onward}
use Rattle.layout.proofs.Onward.{length_onward}
use Rattle.record.specs.Record.{most_records}
use Rattle.record.specs.Entry.{Entry}
use Rattle.record.specs.Formed.{WellFormed, entries}
use Rattle.record.proofs.Entries.{whole_length}
use Rattle.record.proofs.Told.{passed_iff}
use Rattle.record.proofs.WellFormed.{well_formed_iff}
use Rattle.names.specs.Labels.{drawn}
use Rattle.names.proofs.Drawn.{entries_drawn}
use Rattle.drawing.specs.declared.Checked.{Checked}
use Rattle.drawing.specs.Needs.{point, circle, arc}
use Rattle.drawing.specs.Faults.{Fault, malformed, number_of}
use Rattle.drawing.specs.Check.{answer, check_of, checked_of, good_check}
use Rattle.drawing.proofs.Agree.{check_passes}
use Rattle.lowering.specs.declared.Lowered.{Lowered}
use Rattle.lowering.specs.Slots.{slots, layout_of, values_of}
use Rattle.row.specs.Row.{row_bytes, encode_rows}
use Rattle.lowering.specs.Rows.{rules_of, rows_of}
use Rattle.lowering.specs.Lower.{Room, few_ids, short_slices, short_rows, lack_order, lack_number, lacking, lack_of, lower_of, room_in, Lowers, good_lowering}
use Rattle.lowering.specs.Demand.{EnoughFor, Enough}
use Rattle.lowering.specs.Steps.{Passing, Filled, lack_told}
use Rattle.lowering.proofs.drawing.Counts.{few_of, PassedWith, passed_with, slot_number, rule_number}
use Rattle.lowering.proofs.slots.Values.{length_values}
use Rattle.lowering.proofs.rows.Bytes.{length_rows}
use Rattle.lowering.proofs.answer.Lacking.{lower_good, lower_refused}

-- ---- what is lent, by the answer

-- the ids, the starting values and the rows of a drawing are the first of these
pub record Fronts (es : List Entry) (next : ℕ) (ids : List ℕ) (values : List Float) (rows : List ℕ) : Type 0 where
  pub ids_first : take (length (slots es)) ids ≡ onward next (length (slots es))
  pub values_first : take (length (slots es)) values ≡ values_of es
  pub rows_first : take (length (rules_of es) * row_bytes) rows ≡ encode_rows (rows_of es next)

module _ (es : List Entry) (next : ℕ) (ids : List ℕ) (values : List Float) (rows : List ℕ) where
  -- on a refusal, what it was
  kept_all : (r : Refusal) → lower_of es (room_in next ids values rows) ≡ Err r → Lowers es next ids values rows (Err r) ids values rows
  kept_all r e = record { answer = sym e; ids_are = rw e refl; values_are = rw e refl; rows_are = rw e refl }

  -- ---- the check refuses

  pub refused_ends : (r : Refusal) → checked_of es ≡ Err r → Lowers es next ids values rows (Err r) ids values rows
  unfolding checked_of
  refused_ends r = go (check_of es) refl
    where
      go : (a : Answer Fault) → check_of es ≡ a → answer es a ≡ Err r → Lowers es next ids values rows (Err r) ids values rows
      go passed e q = let z : ◌≡◌ {A = ℕ} 0 1 = cc in absurd (omega arith)
      go (refused f j) e q =
          let same : refusal (number_of f) j ≡ r = cc in
          rw (← same) (kept_all (refusal (number_of f) j) (lower_refused es (room_in next ids values rows) f j e))

  -- ---- the check passes, with enough room

  pub well_filled : Enough es (room_in next ids values rows) → check_of es ≡ passed → (r : Result Lowered Refusal) (ids' : List ℕ) (values' : List Float) (rows' : List ℕ)
      → Lowers es next ids values rows r ids' values' rows' → Filled es next ids values rows (layout_of es) ids' values' rows'
  well_filled enough passes r ids' values' rows' call =
      let good = lower_good es (room_in next ids values rows) enough passes in
      record { slotted = record { layout_is = refl; ids_are = rw good at call.ids_are; values_are = rw good at call.values_are }; rows_are = rw good at call.rows_are }

  -- what is written stands at the front of what was lent
  pub fronts : Enough es (room_in next ids values rows) → check_of es ≡ passed → (r : Result Lowered Refusal) (ids' : List ℕ) (values' : List Float) (rows' : List ℕ)
      → Lowers es next ids values rows r ids' values' rows' → Fronts es next ids' values' rows'
  fronts enough passes r ids' values' rows' call =
      let f = well_filled enough passes r ids' values' rows' call in
      record {
        ids_first = rw f.slotted.ids_are (take_at (onward next (length (slots es))) _ _ (length_onward next (length (slots es))));
        values_first = rw f.slotted.values_are (take_at (values_of es) _ _ (length_values es));
        rows_first = rw f.rows_are (take_at (encode_rows (rows_of es next)) _ _ (length_rows es next));
      }

-- ---- what is lacking

-- where none is told no test passes
off : (b : Bool) (r : Refusal) (rest : Option Refusal) → cond b (Some r) rest ≡ None → (b ≡ false) × (rest ≡ None)
off true r rest e = absurd cc
off false r rest e = (refl, e)

-- and nothing lacks
pub enough_for : (room : Room) (slot_count row_count : ℕ) → lack_told room slot_count row_count ≡ None → EnoughFor slot_count row_count room
enough_for room n m e =
    let (ids, e') = off (ltb ids_end (room.next + n)) (refusal 36 0) _ e in
    let (slices, e'') = off (ltb room.ids n || ltb room.values n) (refusal 37 0) _ e' in
    let lent = fails (says_or (says_lt room.ids n) (says_lt room.values n)) slices in
    record {
      ids_left = ltb-false _ _ ids;
      ids_lent = let f : room.ids < n → ⊥ = λ l. lent (inl l) in omega (arith, f);
      values_lent = let f : room.values < n → ⊥ = λ l. lent (inr l) in omega (arith, f);
      rows_lent = ltb-false _ _ (off (ltb room.row_bytes (m * row_bytes)) (refusal 38 0) None e'').0;
    }

-- and a refusal is that of the lack
module _ (es : List Entry) (room : Room) (r : Refusal) where
  lack_ends : check_of es ≡ passed → lack_told room (length (slots es)) (length (rules_of es)) ≡ Some r → lower_of es room ≡ Err r
  unfolding lower_of lack_of once first lowest answered
  lack_ends c told = rw c (go (lacking es room few_ids) refl (lacking es room short_slices) refl (lacking es room short_rows) refl told _)
    where
      some : {q : Refusal} → Some q ≡ Some r → q ≡ r
      some e = cc

      go : (x : Bool) → lacking es room few_ids ≡ x → (y : Bool) → lacking es room short_slices ≡ y → (z : Bool) → lacking es room short_rows ≡ z
          → cond x (Some (refusal 36 0)) (cond y (Some (refusal 37 0)) (cond z (Some (refusal 38 0)) None)) ≡ Some r → (last : Result Lowered Refusal) → answered lack_number Err (once lack_order (lacking es room)) last ≡ Err r
      go true e y f z g q last = rw (e, some q) refl
      go false e true f z g q last = rw (e, f, some q) refl
      go false e false f true g q last = rw (e, f, g, some q) refl
      go false e false f false g q last = absurd cc

-- ---- the check passes

module _ (text bs : List ℕ) {P C A R : ℕ} {answer : Result Checked Refusal} (told : answer ≡ checked_of (entries text bs)) (is : answer ≡ good_check P C A R) where
  pub counted : PassedWith (entries text bs) P C A R
  counted = passed_with (entries text bs) P C A R (sym told ∙ is)

  pub well_formed : WellFormed text bs
  well_formed =
      (well_formed_iff text bs).0
      ((passed_iff (entries text bs)).1 (λ i h. (check_passes (entries text bs)).0 counted.none_found malformed i h))

  pub short : length (entries text bs) ≤ most_records
  short = let f = well_formed in omega (arith, whole_length text bs f.short f.few f.whole, f.few)

  -- the counts are small
  pub few_counted : (P ≤ most_records) × (C ≤ most_records) × (A ≤ most_records)
  few_counted =
      let es = entries text bs in
      (omega (arith, counted.points, few_of es short point), omega (arith, counted.circles, few_of es short circle), omega (arith, counted.arcs, few_of es short arc))

  module _ (next : ℕ) (ids : List ℕ) (values : List Float) (rows : List ℕ) {n : ℕ} {lack : Option Refusal} (slots_are : n ≡ slots_for P C A) (lack_is : lack ≡ lack_told (room_in next ids values rows) n R) where
    -- something lacks
    pub lacking_ends : (r : Refusal) → lack ≡ Some r → Lowers (entries text bs) next ids values rows (Err r) ids values rows
    lacking_ends r some =
        kept_all (entries text bs) next ids values rows r
        (lack_ends (entries text bs) (room_in next ids values rows) r counted.none_found
        (rw (slot_number counted, ← slots_are, rule_number counted) (sym lack_is ∙ some)))

    -- nothing lacks
    module _ (nothing : lack ≡ None) where
      pub enough : EnoughFor n R (room_in next ids values rows)
      enough = enough_for (room_in next ids values rows) n R (sym lack_is ∙ nothing)

      passing : Passing (entries text bs) next ids values rows
      passing = record { passes = counted.none_found; few = short; enough = rw (slot_number counted, ← slots_are, rule_number counted) enough }

      -- the entries are those that the code reads
      pub passing_is : Passing (drawn text bs) next ids values rows
      passing_is = rw (entries_drawn text bs well_formed) at passing

      pub good_ends : (l : Layout) (ids' : List ℕ) (values' : List Float) (rows' : List ℕ) → Filled (drawn text bs) next ids values rows l ids' values' rows'
          → Lowers (entries text bs) next ids values rows (good_lowering l (next + n) R) ids' values' rows'
      good_ends l ids' values' rows' filled =
          let es = entries text bs in
          let f : Filled es next ids values rows l ids' values' rows' = rw (entries_drawn text bs well_formed) filled in
          let good : lower_of es (room_in next ids values rows) ≡ good_lowering (layout_of es) (next + n) R =
          lower_good es (room_in next ids values rows) passing.enough passing.passes ∙ rw (slot_number counted, ← slots_are, rule_number counted) refl in
          record {
            answer = rw f.slotted.layout_is (sym good);
            ids_are = f.slotted.ids_are ∙ rw good refl;
            values_are = f.slotted.values_are ∙ rw good refl;
            rows_are = f.rows_are ∙ rw good refl;
          }
