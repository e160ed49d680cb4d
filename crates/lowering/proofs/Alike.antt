-- Two drawings that the check passes and that have the same lines are lowered alike: no call tells them apart, with enough room or too little, since
-- all that is answered and written is worked out from the lines. Assumes nothing.
use Rattle.std.specs.Prelude.{Result}
use mathlib.Core.Path.{◌≡◌, refl, sym, ap, ◌∙◌}
use mathlib.Core.List.{List}
use Prim.Native.Nat.{ℕ}
use lib.ListN.{length}
use lib.Ieee.{Float}
use Rattle.refusal.specs.declared.Refusal.{Refusal}
use Rattle.refusal.specs.First.{passed, once, answered}
use Rattle.row.specs.Row.{Row}
use Rattle.record.specs.Entry.{Entry}
use Rattle.drawing.specs.Check.{check_of}
use Rattle.lowering.specs.declared.Lowered.{Lowered}
use Rattle.lowering.specs.Slots.{slots, layout_of, values_of}
use Rattle.lowering.specs.Rows.{rules_of, rows_of}
use Rattle.lowering.specs.Lower.{Room, Lack, few_ids, short_slices, short_rows, lack_order, lacking, lack_of, lower_of, room_in, Lowers}
use Rattle.lowering.specs.Sketch.{Line, sketch, sketch_layout, sketch_slots, rows_by, values_by}
use Rattle.lowering.proofs.rows.Bytes.{count_rows}
use Rattle.lowering.proofs.Sketched.{sketched}

-- two drawings that pass have the same layout, and as many slots and rules; they start at the same values, and their rows are the same
pub record Alike (es es' : List Entry) : Type 0 where
  pub passes : check_of es ≡ passed
  pub passes' : check_of es' ≡ passed
  pub layout : layout_of es ≡ layout_of es'
  pub slot_count : length (slots es) ≡ length (slots es')
  pub rule_count : length (rules_of es) ≡ length (rules_of es')
  pub values : values_of es ≡ values_of es'
  pub rows : (next : ℕ) → rows_of es next ≡ rows_of es' next

pub alike : (es es' : List Entry) → check_of es ≡ passed → check_of es' ≡ passed → sketch es ≡ sketch es' → Alike es es'
alike es es' passes passes' same =
    let one = sketched es passes in
    let other = sketched es' passes' in
    let rows : (next : ℕ) → rows_of es next ≡ rows_of es' next = λ next. by_lines (rows_by next) (one.rows next) (other.rows next) in
    record {
      passes = passes;
      passes' = passes';
      layout = by_lines sketch_layout one.layout other.layout;
      slot_count = by_lines sketch_slots one.slot_count other.slot_count;
      rule_count = sym (count_rows es 0) ∙ ap (λ (rs : List Row). length rs) (rows 0) ∙ count_rows es' 0;
      values = by_lines values_by one.values other.values;
      rows = rows;
    }
  where
    by_lines : {A : Type 0} (f : List Line → A) {x x' : A} → x ≡ f (sketch es) → x' ≡ f (sketch es') → x ≡ x'
    by_lines f e e' = e ∙ ap f same ∙ sym e'

-- ---- the answer, and what is lent

module _ {es es' : List Entry} (k : Alike es es') where
  lacking_same : (room : Room) (f : Lack) → lacking es room f ≡ lacking es' room f
  lacking_same room few_ids = rw k.slot_count refl
  lacking_same room short_slices = rw k.slot_count refl
  lacking_same room short_rows = rw k.rule_count refl

  pub answer_same : (room : Room) → lower_of es room ≡ lower_of es' room
  unfolding lower_of lack_of answered
  answer_same room =
      let lack : lack_of es room ≡ lack_of es' room = λ j. once lack_order (λ f. lacking_same room f j) in
      rw (k.passes, k.passes', lack, k.layout, k.slot_count, k.rule_count) refl

  pub call_same : (next : ℕ) (ids : List ℕ) (values : List Float) (rows : List ℕ) (r : Result Lowered Refusal) (ids' : List ℕ) (values' : List Float) (rows' : List ℕ)
      → Lowers es next ids values rows r ids' values' rows' → Lowers es' next ids values rows r ids' values' rows'
  call_same next ids values rows r ids' values' rows' call =
      let told = answer_same (room_in next ids values rows) in
      record {
        answer = call.answer ∙ told;
        ids_are = call.ids_are ∙ rw (told, k.slot_count) refl;
        values_are = call.values_are ∙ rw (told, k.values) refl;
        rows_are = call.rows_are ∙ rw (told, k.rows next) refl;
      }
