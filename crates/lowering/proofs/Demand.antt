-- A drawing that the check passes can't go wrong later: the third demand. What the check tells of it makes lowering answer without refusal, and what
-- is written then is what the laws of slots, values and rows say. Assumes nothing.
use mathlib.Core.Path.{◌≡◌, refl, ◌∙◌}
use mathlib.Core.List.{List}
use Prim.Native.Nat.{ℕ, ◌+◌, ◌*◌, ◌≤◌}
use native.Mathlib.Omega.{arith}
use lib.ListN.{length, drop}
use lib.Ieee.{Float}
use Rattle.layout.specs.Slots as layout
use Rattle.layout.specs.Slots.{ids_end}
use Rattle.layout.specs.Push.{onward}
use Rattle.record.specs.Entry.{Entry}
use Rattle.record.specs.Formed.{entries}
use Rattle.drawing.specs.Needs.{point, circle, arc}
use Rattle.lowering.specs.Slots.{slots, how_many, first_slot, values_of}
use Rattle.row.specs.Row.{encode_rows}
use Rattle.lowering.specs.Rows.{rows_of}
use Rattle.lowering.specs.Lower.{onto, room_in}
use Rattle.lowering.specs.Demand.{Enough, rules_before, CannotGoWrong, PassedLowersWell}
use Rattle.lowering.proofs.answer.Ends.{well_filled, short}
use Rattle.lowering.proofs.answer.Lacking.{lower_good}
use Rattle.lowering.proofs.drawing.Counts.{rules_all, slot_count, passed_with, slot_number, rule_number}
use Rattle.lowering.proofs.drawing.Fine.{Fine, fine}
use Rattle.lowering.proofs.slots.Components.{one_component, slot_of_lem}
use Rattle.lowering.proofs.slots.Values.{starts, value_at}
use Rattle.lowering.proofs.slots.Fields.{read_out}
use Rattle.lowering.proofs.slots.Looked.{given_id, given_long, looked_up}
use Rattle.lowering.proofs.rows.Bytes.{rule_inside, row_of}

-- ---- what is written

module _ (es : List Entry) (w : Fine es) (few : length es ≤ layout.most_shapes) (next : ℕ) (left : next + length (slots es) ≤ ids_end) (ids : List ℕ) (values : List Float) (rows : List ℕ) where
  pub cannot_go_wrong : CannotGoWrong es (how_many point es) (how_many circle es) (how_many arc es) (rules_before es (length es)) next
      (onto ids (onward next (length (slots es)))) (onto values (values_of es)) (onto rows (encode_rows (rows_of es next)))
  cannot_go_wrong = record {
    points = refl;
    circles = refl;
    arcs = refl;
    slot_count = slot_count es;
    id_at = given_id es next ids;
    distinct = λ j k h g e. omega (arith, e, given_id es next ids j h, given_id es next ids k g);
    fit = λ j h. omega (arith, h, left, given_id es next ids j h);
    one_component = one_component es w;
    each_has_one = slot_of_lem es;
    looked_up = λ i s k t c.
        looked_up es few (onto ids (onward next (length (slots es)))) (given_long es next ids) i s k t (next + (first_slot s es i + k)) c
        (given_id es next ids (first_slot s es i + k) (slot_of_lem es i s k c.declared c.one_of_it).0);
    starts = λ j h. rw (value_at es values j h) (starts es w j h);
    row_count = refl;
    one_row = λ i h u. (omega (arith, rule_inside es i h u, rules_all es), row_of es next i h u w left (drop (length (encode_rows (rows_of es next))) rows));
    read_out = read_out es w few;
  }

-- ---- the demand

pub lowers_well : PassedLowersWell
lowers_well text bs P C A R next ids values rows checked enough r ids' values' rows' call =
    let es = entries text bs in
    let p = passed_with es P C A R checked in
    let n : length (slots es) ≡ 2 * P + 3 * C + 6 * A = slot_number p ∙ omega arith in
    let m = rule_number p in
    let enough_slots : Enough es (room_in next ids values rows) = rw (n, m) enough in
    let f = well_filled es next ids values rows enough_slots p.none_found r ids' values' rows' call in
    let left : next + length (slots es) ≤ ids_end = rw n enough.ids_left in
    record {
      without_refusal = call.answer ∙ lower_good es (room_in next ids values rows) enough_slots p.none_found ∙ rw (n, m, p.points, p.circles, p.arcs) refl;
      cannot_go_wrong =
          rw (f.slotted.ids_are, f.slotted.values_are, f.rows_are, p.points, p.circles, p.arcs, p.rules)
          (cannot_go_wrong es (fine es p.none_found) (omega (arith, short text bs refl checked)) next left ids values rows);
    }
