-- What is told of a lowering with room enough is what is due of the page's drawing: slot by slot and row by row, from what was written. Assumes nothing.
use Rattle.std.specs.Prelude.{Result, Err}
use mathlib.Core.Path.{◌≡◌, refl, sym, ap, ◌∙◌}
use mathlib.Core.List.{List, map}
use Prim.Native.Nat.{ℕ, ◌+◌, ◌*◌, ◌/◌, ◌^◌, ◌≤◌, ◌<◌}
use native.Mathlib.Nat.{zero-add}
use native.Mathlib.Omega.{arith}
use lib.ListN.{length, get_or, take, replicate, length-map, length-take, length-replicate}
use lib.Ieee.{Float, nan, binary64, of_bits}
use Rattle.ground.specs.Lists.{up_to}
use Rattle.refusal.specs.First.{Answer, passed, refused, answered}
use Rattle.layout.specs.declared.Layout.{Layout}
use Rattle.layout.specs.Push.{onward}
use Rattle.layout.proofs.Onward.{length_onward, get_or_onward}
use Rattle.refusal.specs.declared.Refusal.{Refusal}
use Rattle.refusal.proofs.Good.{held_same}
use Rattle.record.specs.Record.{most_records, longest_text}
use Rattle.record.specs.Decode.{no_record}
use Rattle.record.specs.Entry.{Entry, entry_at, entry_of}
use Rattle.record.specs.Formed.{entries}
use Rattle.ground.proofs.UpTo.{up_to_same, up_to_map}
use Rattle.reader.specs.Page.{records_in, lines_of}
use Rattle.reader.proofs.Written.{written_fits}
use Rattle.drawing.specs.Faults.{Fault, number_of}
use Rattle.drawing.specs.Check.{check_of}
use Rattle.lowering.specs.declared.Lowered.{Lowered}
use Rattle.lowering.specs.Slots.{slots, layout_of, values_of}
use Rattle.row.specs.Row.{Row, row_bytes, encode_rows, decode_row, row_of, RowFits}
use Rattle.lowering.specs.Rows.{rules_of, rows_of}
use Rattle.lowering.specs.Lower.{Room, room_in, lower_of, Lowers, good_lowering}
use Rattle.lowering.specs.Demand.{Enough}
use Rattle.row.specs.Formed.{RowsFormed}
use Rattle.row.proofs.Back.{no_row, rows_length, rows_count, row_no_lem}
use Rattle.lowering.proofs.rows.Bytes.{count_rows}
use Rattle.lowering.proofs.rows.Formed.{rows_fit, rows_formed}
use Rattle.lowering.proofs.drawing.Fine.{fine}
use Rattle.lowering.proofs.answer.Lacking.{lower_good, lower_refused}
use Rattle.lowering.proofs.answer.Ends.{Fronts, fronts}
use Rattle.ground.proofs.Pieces.{Each, each_at, get_or_map}
use Rattle.lowering.proofs.slots.Values.{length_values}
use Rattle.lines.specs.Drawn.{lowered_line, slot_line, row_line}
use Rattle.lines.proofs.RowBack.{row_printed}
use Rattle.answers.specs.Answers.{slot_lines, drawing_lines}
use Rattle.answers.specs.Steps.{Read, slots_by, lowered_by}
use Rattle.answers.proofs.Room.{slot_room, row_room, slots_most, rules_most}

-- ---- rows

-- the lines of rows that fit their bytes, from those bytes
module _ (rs : List Row) (fit : Each RowFits rs) where
  row_shown : (k : ℕ) → k < length rs → row_line (decode_row (row_of (encode_rows rs) k)) ≡ row_line (get_or rs k no_row)
  row_shown k h = row_printed (get_or rs k no_row) (each_at RowFits rs no_row fit k h) (encode_rows rs) k (omega (arith, rows_count rs)) (row_no_lem rs k h)

  pub rows_shown : up_to (length (encode_rows rs) / row_bytes) (λ k. row_line (decode_row (row_of (encode_rows rs) k))) ≡ map row_line rs
  rows_shown = rw (rows_count rs) (up_to_same _ _ _ row_shown ∙ up_to_map rs no_row row_line)

-- the number of each line of a page fits eight bytes
x_fits : (s : List ℕ) → length s ≤ longest_text → (i : ℕ) → i < length (lines_of s) → (entry_at (lines_of s) i).x < 2 ^ 64
unfolding entry_of
x_fits s short i h =
    let b : i < length (records_in s) = omega (arith, length-map (records_in s) (entry_of s)) in
    rw (get_or_map (entry_of s) (records_in s) i no_record) (written_fits s short no_record i b).x_fits

-- ---- slots

slots_shown : (es : List Entry)
    → up_to (length (onward 0 (length (slots es)))) (λ j. slot_line (get_or (onward 0 (length (slots es))) j 0) (get_or (values_of es) j nan)) ≡ slot_lines es
slots_shown es =
    let n = length (slots es) in
    rw length_onward (up_to_same n (λ j. slot_line (get_or (onward 0 n) j 0) (get_or (values_of es) j nan)) _ (λ j h. rw (get_or_onward 0 n j, zero-add)))

-- ---- a call of lowering, with all that is lent

-- the slices and the buffer as they are lent, and the room that they have
abbrev ids₀ : List ℕ
ids₀ = replicate slot_room 0

abbrev values₀ : List Float
values₀ = replicate slot_room (of_bits binary64 0)

abbrev rows₀ : List ℕ
rows₀ = replicate row_room 0

abbrev lent : Room
lent = room_in 0 ids₀ values₀ rows₀

-- as many as are taken are there
pub there : {A : Type 0} (n : ℕ) (l : List A) → length (take n l) ≡ n → n ≤ length l
there n l e = omega (arith, length-take n l)

module _ {s bs : List ℕ} (read : Read s bs) {told : Result Lowered Refusal} {ids : List ℕ} {values : List Float} {rows : List ℕ} (call : Lowers (entries s bs) 0 ids₀ values₀ rows₀ told ids values rows) where
  few : length (lines_of s) ≤ most_records
  few = omega (arith, length-map (records_in s) (entry_of s))

  suffices : Enough (lines_of s) lent
  suffices = simp length-replicate (omega (arith, slots_most (lines_of s) few, rules_most (lines_of s) few))

  on_lines : Lowers (lines_of s) 0 ids₀ values₀ rows₀ told ids values rows
  on_lines = rw read.entries_are at call

  -- what is told, by the check
  told_by_lem : (a : Answer Fault) → check_of (lines_of s) ≡ a
      → told ≡ answered number_of Err a (good_lowering (layout_of (lines_of s)) (0 + length (slots (lines_of s))) (length (rules_of (lines_of s))))
  unfolding answered
  told_by_lem passed h = on_lines.answer ∙ lower_good (lines_of s) lent suffices h
  told_by_lem (refused f i) h = on_lines.answer ∙ lower_refused (lines_of s) lent f i h

  -- a refusal is the check's
  pub refused_lines : {r : Refusal} → told ≡ Err r → drawing_lines (check_of (lines_of s)) (lines_of s) ≡ lowered_line told
  unfolding lowered_line answered
  refused_lines {r} e = go (check_of (lines_of s)) refl
    where
      go : (a : Answer Fault) → check_of (lines_of s) ≡ a → drawing_lines a (lines_of s) ≡ lowered_line told
      go passed h = cc (told_by_lem passed h)
      go (refused f i) h = rw (told_by_lem (refused f i) h)

  module _ {l : Layout} {next count : ℕ} (e : told ≡ good_lowering l next count) where
    passes : check_of (lines_of s) ≡ passed
    unfolding answered
    passes = go (check_of (lines_of s)) refl
      where
        go : (a : Answer Fault) → check_of (lines_of s) ≡ a → a ≡ passed
        go passed h = refl
        go (refused f i) h = cc (told_by_lem (refused f i) h)

    good_is : lower_of (lines_of s) lent ≡ good_lowering (layout_of (lines_of s)) (0 + length (slots (lines_of s))) (length (rules_of (lines_of s)))
    good_is = lower_good (lines_of s) lent suffices passes

    told_is : told ≡ good_lowering (layout_of (lines_of s)) (length (slots (lines_of s))) (length (rules_of (lines_of s)))
    told_is = on_lines.answer ∙ good_is ∙ rw zero-add

    same : ◌≡◌ {A = Lowered} (record { layout = l; next = next; rows = count }) (record { layout = layout_of (lines_of s); next = length (slots (lines_of s)); rows = length (rules_of (lines_of s)) })
    same = held_same (sym e ∙ told_is)

    next_is : next ≡ length (slots (lines_of s))
    next_is = ap (λ (x : Lowered). x.next) same

    count_is : count ≡ length (rules_of (lines_of s))
    count_is = ap (λ (x : Lowered). x.rows) same

    pub count_most : count ≤ most_records
    count_most = rw count_is (rules_most (lines_of s) few)

    fits : Each RowFits (rows_of (lines_of s) 0)
    fits = rows_fit (lines_of s) (fine (lines_of s) passes) 0 (omega (arith, slots_most (lines_of s) few)) (x_fits s read.short)

    written_length : length (encode_rows (rows_of (lines_of s) 0)) ≡ count * row_bytes
    written_length = omega (arith, rows_length (rows_of (lines_of s) 0), count_rows (lines_of s) 0, count_is)

    -- what was written
    taken : Fronts (lines_of s) 0 ids values rows
    taken = fronts (lines_of s) 0 ids₀ values₀ rows₀ suffices passes told ids values rows on_lines

    ids_taken : take next ids ≡ onward 0 (length (slots (lines_of s)))
    ids_taken = rw next_is taken.ids_first

    values_taken : take next values ≡ values_of (lines_of s)
    values_taken = rw next_is taken.values_first

    rows_taken : take (count * row_bytes) rows ≡ encode_rows (rows_of (lines_of s) 0)
    rows_taken = rw count_is taken.rows_first

    -- the rows are well formed
    pub well_formed : RowsFormed (take (count * row_bytes) rows)
    well_formed = rw rows_taken (rows_formed (lines_of s) (fine (lines_of s) passes) 0 (omega (arith, slots_most (lines_of s) few)) (x_fits s read.short))

    -- is all there
    pub ids_size : length (take next ids) ≡ next
    ids_size = ap length ids_taken ∙ length_onward 0 (length (slots (lines_of s))) ∙ sym next_is

    pub values_size : length (take next values) ≡ next
    values_size = ap length values_taken ∙ length_values (lines_of s) ∙ sym next_is

    pub rows_size : length (take (count * row_bytes) rows) ≡ count * row_bytes
    rows_size = ap length rows_taken ∙ written_length

    -- and its lines are those that are due
    pub good_lines : drawing_lines (check_of (lines_of s)) (lines_of s) ≡ lowered_by (good_lowering l next count) (take next ids) (take next values) (take (count * row_bytes) rows)
    unfolding lowered_by slots_by
    good_lines = rw (passes, ids_taken, values_taken, rows_taken, slots_shown (lines_of s), rows_shown (rows_of (lines_of s) 0) fits, ← e, told_is)
