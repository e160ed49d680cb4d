-- The rows of a drawing that passes fit their bytes and are well formed, where there are ids enough and each number fits eight bytes. Assumes nothing.
use mathlib.Core.Path.{◌∙◌}
use mathlib.Core.List.{List}
use Prim.Native.Nat.{ℕ, ◌+◌, ◌^◌, ◌≤◌, ◌<◌}
use native.Mathlib.Omega.{arith}
use lib.ListN.{length, get_or, get_or-eq_default}
use Rattle.ground.proofs.Pieces.{Each, each_map, map_each, picks_each}
use Rattle.layout.specs.Slots.{ids_end}
use Rattle.kinds.specs.Kinds.{first_rule, last_rule}
use Rattle.record.specs.Entry.{Entry, no_entry, entry_at}
use Rattle.ground.proofs.UpTo.{get_or_up_to}
use Rattle.names.specs.Labels.{kind_no}
use Rattle.names.proofs.Laws.{says_within}
use Rattle.row.specs.Row.{Row, held, most_ids, encode_rows, RowFits}
use Rattle.row.specs.Formed.{FieldsFormed, RowsFormed}
use Rattle.row.proofs.Rows.{written_formed}
use Rattle.lowering.specs.Slots.{slots}
use Rattle.lowering.specs.Rows.{row_for, rules_of, rows_of}
use Rattle.lowering.proofs.drawing.Counts.{rules_pick}
use Rattle.lowering.proofs.drawing.Fine.{Fine}
use Rattle.lowering.proofs.rows.Labels.{ids_count, ids_few, ids_given}

module _ (es : List Entry) (w : Fine es) (next : ℕ) (left : next + length (slots es) ≤ ids_end) (x_fits : (i : ℕ) → i < length es → (entry_at es i).x < 2 ^ 64) where
  each_row : Each (λ (r : Row). RowFits r × FieldsFormed (held r)) (rows_of es next)
  unfolding rows_of
  each_row =
      map_each (row_for es next) _ (rules_of es)
      (picks_each _ _ _ rules_pick (λ (e : Entry). RowFits (row_for es next e) × FieldsFormed (held (row_for es next e))) es no_entry
      (λ j h t.
      let u = (says_within first_rule last_rule (kind_no es j)).so t in
      let ids = (row_for es next (entry_at es j)).ids in (
        record { few = ids_few es w j h u next; ids_fit = λ q. omega (arith, ids_given es w j h u next left q); bits_fit = x_fits j h },
        record {
          rule = u;
          count = ids_count es w j h u next;
          third = (w.sound j h).third;
          unused = λ q b f. get_or_up_to most_ids (λ q. get_or ids q 0) q 0 b ∙ get_or-eq_default ids 0 {n = q} f;
          no_number = (w.sound j h).no_x;
        },
      )))

  pub rows_fit : Each RowFits (rows_of es next)
  rows_fit = each_map _ RowFits (λ r f. f.0) (rows_of es next) each_row

  pub rows_formed : RowsFormed (encode_rows (rows_of es next))
  rows_formed = written_formed (rows_of es next) each_row
