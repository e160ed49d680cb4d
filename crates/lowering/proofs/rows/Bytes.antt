-- The rows of a drawing as bytes: each takes 44, and the row of a rule stands behind those of the rules before it. Assumes nothing.
use mathlib.Core.Path.{◌≡◌, refl, ap, ◌∙◌}
use mathlib.Core.List.{List, ◌++◌}
use Prim.Native.Nat.{ℕ, ◌+◌, ◌*◌, ◌≤◌, ◌<◌}
use native.Mathlib.Omega.{arith}
use lib.ListN.{length, length-map}
use Rattle.layout.specs.Slots.{ids_end}
use Rattle.kinds.specs.Kinds.{Rule, first_rule, last_rule}
use Rattle.record.specs.Entry.{Entry, no_entry, entry_at}
use Rattle.names.specs.Labels.{kind_no}
use Rattle.lowering.specs.Slots.{slots}
use Rattle.row.proofs.Back.{length_row, id_read}
use Rattle.row.specs.Row.{Row, row_bytes, encode_row, encode_rows, row_no}
use Rattle.lowering.specs.Rows.{row_for, rules_of, rows_of}
use Rattle.lowering.specs.Demand.{RowOf, rules_before}
use Rattle.ground.proofs.Pieces.{Each, each_of, length_flat, piece_at, get_or_map}
use Rattle.names.proofs.Laws.{says_within}
use Rattle.lowering.proofs.drawing.Counts.{rules_pick, picks_inside, picks_at}
use Rattle.lowering.proofs.drawing.Fine.{Fine}
use Rattle.lowering.proofs.rows.Labels.{ids_few, ids_given, carries}

-- ---- the rules

pub rule_inside : (es : List Entry) (i : ℕ) → i < length es → Rule (kind_no es i) → rules_before es i < length (rules_of es)
rule_inside es i h u = picks_inside _ _ _ _ rules_pick es i h ((says_within first_rule last_rule (kind_no es i)).back u)

-- ---- all rows

module _ (es : List Entry) (next : ℕ) where
  rows_fit : Each (λ r. length (encode_row r) ≡ row_bytes) (rows_of es next)
  rows_fit = each_of (λ (r : Row). length (encode_row r) ≡ row_bytes) (rows_of es next) (row_for es next no_entry) (λ j h. length_row _)

  pub count_rows : length (rows_of es next) ≡ length (rules_of es)
  unfolding rows_of
  count_rows = length-map (rules_of es) (row_for es next)

  pub length_rows : length (encode_rows (rows_of es next)) ≡ length (rules_of es) * row_bytes
  length_rows = length_flat encode_row row_bytes (rows_of es next) rows_fit ∙ ap (λ (n : ℕ). n * row_bytes) count_rows

  module _ (i : ℕ) (h : i < length es) (u : Rule (kind_no es i)) where
    -- the row of a rule, whatever follows the rows
    pub row_at : (rest : List ℕ) → row_no (encode_rows (rows_of es next) ++ rest) (rules_before es i) ≡ encode_row (row_for es next (entry_at es i))
    unfolding rows_of
    row_at rest =
        piece_at encode_row row_bytes (rows_of es next) rest (row_for es next no_entry) rows_fit (rules_before es i) (omega (arith, rule_inside es i h u, count_rows))
        ∙ ap encode_row (get_or_map (row_for es next) (rules_of es) (rules_before es i) no_entry (row_for es next no_entry) (rule_inside es i h u)
        ∙ ap (row_for es next) (picks_at _ _ _ _ rules_pick es i h ((says_within first_rule last_rule (kind_no es i)).back u) no_entry))

    pub row_of : Fine es → next + length (slots es) ≤ ids_end → (rest : List ℕ) → RowOf es next (entry_at es i) (row_no (encode_rows (rows_of es next) ++ rest) (rules_before es i))
    row_of w left rest = record {
      row = row_for es next (entry_at es i);
      written = row_at rest;
      kind_is = refl;
      third_is = refl;
      bits_are = refl;
      ids_are = refl;
      no_more = ids_few es w i h u next;
      ids_read = λ q b. rw (row_at rest) (id_read (row_for es next (entry_at es i)) (λ q. omega (arith, ids_given es w i h u next left q)) q b);
      label_ids = carries es w i h u next;
    }
