-- The test of rows says what their words say, a loop over rows comes to it, and rows with well formed fields pass it. Assumes nothing.
use mathlib.Core.Path.{◌≡◌, refl, sym, ap, ◌∙◌}
use mathlib.Core.Bool.{Bool, true, not, ◌||◌}
use mathlib.Core.List.{List, [], ◌∷◌}
use Prim.Native.Nat.{ℕ, zero, suc, ◌+◌, ◌-◌, ◌*◌, ◌/◌, ◌%◌, ◌≤◌, ◌<◌}
use native.Mathlib.Nat.{add-zero, not-suc-le-zero}
use native.Mathlib.Decide.{dec_lt}
use native.Mathlib.Omega.{arith}
use lib.Dec.{leb, eqb}
use lib.ListN.{length, get_or, drop, get_or-eq_default, length-drop}
use lib.Seq.{get_or-take, get_or-drop}
use borrow.Author.Tests.{lt-ltb, eq-eqb, eqb-true}
use Rattle.std.specs.List.{list_all}
use Rattle.ground.proofs.Pieces.{Each, each_at}
use Rattle.refusal.specs.First.{EachBelow, all_below}
use Rattle.refusal.proofs.Says.{Says, says_once, says_iff, says_and, says_if, says_all, says_eq, says_le, says_lt, says_so}
use Rattle.little.specs.Little.{byte}
use Rattle.layout.specs.Slots.{size_of}
use Rattle.layout.specs.declared.ShapeKind.TheVariants.{Point, Circle, Arc}
use Rattle.kinds.specs.Kinds.{table, cell, kind_at, needs_column, first_rule, last_rule, numberless, label_places}
use Rattle.kinds.proofs.Cells.{needs_is}
use Rattle.row.specs.declared.Row.{Row as Held}
use Rattle.row.specs.Row.{Row, held, bytes_of, encode_row, encode_rows, RowFits, row_bytes, row_mark, most_ids, row_no, row_of, held_in}
use Rattle.row.proofs.Back.{no_row, fields_back, rows_length, rows_count, row_no_lem}
use Rattle.row.specs.Formed.{ids_for, ids_at, ids_of, FieldsFormed, RowFormed, RowsFormed, held_test, row_test, rows_test}

-- ---- the ids of a kind

-- a need past those that come to ids comes to none
pub none_for : (need : ℕ) → 6 ≤ need → 0 ≡ ids_for need
none_for need h = sym (get_or-eq_default (0 ∷ size_of Point ∷ size_of Circle ∷ size_of Arc ∷ 1 ∷ 1 ∷ []) 0 h)

-- no label comes to more than an arc
few : (need : ℕ) → ids_for need ≤ 6
few need = elim (dec_lt need 6) [
  | yes h ↦ (says_all _ _ (λ q. says_le (ids_for q) 6) 6).so refl need h
  | no f ↦ omega (arith, none_for need (omega arith))
]

-- the ids of a label place, by its need in the table
pub by_need : (kind q need ids : ℕ) → q < label_places → need ≡ cell table kind (needs_column + q) → ids ≡ ids_for need
    → (ids ≡ ids_at kind q) × (ids ≤ size_of Arc)
by_need kind q need ids h found is =
    let all = is ∙ ap ids_for (found ∙ needs_is kind q h) in
    (all, omega (arith, is, few need))

-- ---- the ids behind those that a row has

-- a list's test says that each of its elements passes
says_list : (p : ℕ → Bool) (xs : List ℕ) → Says (list_all p xs) ((k : ℕ) → k < length xs → p (get_or xs k 0) ≡ true)
says_list p [] = record { so = λ e k h. absurd (not-suc-le-zero h); back = λ f. refl }
says_list p (x ∷ xs) =
    says_iff (λ w k h. go w k h) (λ f. (f 0 (omega arith), λ k h. f (suc k) (omega arith))) (says_and says_so (says_list p xs))
  where
    go : (p x ≡ true) × ((k : ℕ) → k < length xs → p (get_or xs k 0) ≡ true) → (k : ℕ) → k < suc (length xs) → p (get_or (x ∷ xs) k 0) ≡ true
    go w zero h = w.0
    go w (suc k) h = w.1 k (omega arith)

-- they are all 0 exactly if each id from the count on is
pub clear_is : (ids : List ℕ) (n : ℕ) → length ids ≡ most_ids → list_all (λ x. eqb x 0) (drop n ids) ≡ all_below most_ids (λ q. not (leb n q) || eqb (get_or ids q 0) 0)
clear_is ids n e =
    says_once (says_list (λ x. eqb x 0) (drop n ids))
    (says_iff
    (λ w k h. let b : n + k < most_ids = omega (arith, h, e, length-drop n ids) in rw (get_or-drop n ids k) (eq-eqb (get_or ids (n + k) 0) 0 (w (n + k) b (omega arith))))
    (λ f q b le.
    let z : q ≡ n + (q - n) = omega arith in
    let h : q - n < length (drop n ids) = omega (arith, b, e, length-drop n ids) in
    rw z (eqb-true (get_or ids (n + (q - n)) 0) 0 (rw (get_or-drop n ids (q - n)) at (f (q - n) h))))
    (says_all _ _ (λ q. says_if (says_le n q) (says_eq (get_or ids q 0) 0)) most_ids))

-- ---- what the tests say

says_fields : (h : Held) → Says (held_test (kind_at h.kind) h) (FieldsFormed h)
says_fields h =
    says_iff
    (λ w. record { rule = (w.0, w.1.0); count = w.1.1.0; third = w.1.1.1.0; unused = w.1.1.1.1.0; no_number = w.1.1.1.1.1 })
    (λ f. (f.rule.0, (f.rule.1, (f.count, (f.third, (f.unused, f.no_number))))))
    (says_and (says_le first_rule h.kind)
    (says_and (says_le h.kind last_rule)
    (says_and (says_eq h.count (ids_of h.kind))
    (says_and (says_and (says_le h.third (kind_at h.kind).thirds) (says_if (says_lt 0 (kind_at h.kind).thirds) (says_lt 0 h.third)))
    (says_and (says_all _ _ (λ q. says_if (says_le h.count q) (says_eq (get_or h.ids q 0) 0)) most_ids)
    (says_if (says_eq (kind_at h.kind).number numberless) (says_eq h.bits 0)))))))

says_row : (b : List ℕ) → Says (row_test b) (RowFormed b)
unfolding row_test
says_row b = says_iff (λ w. record { marked = w.0; fields = w.1 }) (λ f. (f.marked, f.fields)) (says_and (says_eq (byte b 0) row_mark) (says_fields (held_in b)))

-- the test of rows is passed exactly by well formed rows
pub says_rows : (rows : List ℕ) → Says (rows_test rows) (RowsFormed rows)
unfolding rows_test
says_rows rows =
    says_iff (λ w. record { whole = w.0; each = w.1 }) (λ f. (f.whole, f.each))
    (says_and (says_eq (length rows % row_bytes) 0) (says_all _ _ (λ i. says_row (row_no rows i)) (length rows / row_bytes)))

-- ---- a row of a list

pub row_there : (rows : List ℕ) (i : ℕ) → i < length rows / row_bytes → row_of rows i ≡ row_no rows i
unfolding row_of
row_there rows i h = rw (lt-ltb i (length rows / row_bytes) h) refl

-- its mark
pub mark_at : (rows : List ℕ) (i : ℕ) → byte (row_no rows i) 0 ≡ get_or rows (i * row_bytes) 0
mark_at rows i = rw (get_or-take row_bytes (drop (i * row_bytes) rows) 0 0 (omega arith), get_or-drop, add-zero)

-- ---- the loop

-- the test, row by row
pub says_tested : (rows : List ℕ) → Says (rows_test rows) ((length rows % row_bytes ≡ 0) × EachBelow (length rows / row_bytes) (λ i. row_test (row_no rows i) ≡ true))
unfolding rows_test
says_tested rows = says_and (says_eq (length rows % row_bytes) 0) (says_all _ _ (λ i. says_so) (length rows / row_bytes))

-- ---- rows that are written

-- rows that fit their bytes and whose fields are well formed give well formed bytes
pub written_formed : (rs : List Row) → Each (λ (r : Row). RowFits r × FieldsFormed (held r)) rs → RowsFormed (encode_rows rs)
unfolding encode_row bytes_of
written_formed rs each =
    record {
      whole = omega (arith, rows_length rs);
      each = λ i h.
          let inside : i < length rs = omega (arith, h, rows_count rs) in
          let r = each_at _ rs no_row each i inside in
          rw (row_no_lem rs i inside) (record { marked = refl; fields = rw (fields_back (get_or rs i no_row) r.0) r.1 });
    }
