-- What is lent to lowering is enough for every drawing that a page holds: no record declares two shapes, a shape has at most six slots,
-- and no record has two rows. Assumes nothing.
use mathlib.Core.Path.{◌≡◌}
use mathlib.Core.Bool.{cond}
use mathlib.Core.List.{List}
use Prim.Native.Nat.{ℕ, zero, suc, ◌+◌, ◌*◌, ◌≤◌}
use native.Mathlib.Decide.{ℕ_discrete}
use native.Mathlib.Omega.{arith}
use lib.ListN.{length}
use borrow.Author.Tests.{ne_eqb}
use Rattle.ground.proofs.Lists.{either_le}
use Rattle.layout.specs.Slots.{size_of}
use Rattle.layout.specs.declared.ShapeKind.TheVariants.{Arc}
use Rattle.row.specs.Row.{row_bytes}
use Rattle.kinds.specs.Kinds.{first_rule, last_rule}
use Rattle.record.specs.Record.{most_records}
use Rattle.record.specs.Entry.{Entry}
use Rattle.names.specs.Labels.{kind_no, within}
use Rattle.drawing.specs.Check.{count_below}
use Rattle.lowering.specs.Slots.{slots}
use Rattle.lowering.specs.Rows.{rules_of}
use Rattle.names.proofs.Laws.{within_one}
use Rattle.drawing.proofs.Laws.{count_le}
use Rattle.lowering.proofs.drawing.Counts.{rules_all, slot_count}

-- room for the slots and for the rows of any drawing that a page holds
abbrev pub slot_room : ℕ
slot_room = most_records * size_of Arc

abbrev pub row_room : ℕ
row_room = most_records * row_bytes

-- a number is one of 1, 2 and 3 at most once
once : (k : ℕ) → cond (within 1 1 k) 1 0 + cond (within 2 2 k) 1 0 + cond (within 3 3 k) 1 0 ≤ 1
once k = go (ℕ_discrete k 1) (ℕ_discrete k 2)
  where
    go : Dec (k ≡ 1) → Dec (k ≡ 2) → cond (within 1 1 k) 1 0 + cond (within 2 2 k) 1 0 + cond (within 3 3 k) 1 0 ≤ 1
    go (yes e) b = rw e (omega arith)
    go (no f) (yes e) = rw e (omega arith)
    go (no f) (no g) = rw (within_one 1 k, within_one 2 k, ne_eqb k 1 f, ne_eqb k 2 g) (omega (arith, either_le (within 3 3 k) 1 0 1 (omega arith) (omega arith)))

shapes_le : (kinds : ℕ → ℕ) (n : ℕ) → count_below kinds 1 1 n + count_below kinds 2 2 n + count_below kinds 3 3 n ≤ n
unfolding count_below
shapes_le kinds zero = omega arith
shapes_le kinds (suc n) = omega (arith, shapes_le kinds n, once (kinds n))

module _ (es : List Entry) (few : length es ≤ most_records) where
  pub slots_most : length (slots es) ≤ slot_room
  slots_most = omega (arith, slot_count es, shapes_le (kind_no es) (length es))

  pub rules_most : length (rules_of es) ≤ most_records
  rules_most = omega (arith, rules_all es, count_le (kind_no es) first_rule last_rule (length es))
