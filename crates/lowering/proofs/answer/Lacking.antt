-- 36, 37 and 38, in that order, behind what the check tells: each test says its lack. Assumes nothing.
use Rattle.std.specs.Prelude.{Err}
use mathlib.Core.Path.{◌≡◌, refl}
use mathlib.Core.List.{List}
use Prim.Native.Nat.{ℕ, ◌+◌}
use lib.ListN.{length}
use mathlib.Core.Bool.{false}
use borrow.Author.Tests.{le-ltb}
use Rattle.refusal.specs.Refusal.{refusal}
use Rattle.refusal.specs.First.{passed, refused, answered}
use Rattle.refusal.proofs.Says.{Says, says_lt, says_or}
use Rattle.refusal.proofs.Once.{clear_passes}
use Rattle.record.specs.Entry.{Entry}
use Rattle.drawing.specs.Faults.{Fault, number_of}
use Rattle.drawing.specs.Check.{check_of}
use Rattle.lowering.specs.Slots.{slots, layout_of}
use Rattle.lowering.specs.Rows.{rules_of}
use Rattle.lowering.specs.Lower.{Room, Lack, few_ids, short_slices, short_rows, lack_order, Lacking, lacking, lack_of, lower_of, good_lowering}
use Rattle.lowering.specs.Demand.{Enough}

module _ (es : List Entry) (room : Room) where
  pub says_lacking : (f : Lack) (i : ℕ) → Says (lacking es room f) (Lacking es room f)
  says_lacking few_ids i = says_lt _ _
  says_lacking short_slices i = says_or (says_lt _ _) (says_lt _ _)
  says_lacking short_rows i = says_lt _ _

  module _ (enough : Enough es room) where
    pub none_lacking : lack_of es room ≡ passed
    unfolding lack_of
    none_lacking =
        let n = length (slots es) in
        let slices : lacking es room short_slices ≡ false = rw (le-ltb room.ids n enough.ids_lent, le-ltb room.values n enough.values_lent) refl in
        clear_passes (lacking es room) lack_order (le-ltb _ _ enough.ids_left, (slices, (le-ltb _ _ enough.rows_lent, tt)))

    -- with nothing lacking, a drawing that the check passes is lowered
    pub lower_good : check_of es ≡ passed → lower_of es room ≡ good_lowering (layout_of es) (room.next + length (slots es)) (length (rules_of es))
    unfolding lower_of answered
    lower_good c = rw (c, none_lacking) refl

  -- a drawing that the check refuses is refused alike
  pub lower_refused : (f : Fault) (i : ℕ) → check_of es ≡ refused f i → lower_of es room ≡ Err (refusal (number_of f) i)
  unfolding lower_of answered
  lower_refused f i c = rw c refl
