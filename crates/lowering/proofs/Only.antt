-- The promise of `lower`, as its source states it, determines the answer and what the slices and the row buffer hold at last: each is an equation. Assumes nothing.
use mathlib.Core.List.{List}
use Prim.Native.Nat.{ℕ}
use lib.Ieee.{Float}
use borrow.Fn.Kinds.{ended_of}
use Rattle.ground.proofs.Determined.{Settled, by_equation}
use Rattle.lowering.proofs.lower.Kinds as lower_kinds
use Rattle.lowering.proofs.lower.Reads as lower

-- what the ids, the values and the rows are at last, the last three of six parameters
abbrev Last : Type 0
Last = Unit {0} × (Unit {0} × (Unit {0} × (List ℕ × (List Float × (List ℕ × Unit {0})))))

abbrev last : List ℕ → List Float → List ℕ → Last
last ids values rows = (tt, (tt, (tt, (ids, (values, (rows, tt))))))

pub lower_only : Settled (ended_of 5 lower_kinds.ps lower_kinds.r) lower.Post
lower_only κs a x y v w p q =
    (by_equation p.answer q.answer, λ j. last (by_equation p.ids_are q.ids_are j) (by_equation p.values_are q.values_are j) (by_equation p.rows_are q.rows_are j))
