-- What the loop keeps.
use mathlib.Core.Path.{◌≡◌}
use mathlib.Core.Bool.{true}
use Rattle.refusal.specs.First.{all_below}
use Rattle.row.specs.Row.{row_no}
use Rattle.row.specs.Formed.{row_test}
use Rattle.row.proofs.formed.rows_formed.Given as goal

abbrev pub invariant-loop-i : goal.invariant-loop-i
invariant-loop-i l = all_below l.i (λ j. row_test (row_no l.rows j)) ≡ true
