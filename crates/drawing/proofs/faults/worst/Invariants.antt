-- What the loop keeps.
use mathlib.Core.Path.{◌≡◌}
use lib.ListN.{length}
use Rattle.refusal.specs.Worst.{rank_at, worst}
use Rattle.drawing.specs.Faults.{behind30}
use Rattle.drawing.specs.Ranks.{found_as}
use Rattle.drawing.specs.Numbers.{lent_numbers, test_by}
use Rattle.drawing.proofs.faults.worst.Given as goal

abbrev pub invariant-loop-i : goal.invariant-loop-i
invariant-loop-i l = found_as l.told ≡ worst (length behind30) (rank_at behind30 (test_by (lent_numbers l.records l.names l.guesses))) l.i
