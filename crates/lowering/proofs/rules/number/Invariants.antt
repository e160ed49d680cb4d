-- What the loop keeps: i ids are put.
use mathlib.Core.Path.{◌≡◌}
use lib.Seq.{paste}
use Rattle.layout.specs.Push.{onward}
use Rattle.lowering.proofs.rules.number.Given as goal

abbrev pub invariant-loop-i : goal.invariant-loop-i
invariant-loop-i l = l.out ≡ paste l.initial.out l.at (onward l.next l.count) l.i
