-- What the loop keeps, and what falls.
use Prim.Native.Nat.{◌-◌}
use Rattle.names.specs.Labels.{drawn}
use Rattle.names.proofs.Links.{Walking}
use Rattle.names.proofs.chains.Chains.walk.Given as goal

abbrev pub invariant-loop-i : goal.invariant-loop-i
invariant-loop-i l = Walking (drawn l.page.text.now l.page.records.now) l.label l.start l.i

abbrev pub decreases-loop-i : goal.decreases-loop-i
decreases-loop-i l = l.n - l.i
