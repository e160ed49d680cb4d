-- What the loop keeps.
use Prim.Native.Nat.{◌*◌}
use Rattle.kinds.specs.Kinds.{label_places}
use Rattle.names.specs.Labels.{drawn}
use Rattle.names.specs.Steps.{NamedUpTo}
use Rattle.names.proofs.name_all.Given as goal

abbrev pub invariant-loop-i : goal.invariant-loop-i
invariant-loop-i l = NamedUpTo (drawn l.page.text.now l.page.records.now) (l.i * label_places) l.names
