-- `row::formed::ids_of` meets its contract: the ids of its four label places. Assumes nothing.
use native.Mathlib.Omega.{arith}
use Rattle.row.specs.Formed.{ids_of}
use Rattle.row.proofs.formed.ids_of.Goals as goal

pub returns : goal.returns
unfolding ids_of
returns c = omega arith
