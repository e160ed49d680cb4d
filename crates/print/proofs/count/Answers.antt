-- `print::count` meets its contract: the powers of ten around a number tell how many digits it has. Assumes nothing.
use mathlib.Core.Path.{sym}
use native.Mathlib.Omega.{arith}
use Rattle.print.specs.Print.{most_digits}
use Rattle.print.proofs.Laws.{width_one, width_log}
use Rattle.print.proofs.count.Goals as goal

pub returns-then-n-eq0 : goal.returns-then-n-eq0
returns-then-n-eq0 c = sym (width_one 19 _ (omega arith))

pub returns-else-n-eq0 : goal.returns-else-n-eq0
returns-else-n-eq0 c = let log = c.ilog10.ensures in sym (width_log most_digits _ _ log.bound log.power_le log.next_power_gt)
