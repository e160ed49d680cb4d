-- `decimal::operation` meets its contract: it does the one operation on m and on the power of ten. Assumes nothing.
use lib.Ieee.{in_float}
use Rattle.decimal.specs.Decimal.{operated}
use Rattle.decimal.proofs.operation.Goals as goal

pub returns-in-Times : goal.returns-in-Times
unfolding in_float operated
returns-in-Times c = rw (c.ten_to-p.ensures, c.power_of.ensures, c.in-Times.is)

pub returns-in-Over : goal.returns-in-Over
unfolding in_float operated
returns-in-Over c = rw (c.ten_to-p.ensures, c.power_of.ensures, c.in-Over.is)
