-- `decimal::decimal` meets its contract: within the limits the number has its value, which is no NaN, and past them it is not carried.
-- Assumes nothing.
use Rattle.decimal.specs.Decimal.{carried}
use Rattle.decimal.proofs.Laws.{value_number}
use Rattle.decimal.proofs.decimal.Goals as goal

pub float_to_bits-result : goal.float_to_bits-result
unfolding carried
float_to_bits-result c = rw c.decimal_f64.ensures.rounded (value_number _ _ _)

pub returns-then-within : goal.returns-then-within
unfolding carried
returns-then-within c = rw (← c.within.ensures, c.if-within.true, c.decimal_f64.ensures.rounded)

pub returns-else-within : goal.returns-else-within
unfolding carried
returns-else-within c = rw (← c.within.ensures, c.if-within.false)
