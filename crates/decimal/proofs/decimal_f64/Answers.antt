-- `decimal::decimal_f64` meets its contract: it puts the sign to what the one operation gives. Assumes nothing.
use mathlib.Core.Path.{sym, ap, ◌∙◌}
use mathlib.Core.Bool.{true}
use lib.Ieee.{neg}
use Rattle.decimal.proofs.Laws.{operated_sign, made}
use Rattle.decimal.proofs.decimal_f64.Goals as goal

pub returns-then-negative : goal.returns-then-negative
returns-then-negative c = made _ _ _ _ c.requires (rw c.if-negative.true (ap neg c.operation-v.ensures ∙ sym (operated_sign _ _ true)))

pub returns-else-negative : goal.returns-else-negative
returns-else-negative c = made _ _ _ _ c.requires (rw c.if-negative.false c.operation-v.ensures)
