-- `number::parse_number` meets its contract: it goes by where reading stands. Assumes nothing.
use mathlib.Core.Path.{◌∙◌}
use Rattle.text.proofs.Laws.{handed}
use Rattle.number.specs.Number.{number_on}
use Rattle.number.proofs.parse_number.Goals as goal

pub returns-in_default : goal.returns-in_default
unfolding number_on
returns-in_default c = c.no_number.ensures ∙ handed c.args.stand _ _ c.in_default.not-At

pub returns : goal.returns
unfolding number_on
returns c = rw c.in-At.is c.number_at.ensures
