-- `text::ws` meets its contract: it goes by where reading stands. Assumes nothing.
use mathlib.Core.Path.{ap}
use Rattle.text.specs.declared.Stand.TheVariants.{At}
use Rattle.text.specs.Text.{is_space, ws_on}
use Rattle.text.proofs.Laws.{handed}
use Rattle.text.proofs.ws.Goals as goal

pub returns-in_default : goal.returns-in_default
unfolding ws_on
returns-in_default c = handed c.args.stand _ _ c.in_default.not-At

pub returns : goal.returns
unfolding ws_on
returns c = rw c.in-At.is (ap At (c.run_to.ensures is_space (λ b r k. k)))
