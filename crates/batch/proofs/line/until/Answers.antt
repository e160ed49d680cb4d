-- `batch::line::until` meets its contract: the place of the first such byte, or the end. Assumes nothing.
use Rattle.std.proofs.Common.{sym, ◌∙◌}
use Rattle.batch.proofs.Ends.{until_found, until_none}
use Rattle.batch.proofs.line.until.Goals as goal

pub returns-in-Some : goal.returns-in-Some
returns-in-Some c = until_found _ _ _ _ (sym c.ahead.ensures ∙ c.in-Some.is)

pub returns-in-None : goal.returns-in-None
returns-in-None c = rw c.max.ensures (until_none _ _ _ (sym c.ahead.ensures ∙ c.in-None.is))
