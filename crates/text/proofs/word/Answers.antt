-- `text::word` meets its contract: it goes by where reading stands. Assumes nothing.
use Rattle.text.specs.Text.{word_on}
use Rattle.text.proofs.Laws.{handed}
use Rattle.text.proofs.word.Goals as goal

pub returns-in_default : goal.returns-in_default
unfolding word_on
returns-in_default c = handed c.args.stand _ _ c.in_default.not-At

pub returns : goal.returns
unfolding word_on
returns c = rw c.in-At.is c.word_at.ensures
