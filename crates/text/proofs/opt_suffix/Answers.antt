-- `text::opt_suffix` meets its contract: it is its definition, call by call. Assumes nothing.
use Rattle.text.specs.Text.{suffixed_on}
use Rattle.text.proofs.opt_suffix.Goals as goal

pub returns : goal.returns
unfolding suffixed_on
returns c = rw (← c.byte-dot.ensures, ← c.parse_label-second.ensures) c.join.ensures
