-- `record::formed::laid_out` meets its contract: a list is laid out where nothing is told of it. Assumes nothing.
use Rattle.record.specs.Laid.{laid_out}
use Rattle.record.proofs.formed.laid_out.Goals as goal

pub returns : goal.returns
unfolding laid_out
returns c = rw (← c.judged.ensures) c.is_ok.ensures.value
