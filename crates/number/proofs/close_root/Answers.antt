-- `number::close_root` meets its contract: it goes by whether the bracket is closed. Assumes nothing.
use mathlib.Core.Path.{◌∙◌}
use Rattle.text.proofs.Laws.{handed}
use Rattle.number.specs.Number.{closed}
use Rattle.number.proofs.close_root.Goals as goal

pub returns-in_default : goal.returns-in_default
unfolding closed
returns-in_default c = let b = c.byte-closed in rw (← b.ensures) (c.no_number.ensures ∙ handed b.result _ _ c.in_default.not-At)

pub returns : goal.returns
unfolding closed
returns c = rw (← c.byte-closed.ensures, c.in-At.is, c.root_bits.ensures.function)
