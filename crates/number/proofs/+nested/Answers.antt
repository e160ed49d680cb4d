-- `number::nested` meets its contract: it calls itself with `left` less by one, which is the measure (`Depth` has its ways). Assumes nothing.
use borrow.Author.Tests.{eq-eqb, ne_eqb}
use mathlib.Core.Path.{◌∙◌}
use Rattle.text.specs.Text.{word_on}
use Rattle.text.proofs.Laws.{handed}
use Rattle.number.proofs.Depth.{opened}
use Rattle.number.proofs.+nested.Goals as goal

pub returns-in_default : goal.returns-in_default
unfolding word_on
returns-in_default t c = rw (opened, ← c.word.ensures) (c.number_at.ensures ∙ handed c.word.result _ _ c.in_default.not-At)

pub returns-then-left-eq0 : goal.returns-then-left-eq0
unfolding word_on
returns-then-left-eq0 t c = rw (opened, ← c.word.ensures, c.in-At.is, eq-eqb _ _ c.if-left-eq0.true) c.refused.ensures

pub returns : goal.returns
unfolding word_on
returns t c = rw (opened, ← c.word.ensures, c.in-At.is, ne_eqb _ _ c.if-left-eq0.false, ← c.nested-inner.ensures) c.close_root.ensures
