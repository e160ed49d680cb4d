-- `forms::keywords::keyword_forms` meets its contract: the first form of the order that reads is the first of what is left of it. Assumes nothing.
use mathlib.Core.Path.{sym, ◌∙◌}
use Rattle.forms.specs.Forms.{keyword_kinds}
use Rattle.forms.proofs.Begin.{skip}
use Rattle.text.proofs.Laws.{taken}
use Rattle.forms.proofs.Order.{first_here, first_none, long_left}
use Rattle.forms.proofs.keywords.keyword_forms.Goals as goal

pub loop-kind-init : goal.loop-kind-init
loop-kind-init c = let k = c.kinds_from-kind-items.ensures in rw k.rest (skip _ _ k.skipped keyword_kinds (rw (← c.byte_at.ensures) k.none))

pub try_keyword-line-requires : goal.try_keyword-line-requires
try_keyword-line-requires c = long_left c.kinds_from-kind-items.ensures c.loop-kind.kind-index c.loop-kind-test.true

pub returns-in_default : goal.returns-in_default
returns-in_default c = let l = c.loop-kind in let k = c.try_keyword-line in rw (l.invariant ∙ first_here _ _ _ l.kind-index c.loop-kind-test.true, ← k.ensures) (taken k.result.then _ _ c.in_default.not-Nothing)

pub loop-kind-preserved : goal.loop-kind-preserved
loop-kind-preserved c = let l = c.loop-kind in l.invariant ∙ rw (first_here _ _ _ l.kind-index c.loop-kind-test.true, ← c.try_keyword-line.ensures, c.in-Nothing.is)

pub returns : goal.returns
returns c = rw c.no_line.ensures (sym (c.loop-kind.invariant ∙ first_none _ _ _ _ c.loop-kind-test.false))
