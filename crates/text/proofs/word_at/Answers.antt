-- `text::word_at` meets its contract: whether the text goes on with `w` at `at` is whether it goes on at `p` with what is left of `w` from its byte on.
-- Assumes nothing.
use borrow.Author.Rules.{rules}
use mathlib.Core.Path.{refl, ap, ◌∙◌}
use native.Mathlib.Omega.{arith}
use Rattle.text.specs.declared.Stand.TheVariants.{At}
use Rattle.text.specs.Text.{word_at}
use Rattle.text.proofs.Laws.{starts_more, starts_stop, starts_short, starts_end}
use Rattle.text.proofs.word_at.Goals as goal

pub loop-b-init : goal.loop-b-init
unfolding word_at
loop-b-init c = (refl, omega arith)

pub returns-then-text-p : goal.returns-then-text-p
unfolding word_at
returns-then-text-p c = let l = c.loop-b in rw (l.invariant.0 ∙ starts_short _ _ l.b-index l.p (search rules) (search rules))

pub returns-then-text-p-2 : goal.returns-then-text-p-2
unfolding word_at
returns-then-text-p-2 c = let l = c.loop-b in rw (l.invariant.0 ∙ starts_stop _ _ l.b-index l.p (search rules) (search rules) c.if-text-p-2.true)

pub loop-b-preserved : goal.loop-b-preserved
unfolding word_at
loop-b-preserved c = let l = c.loop-b in (l.invariant.0 ∙ starts_more _ _ l.b-index l.p (search rules) (search rules) c.if-text-p-2.false, omega arith)

pub returns : goal.returns
unfolding word_at
returns c = let l = c.loop-b in rw (l.invariant.0 ∙ starts_end _ _ l.b-index l.p c.loop-b-test.false) (ap At (omega arith))
