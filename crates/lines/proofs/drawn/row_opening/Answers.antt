-- `lines::drawn::row_opening` meets its contract: each turn adds one id more. Assumes nothing.
use mathlib.Core.Path.{◌≡◌}
use native.Mathlib.Omega.{arith}
use Rattle.row.specs.Row.{ids_in}
use Rattle.rail.specs.Words.{spaced}
use Rattle.rail.proofs.Added.{added, behind_none, behind_more}
use Rattle.ground.proofs.UpTo.{up_to_more}
use Rattle.rail.proofs.Spaced.{spaced_append}
use Rattle.lines.proofs.drawn.row_opening.Goals as goal

pub loop-q-init : goal.loop-q-init
unfolding spaced
loop-q-init c = behind_none

pub loop-q-preserved : goal.loop-q-preserved
loop-q-preserved c = rw (up_to_more, spaced_append) (behind_more c.loop-q.invariant (added c.decimal_word.ensures))

pub returns : goal.returns
returns c = let e : c.loop-q.q ≡ ids_in c.args.r = omega (arith, c.ids_in-q-end.ensures) in rw e at (c.loop-q.invariant _ _ (added c.decimal.ensures))
