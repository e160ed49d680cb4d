-- `print::fill` meets its contract: each turn puts the last of the digits that are due before those that are there. Assumes nothing.
use mathlib.Core.Path.{◌≡◌, sym, ◌∙◌}
use native.Mathlib.Omega.{arith}
use Rattle.print.specs.Print.{last_digits}
use Rattle.print.proofs.Laws.{digits_turn}
use Rattle.print.proofs.fill.Goals as goal

pub loop-i-preserved : goal.loop-i-preserved
loop-i-preserved c = let l = c.loop-i in rw c.sign.ensures (l.invariant ∙ digits_turn _ _ l.i l.place (omega arith) (omega arith))

pub returns : goal.returns
unfolding last_digits
returns c =
    let e : c.loop-i.i ≡ 0 = omega arith in
    sym (rw e at c.loop-i.invariant)
