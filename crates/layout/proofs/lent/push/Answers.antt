-- `layout::lent::push` meets its contract: it is the push at the counter's number, and the counter takes the next id that the answer says, which is the state's.
-- Assumes nothing.
use mathlib.Core.Path.{ap}
use Prim.Native.Nat.{ℕ}
use Rattle.layout.proofs.Laws.{good_next, refused_next}
use Rattle.layout.proofs.Placed.{passed_on}
use Rattle.layout.proofs.lent.push.Goals as goal

pub returns-in_err-pushed : goal.returns-in_err-pushed
returns-in_err-pushed g c =
    let e = passed_on c.from_residual.result _ c.from_residual.ensures.1 in
    let pushed = rw c.in_err-pushed.was at c.push.ensures in
    rw e (record { push = pushed; counter_is = ap (λ (n : ℕ). record { next = n }) (refused_next _ _ _ _ _ _ pushed) })

pub returns : goal.returns
returns g c =
    let pushed = rw c.in_ok-pushed.was at c.push.ensures in
    record { push = pushed; counter_is = ap (λ (n : ℕ). record { next = n }) (good_next _ _ _ _ _ _ pushed) }
