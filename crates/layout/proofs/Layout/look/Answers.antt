-- `layout::Layout::look` meets its contract: what stands at the place that is found is handed out, and the place's refusal is the answer's. Assumes nothing.
use mathlib.Core.Path.{◌∙◌}
use Rattle.layout.specs.Look.{looked}
use Rattle.layout.proofs.Placed.{as_refused, as_found, passed_on}
use Rattle.layout.proofs.Laws.{look_inside}
use Rattle.layout.proofs.Layout.look.Goals as goal

pub returns-in_err-at : goal.returns-in_err-at
unfolding looked
returns-in_err-at g c =
    rw (← c.kind.ensures) (passed_on c.from_residual.result _ c.from_residual.ensures.1 ∙ as_refused _ _ _ c.look_place.ensures _ _ _ c.in_err-at.was)

pub read-requires : goal.read-requires
read-requires g c = rw (← c.kind.ensures) (look_inside _ _ _ _ _ c.look_place.ensures _ c.in_ok-at.was)

pub returns : goal.returns
unfolding looked
returns g c = rw (← c.kind.ensures) (as_found _ _ _ c.look_place.ensures _ c.in_ok-at.was _ _ _ (λ at. rw (c.read.ensures, at)))
