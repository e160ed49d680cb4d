-- `layout::Layout::arc_ids` meets its contract: where the arc is found, its ids are looked up right after the points, and else the place's refusal is the answer's.
-- Assumes nothing.
use mathlib.Core.Path.{◌∙◌}
use native.Mathlib.Omega.{arith}
use Rattle.layout.specs.Look.{arc_ids}
use Rattle.layout.proofs.Placed.{as_refused, placed, as_found, passed_on}
use Rattle.layout.proofs.Laws.{found}
use Rattle.layout.proofs.Layout.arc_ids.Goals as goal

pub overflow_mul-self : goal.overflow_mul-self
overflow_mul-self c = let known = found _ _ _ _ (placed _ _ _ c.look_place.ensures _ c.in_ok-look_place.was).1 in omega (arith, known)

pub overflow_mul-i : goal.overflow_mul-i
overflow_mul-i c = let known = found _ _ _ _ (placed _ _ _ c.look_place.ensures _ c.in_ok-look_place.was).1 in omega (arith, known)

pub overflow_add-self : goal.overflow_add-self
overflow_add-self c = let known = found _ _ _ _ (placed _ _ _ c.look_place.ensures _ c.in_ok-look_place.was).1 in omega (arith, known)

pub read-requires : goal.read-requires
read-requires c = let known = found _ _ _ _ (placed _ _ _ c.look_place.ensures _ c.in_ok-look_place.was).1 in omega (arith, known)

pub returns-in_err-look_place : goal.returns-in_err-look_place
unfolding arc_ids
returns-in_err-look_place c = passed_on c.from_residual.result _ c.from_residual.ensures.1 ∙ as_refused _ _ _ c.look_place.ensures _ _ _ c.in_err-look_place.was

pub returns : goal.returns
unfolding arc_ids
returns c = as_found _ _ _ c.look_place.ensures _ c.in_ok-look_place.was _ _ _ (λ at. rw c.read.ensures)
