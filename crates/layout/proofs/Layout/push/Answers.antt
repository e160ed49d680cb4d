-- `layout::Layout::push` meets its contract: where the place is refused nothing is changed, and where it is found the ids and the components are stored there.
-- Assumes nothing.
use mathlib.Core.Path.{◌≡◌, sym, ◌∙◌, ap}
use native.Mathlib.Omega.{arith}
use Rattle.layout.specs.Slots.{kind_of, size_of}
use Rattle.layout.proofs.Placed.{placed, passed_on}
use Rattle.layout.proofs.Laws.{fits, push_refused, push_filled}
use Rattle.layout.proofs.Runs.{components_length}
use Rattle.layout.proofs.Layout.push.Goals as goal

pub returns-in_err-at : goal.returns-in_err-at
returns-in_err-at g c =
    let kind : kind_of (g.S.Shape.figure c.args.shape) ≡ c.kind-kind.result = g.met.S.Shape.is_of_kind c.args.shape ∙ sym c.kind-kind.ensures in
    rw (passed_on c.from_residual.result _ c.from_residual.ensures.1, kind) (push_refused _ _ _ _ c.push_place.ensures _ c.in_err-at.was)

pub store-requires : goal.store-requires
store-requires g c =
    let here = placed _ _ _ c.push_place.ensures _ c.in_ok-at.was in
    let known = fits _ _ _ _ _ here.1 in
    let size = c.size-size.ensures.0 in
    (omega (arith, known, here.0, size), omega (arith, known, here.0, size), omega (arith, known, here.0, size), size ∙ ap size_of c.kind-kind.ensures)

pub with_one-requires : goal.with_one-requires
with_one-requires g c = (fits _ _ _ _ _ (placed _ _ _ c.push_place.ensures _ c.in_ok-at.was).1).counts

pub overflow_add-result : goal.overflow_add-result
overflow_add-result g c = let known = fits _ _ _ _ _ (placed _ _ _ c.push_place.ensures _ c.in_ok-at.was).1 in omega (arith, known, c.size-size.ensures.0)

pub returns : goal.returns
returns g c =
    let kind : kind_of (g.S.Shape.figure c.args.shape) ≡ c.kind-kind.result = g.met.S.Shape.is_of_kind c.args.shape ∙ sym c.kind-kind.ensures in
    let size = c.size-size.ensures.0 ∙ sym (components_length (g.S.Shape.figure c.args.shape) ∙ ap size_of kind) in
    rw kind (push_filled _ _ _ _ c.push_place.ensures _ _ c.in_ok-at.was size _ _ _ c.with_one.ensures c.store.ensures.ids c.store.ensures.values)
