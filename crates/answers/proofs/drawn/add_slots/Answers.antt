-- `answers::drawn::add_slots` meets its contract: each turn adds one slot's line more. Assumes nothing.
use mathlib.Core.Path.{◌≡◌, ◌∙◌}
use mathlib.Core.Logic.{inl, inr}
use lib.ListN.{length}
use borrow.Author.Rules.{rules}
use Rattle.rail.proofs.Added.{added}
use Rattle.answers.specs.Steps.{slots_by}
use Rattle.answers.proofs.Slots.{none_passed, one_passed, all_passed}
use Rattle.answers.proofs.drawn.add_slots.Goals as goal

pub loop-id-init : goal.loop-id-init
loop-id-init c =
    let a : c.into_iter-id-iterator.result.a.rest.now ≡ c.args.ids.now = search rules in
    let b : c.into_iter-id-iterator.result.b.rest.now ≡ c.args.values.now = search rules in
    rw (a, b) (none_passed _ _ c.requires)

pub loop-id-preserved : goal.loop-id-preserved
loop-id-preserved c =
    let s = c.in-Some.ensures.steps in
    one_passed _ _ (rw (s.0, s.1) at c.loop-id.invariant) (added c.slot_line.ensures)

pub returns : goal.returns
unfolding slots_by
returns c =
    let p = c.loop-id.invariant in
    let e : length c.loop-id.id-iterator.a.rest.now ≡ 0 = elim c.in-None.ensures.steps [ inl x ↦ x.1.0 | inr x ↦ p.even ∙ x.1.0 ] in
    all_passed p e _ _ (added c.lowered_line.ensures)
