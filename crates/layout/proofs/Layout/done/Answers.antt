-- `layout::Layout::done` meets its contract: it asks the tests of the definition in turn. Assumes nothing.
use mathlib.Core.Path.{◌≡◌, refl, sym, ◌∙◌}
use mathlib.Core.List.{[], ◌∷◌}
use native.Mathlib.Omega.{arith}
use borrow.Author.Tests.{eq-eqb}
use Rattle.std.specs.Prelude.{Some, None}
use Rattle.refusal.proofs.Once.{answered_passed}
use Rattle.layout.specs.declared.Stage.{Stage}
use Rattle.layout.specs.declared.Stage.TheVariants.{Points, Circles, Arcs, Done}
use Rattle.layout.specs.Slots.{stage_number}
use Rattle.layout.specs.Refusals.{reason_number, cannot_be, wrong_stage}
use Rattle.layout.specs.Push.{done_of, stage_after}
use Rattle.layout.specs.Steps.{next_stage}
use Rattle.layout.proofs.Laws.{done_first, done_passes}
use Rattle.layout.proofs.Layout.done.Goals as goal

-- the last stage is the one that has no next
goes_on : (s t : Stage) → next_stage s ≡ Some t → (t ≡ stage_after s) × (stage_number s ≡ 3 → ⊥)
goes_on Points t e = (cc, λ n. omega arith)
goes_on Circles t e = (cc, λ n. omega arith)
goes_on Arcs t e = (cc, λ n. omega arith)
goes_on Done t e = absurd cc

ends : (s : Stage) → next_stage s ≡ None → stage_number s ≡ 3
ends Points e = absurd cc
ends Circles e = absurd cc
ends Arcs e = absurd cc
ends Done e = refl

pub returns-then-is_impossible : goal.returns-then-is_impossible
unfolding done_of
returns-then-is_impossible c = rw c.into.ensures (done_first _ [] cannot_be _ refl tt (sym c.is_impossible.ensures ∙ c.if-is_impossible.true))

pub returns-in-None : goal.returns-in-None
unfolding done_of
returns-in-None c =
    let last : stage_number c.args.self.stage ≡ 3 = ends _ (sym c.next.ensures ∙ c.in-None.is) in
    rw c.into-in-None.ensures (done_first _ (cannot_be ∷ []) wrong_stage _ refl (sym c.is_impossible.ensures ∙ c.if-is_impossible.false, tt) (eq-eqb _ _ last))

pub returns-in-Some : goal.returns-in-Some
unfolding done_of
returns-in-Some c =
    let on = goes_on c.args.self.stage _ (sym c.next.ensures ∙ c.in-Some.is) in
    rw on.0 (sym (answered_passed reason_number _ _ _ (done_passes _ (sym c.is_impossible.ensures ∙ c.if-is_impossible.false) on.1)))
