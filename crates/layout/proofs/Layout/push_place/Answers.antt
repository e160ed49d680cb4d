-- `layout::Layout::push_place` meets its contract: it asks the tests of the definition in turn. Assumes nothing.
use mathlib.Core.Path.{◌≡◌, refl, sym, ap, ◌∙◌}
use mathlib.Core.Bool.{false}
use Rattle.std.specs.Prelude.{Ok}
use mathlib.Core.List.{[], ◌∷◌}
use native.Mathlib.Omega.{arith}
use borrow.Author.Tests.{le-leb, lt-leb, lt-ltb, le-ltb}
use Rattle.refusal.proofs.Once.{answered_passed}
use Rattle.layout.specs.Refusals.{reason_number, cannot_be, wrong_stage, full, short, few_ids, bars_push}
use Rattle.layout.proofs.Stages.{another}
use Rattle.layout.proofs.Laws.{small, push_first, push_passes}
use Rattle.layout.proofs.Layout.push_place.Goals as goal

pub returns-then-is_impossible : goal.returns-then-is_impossible
returns-then-is_impossible c = rw c.into.ensures (push_first _ _ _ _ _ [] cannot_be _ refl tt (sym c.is_impossible.ensures ∙ c.if-is_impossible.true))

pub returns-then-ne : goal.returns-then-ne
returns-then-ne c =
    let can = sym c.is_impossible.ensures ∙ c.if-is_impossible.false in
    rw c.into-then-ne.ensures (push_first _ _ _ _ _ (cannot_be ∷ []) wrong_stage _ refl (can, tt) (another _ _ _ _ c.due.ensures c.ne.ensures ∙ c.if-ne.true))

pub returns-then-count-ge-MOST : goal.returns-then-count-ge-MOST
returns-then-count-ge-MOST c =
    let can = sym c.is_impossible.ensures ∙ c.if-is_impossible.false in
    rw c.into-then-count-ge-MOST.ensures (push_first _ _ _ _ _ (cannot_be ∷ wrong_stage ∷ []) full _ refl (can, (another _ _ _ _ c.due.ensures c.ne.ensures ∙ c.if-ne.false, tt)) (omega (arith, le-leb)))

pub slots-at-requires : goal.slots-at-requires
slots-at-requires c = small _ (sym c.is_impossible.ensures ∙ c.if-is_impossible.false)

pub returns-then-ids-end : goal.returns-then-ids-end
returns-then-ids-end c =
    let can = sym c.is_impossible.ensures ∙ c.if-is_impossible.false in
    rw c.into-then-ids-end.ensures (push_first _ _ _ _ _ (cannot_be ∷ wrong_stage ∷ full ∷ []) short _ refl
    (can, (another _ _ _ _ c.due.ensures c.ne.ensures ∙ c.if-ne.false, (omega (arith, lt-leb), tt))) (rw (← c.size.ensures.0, ← c.slots-at.ensures.0) c.if-ids-end.true))

pub returns-then-next-size : goal.returns-then-next-size
returns-then-next-size c =
    let can = sym c.is_impossible.ensures ∙ c.if-is_impossible.false in
    let long : bars_push c.args.k c.args.self c.args.next c.args.ids c.args.values short ≡ false = rw (← c.size.ensures.0, ← c.slots-at.ensures.0) c.if-ids-end.false in
    rw c.into-then-next-size.ensures (push_first _ _ _ _ _ (cannot_be ∷ wrong_stage ∷ full ∷ short ∷ []) few_ids _ refl
    (can, (another _ _ _ _ c.due.ensures c.ne.ensures ∙ c.if-ne.false, (omega (arith, lt-leb), (long, tt)))) (omega (arith, lt-ltb)))

pub returns : goal.returns
returns c =
    let can = sym c.is_impossible.ensures ∙ c.if-is_impossible.false in
    let long : bars_push c.args.k c.args.self c.args.next c.args.ids c.args.values short ≡ false = rw (← c.size.ensures.0, ← c.slots-at.ensures.0) c.if-ids-end.false in
    ap Ok (omega arith)
    ∙ sym (answered_passed reason_number _ _ _ (push_passes _ _ _ _ _ (can, (another _ _ _ _ c.due.ensures c.ne.ensures ∙ c.if-ne.false, (omega (arith, lt-leb), (long, (omega (arith, le-ltb), tt)))))))
