-- `layout::Layout::look_place` meets its contract: it asks the tests of the definition in turn. Assumes nothing.
use mathlib.Core.Path.{refl, sym, ◌∙◌}
use mathlib.Core.List.{[], ◌∷◌}
use native.Mathlib.Omega.{arith}
use borrow.Author.Tests.{le-leb, lt-ltb, le-ltb}
use Rattle.refusal.proofs.Once.{answered_passed}
use Rattle.layout.specs.Refusals.{reason_number, cannot_be, short, no_shape}
use Rattle.layout.proofs.Laws.{count_small, small, look_first, look_passes}
use Rattle.layout.proofs.Layout.look_place.Goals as goal

pub returns-then-is_impossible : goal.returns-then-is_impossible
returns-then-is_impossible c = rw c.into.ensures (look_first _ _ _ _ [] cannot_be _ refl tt (sym c.is_impossible.ensures ∙ c.if-is_impossible.true))

pub slots-requires : goal.slots-requires
slots-requires c = small _ (sym c.is_impossible.ensures ∙ c.if-is_impossible.false)

pub returns-then-len-slots : goal.returns-then-len-slots
returns-then-len-slots c =
    let can = sym c.is_impossible.ensures ∙ c.if-is_impossible.false in
    rw c.into-then-len-slots.ensures (look_first _ _ _ _ (cannot_be ∷ []) short _ refl (can, tt) (omega (arith, lt-ltb)))

pub returns-then-count-i : goal.returns-then-count-i
returns-then-count-i c =
    let can = sym c.is_impossible.ensures ∙ c.if-is_impossible.false in
    rw c.into-then-count-i.ensures (look_first _ _ _ _ (cannot_be ∷ short ∷ []) no_shape _ refl (can, (omega (arith, le-ltb), tt)) (omega (arith, le-leb)))

pub slot-requires : goal.slot-requires
slot-requires c = let s = small c.args.self (sym c.is_impossible.ensures ∙ c.if-is_impossible.false) in (s, omega (arith, count_small c.args.k c.args.self s))

pub returns : goal.returns
returns c =
    let can = sym c.is_impossible.ensures ∙ c.if-is_impossible.false in
    rw c.slot.ensures (sym (answered_passed reason_number _ _ _ (look_passes _ _ _ _ can (omega arith) (omega arith))))
