-- `lowering::lower` meets its contract: by what the check tells, and by what is lacking. Assumes nothing.
use Rattle.std.proofs.lemmas.Result.{err_from_is_err_and}
use mathlib.Core.Path.{sym, ap, ◌∙◌}
use Rattle.lowering.specs.Steps.{refused_by}
use native.Mathlib.Omega.{arith}
use Rattle.lowering.proofs.answer.Ends.{refused_ends, few_counted, lacking_ends, enough}
use Rattle.lowering.proofs.answer.Handed.{told, fill_asks, fill_gives}
use Rattle.lowering.proofs.lower.Goals as goal

pub slots_of-slots-requires : goal.slots_of-slots-requires
slots_of-slots-requires c = few_counted _ _ (told _ _ _ _ c.resolve-resolved.ensures c.judge.ensures) c.in_ok-found.was

pub returns-in_err-enough : goal.returns-in_err-enough
returns-in_err-enough c =
    let lack = ap refused_by c.in_err-enough.was in
    let (why, is, same) = err_from_is_err_and c.from_residual-in_err-enough.result c.from_residual-in_err-enough.ensures.1 in
    rw (is, same) (lacking_ends _ _ (told _ _ _ _ c.resolve-resolved.ensures c.judge.ensures) c.in_ok-found.was _ _ _ _ c.slots_of-slots.ensures c.enough.ensures _ lack)

pub invariant_of-sheet : goal.invariant_of-sheet
invariant_of-sheet c =
    let a = c.args in
    let asked = fill_asks _ _ _ _ c.resolve-resolved.ensures c.judge.ensures c.in_ok-found.was a.next a.ids.now a.values.now a.rows.now c.slots_of-slots.ensures c.enough.ensures (ap refused_by c.in_ok-enough.was) in
    record { counted = asked.0 }

pub fill-layout-requires : goal.fill-layout-requires
fill-layout-requires c =
    let a = c.args in
    let asked = fill_asks _ _ _ _ c.resolve-resolved.ensures c.judge.ensures c.in_ok-found.was a.next a.ids.now a.values.now a.rows.now c.slots_of-slots.ensures c.enough.ensures (ap refused_by c.in_ok-enough.was) in
    asked.1

pub overflow_add-result : goal.overflow_add-result
overflow_add-result c =
    let a = c.args in
    let judged = told _ _ _ _ c.resolve-resolved.ensures c.judge.ensures in
    let e = enough _ _ judged c.in_ok-found.was _ a.ids.now a.values.now a.rows.now c.slots_of-slots.ensures c.enough.ensures (ap refused_by c.in_ok-enough.was) in
    omega (arith, e.ids_left)

pub returns : goal.returns
returns c =
    fill_gives _ _ _ _ c.resolve-resolved.ensures c.judge.ensures c.in_ok-found.was _ _ _ _ c.slots_of-slots.ensures c.enough.ensures (ap refused_by c.in_ok-enough.was) _ _ _ _
    c.fill-layout.ensures

pub returns-in_err-found : goal.returns-in_err-found
returns-in_err-found c =
    let (why, is, same) = err_from_is_err_and c.from_residual.result c.from_residual.ensures.1 in
    rw (is, same) (refused_ends _ _ _ _ _ _ (sym (told _ _ _ _ c.resolve-resolved.ensures c.judge.ensures) ∙ c.in_err-found.was))
