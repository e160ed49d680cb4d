-- `ask::label` meets its contract: the part from a start to an end begins that many places behind the text's own. Assumes nothing.
use mathlib.Core.Path.{◌≡◌, ap, ◌∙◌}
use Prim.Native.Nat.{ℕ, ◌+◌, ◌-◌}
use native.Mathlib.Omega.{arith}
use Rattle.record.specs.Entry.{part}
use Rattle.ask.proofs.label.Goals as goal

pub overflow_add-end : goal.overflow_add-end
overflow_add-end c = omega (arith, c.part_of-v.ensures.inside)

pub slice_bounds-result-end : goal.slice_bounds-result-end
slice_bounds-result-end c = omega (arith, c.part_of-v.ensures.inside)

pub returns : goal.returns
returns c =
    let p = c.part_of-v in let v = p.result in
    let e : v.start + v.len - v.start ≡ v.len = omega arith in
    let text = c.args.text.now in record { is = ap (λ (n : ℕ). part text v.start n) e ∙ p.ensures.is; there = rw (← p.ensures.starts) }
