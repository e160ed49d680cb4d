-- `number::scale_of` meets its contract: an exponent below zero of over 22 is never carried, and the rest is its definition. Assumes nothing.
use mathlib.Core.Path.{sym, ◌∙◌}
use Prim.Native.Nat.{◌+◌}
use native.Mathlib.Omega.{arith}
use Rattle.decimal.proofs.Laws.{outside_over}
use Rattle.number.proofs.scale_of.Goals as goal

pub returns-then-exponent-gt-POWER : goal.returns-then-exponent-gt-POWER
returns-then-exponent-gt-POWER c m negative =
    let e = c.args.exponent in
    rw c.if-exponent.true (outside_over m e.size negative c.if-exponent-gt-POWER.true ∙ sym (outside_over m (e.size + c.args.count) negative (omega arith)))
