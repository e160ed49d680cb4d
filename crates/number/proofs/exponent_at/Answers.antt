-- `number::exponent_at` meets its contract: each way out puts together what was read. Assumes nothing.
use borrow.Author.Tests.{le-leb, lt-leb}
use mathlib.Core.Path.{refl}
use Rattle.number.specs.Number.{is_sign, exponent_at}
use Rattle.number.proofs.exponent_at.Goals as goal

pub returns-then-not-is_exponent : goal.returns-then-not-is_exponent
unfolding exponent_at
returns-then-not-is_exponent c = rw (← c.byte_at.ensures, ← c.is_exponent.ensures, c.if-not-is_exponent.true)

pub returns-then-run-first : goal.returns-then-run-first
unfolding exponent_at
returns-then-run-first c =
    rw (← c.byte_at.ensures, ← c.is_exponent.ensures, c.if-not-is_exponent.false)
    (rw (← c.step_over-first.ensures is_sign refl (λ b r k. k), ← c.digits_at-run.ensures.next_is, le-leb _ _ c.if-run-first.true))

pub returns : goal.returns
unfolding exponent_at
returns c =
    let run = c.digits_at-run.ensures in
    rw (c.byte_at-2.ensures, ← c.byte_at.ensures, ← c.is_exponent.ensures, c.if-not-is_exponent.false)
    (rw (← c.step_over-first.ensures is_sign refl (λ b r k. k), ← run.next_is, lt-leb _ _ c.if-run-first.false, ← run.value_is))
