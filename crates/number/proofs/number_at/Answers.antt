-- `number::number_at` meets its contract: each way out puts together what was read. Assumes nothing.
use mathlib.Core.Path.{refl}
use Prim.Native.Nat.{◌^◌, ◌<◌}
use native.Mathlib.Omega.{arith}
use Rattle.number.specs.Number.{is_sign, number_at}
use Rattle.number.proofs.Limits.{few, scaled_capped}
use Rattle.number.proofs.number_at.Goals as goal

pub returns-then-is_word : goal.returns-then-is_word
unfolding number_at
returns-then-is_word c =
    rw (← c.step_over-first.ensures is_sign refl (λ b r k. k), ← c.byte_at.ensures, ← c.is_word.ensures, c.if-is_word.true) c.refused.ensures

pub returns-in_default : goal.returns-in_default
unfolding number_at
returns-in_default c =
    rw (← c.step_over-first.ensures is_sign refl (λ b r k. k), ← c.byte_at.ensures, ← c.is_word.ensures, c.if-is_word.false)
    (rw c.in_default.ensures c.no_number.ensures)

-- fewer digits than bytes stand in a text, and those are below 2 ^ 63
pub scale_by-requires : goal.scale_by-requires
scale_by-requires c = omega (arith, few c.in-Some.ensures.1)

pub returns : goal.returns
unfolding number_at
returns c =
    let (some, digits) = c.in-Some.ensures in
    let short : c.in-Some.digits.count < 2 ^ 63 = omega (arith, few digits) in
    rw (← c.step_over-first.ensures is_sign refl (λ b r k. k), ← c.byte_at.ensures, ← c.is_word.ensures, c.if-is_word.false)
    (rw (some, ← digits.count_is, ← scaled_capped)
    (rw (← digits.m_is, ← digits.end_is, ← c.exponent_at-exponent.ensures, ← c.byte_at-negative.ensures) c.scale_by.ensures))
