-- `number::mantissa_at` meets its contract: it puts together the digits of both sides. Assumes nothing.
use mathlib.Core.Path.{refl}
use native.Mathlib.Omega.{arith}
use Rattle.text.proofs.Within.{run_to_within}
use Rattle.number.specs.Number.{is_digit, is_point, all_digits, no_digit, end_at, part_at}
use Rattle.number.proofs.Numerals.{numeral_append, capped_numeral}
use Rattle.number.proofs.mantissa_at.Goals as goal

pub returns-then-whole-first : goal.returns-then-whole-first
unfolding no_digit end_at part_at
returns-then-whole-first c =
    rw (← c.digits_at-whole.ensures.next_is, ← c.step_over-part.ensures is_point refl (λ b r k. k), ← c.digits_at-run.ensures.next_is) c.if-whole-first.true

pub overflow_sub-result : goal.overflow_sub-result
overflow_sub-result c = omega (arith, c.digits_at-run.ensures.next_is, run_to_within is_digit c.args.text.now c.step_over-part.result)

pub returns : goal.returns
unfolding all_digits no_digit end_at part_at
returns c =
    let whole = c.digits_at-whole.ensures in
    let run = c.digits_at-run.ensures in
    let part = c.step_over-part.ensures is_point refl (λ b r k. k) in (
      rw (← whole.next_is, ← part, ← run.next_is) c.if-whole-first.false,
      record {
        m_is = rw (numeral_append 0, ← whole.next_is, ← part, run.value_is, whole.value_is, capped_numeral);
        count_is = rw (← whole.next_is, ← part, ← run.next_is);
        end_is = rw (← whole.next_is, ← part) run.next_is;
      },
    )
