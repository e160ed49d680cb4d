-- `number::digits_at` meets its contract: what the digits from `at` on write is what those from `next` on write behind the value. Assumes nothing.
use mathlib.Core.Path.{◌≡◌, sym, ◌∙◌}
use native.Mathlib.Omega.{arith}
use Rattle.text.proofs.Laws.{run_stop, run_end}
use Rattle.number.specs.Number.{is_digit}
use Rattle.number.proofs.Numerals.{more, done}
use Rattle.number.proofs.digits_at.Goals as goal

pub loop-next-preserved : goal.loop-next-preserved
loop-next-preserved c =
    let is = sym c.is_ascii_digit.ensures.value ∙ c.if-not-is_ascii_digit.false in
    (rw c.push-value.ensures (more c.loop-next.invariant.0 (omega arith) is), omega arith)

pub returns-then-not-is_ascii_digit : goal.returns-then-not-is_ascii_digit
returns-then-not-is_ascii_digit c =
    let not = sym c.is_ascii_digit.ensures.value ∙ c.if-not-is_ascii_digit.true in
    done c.loop-next.invariant.0 (run_stop is_digit _ _ c.loop-next-test.true not)

pub returns : goal.returns
returns c =
    let l = c.loop-next in
    let e : c.max.result ≡ l.next = omega arith in
    rw e (done l.invariant.0 (run_end is_digit _ _ c.loop-next-test.false))
