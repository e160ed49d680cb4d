-- `text::run_to` meets its contract: what is read from `at` on ends where what is read from `i` on ends. Assumes nothing.
use mathlib.Core.Path.{◌≡◌, refl, sym, ◌∙◌}
use native.Mathlib.Omega.{arith}
use Rattle.text.proofs.Laws.{run_to_more, run_to_stop, run_to_end}
use Rattle.text.proofs.run_to.Goals as goal

pub loop-i-init : goal.loop-i-init
loop-i-init g c = (c.requires, λ p a. refl, omega arith)

pub loop-i-preserved : goal.loop-i-preserved
loop-i-preserved g c =
    let l = c.loop-i in
    (l.invariant.0, λ p a. l.invariant.1 p a ∙ run_to_more p _ _ c.loop-i-test.true (sym (a _ _ c.passes.ensures) ∙ c.if-not-passes.false), omega arith)

pub returns-then-not-passes : goal.returns-then-not-passes
returns-then-not-passes g c p a =
    sym (c.loop-i.invariant.1 p a ∙ run_to_stop p _ _ c.loop-i-test.true (sym (a _ _ c.passes.ensures) ∙ c.if-not-passes.true))

pub returns : goal.returns
returns g c p a =
    let l = c.loop-i in let e : c.max.result ≡ l.i = omega arith in rw e (sym (l.invariant.1 p a ∙ run_to_end p _ _ c.loop-i-test.false))
