-- `row::formed::rows_formed` meets its contract: the loop passes rows that are all well formed. Assumes nothing.
use mathlib.Core.Path.{◌≡◌, refl, sym, ◌∙◌}
use Prim.Native.Nat.{◌/◌, ◌%◌}
use native.Mathlib.Numerals.{add-one}
use native.Mathlib.Omega.{arith}
use lib.ListN.{length}
use borrow.Author.Tests.{eq-eqb}
use Rattle.refusal.proofs.Says.{refuted, fails, says_so}
use Rattle.row.specs.Row.{row_bytes}
use Rattle.row.specs.Formed.{rows_test}
use Rattle.row.proofs.Rows.{says_tested}
use Rattle.row.proofs.formed.rows_formed.Goals as goal

pub returns-then-rows-ne0 : goal.returns-then-rows-ne0
unfolding rows_test
returns-then-rows-ne0 c = sym (refuted (says_tested c.args.rows.now) (λ w. c.if-rows-ne0.true w.0))

pub loop-i-init : goal.loop-i-init
unfolding rows_test
loop-i-init c = refl

pub returns-then-not-row_formed : goal.returns-then-not-row_formed
unfolding rows_test
returns-then-not-row_formed c =
    sym (refuted (says_tested c.args.rows.now)
    (λ w. fails says_so (sym c.row_formed.ensures ∙ c.if-not-row_formed.true) (w.1 c.loop-i.i (omega arith))))

pub loop-i-preserved : goal.loop-i-preserved
unfolding rows_test
loop-i-preserved c = rw (add-one, c.loop-i.invariant) (sym c.row_formed.ensures ∙ c.if-not-row_formed.false)

pub returns : goal.returns
unfolding rows_test
returns c =
    let rows = c.args.rows.now in let all : length rows / row_bytes ≡ c.loop-i.i = omega arith in
    rw (eq-eqb (length rows % row_bytes) 0 (omega arith), all) (sym c.loop-i.invariant)
