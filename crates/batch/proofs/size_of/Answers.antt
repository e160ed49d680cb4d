-- `batch::size_of` meets its contract: a digit more is one of the definition's, and a number that is too large stays so. Assumes nothing.
use Rattle.std.proofs.Common.{◌-◌, length, drop, sym, ◌∙◌, arith, le-leb}
use Rattle.std.proofs.lemmas.Bool.{lt-leb}
use lib.ListN.{length-drop}
use lib.Seq.{take_all}
use Rattle.batch.specs.Header.{size_written}
use Rattle.batch.proofs.Laws.{sized_fits, sized_past, is_past, is_sized, past, size_more, size_end}
use Rattle.batch.proofs.size_of.Goals as goal

pub returns-then-line-at : goal.returns-then-line-at
unfolding size_written
returns-then-line-at c = rw (← c.digits_at-at.ensures, le-leb _ _ c.if-line-at.true)

pub loop-b-init : goal.loop-b-init
unfolding size_written
loop-b-init c =
    let at = c.digits_at-at.result in
    let line = c.args.line.now in
    let whole = take_all (length line - at) (drop at line) (omega (arith, length-drop at line)) in
    (omega arith, rw (← c.digits_at-at.ensures, lt-leb _ _ c.if-line-at.false, whole))

pub returns-in_err-n : goal.returns-in_err-n
returns-in_err-n c =
    let l = c.loop-b in
    let more = is_past _ (sym c.one_more.ensures ∙ c.in_err-n.was) in
    let e = l.invariant.1 ∙ size_more _ l.n l.b-index c.loop-b-test.true in
    c.from_residual.ensures ∙ rw e (sym (sized_past _ (past _ _ more)))

pub loop-b-preserved : goal.loop-b-preserved
loop-b-preserved c =
    let l = c.loop-b in
    let more = is_sized _ _ (sym c.one_more.ensures ∙ c.in_ok-n.was) in
    (more.1, rw (← more.0) (l.invariant.1 ∙ size_more _ l.n l.b-index c.loop-b-test.true))

pub returns : goal.returns
returns c = let l = c.loop-b in rw (l.invariant.1, size_end _ l.n l.b-index c.loop-b-test.false) (sym (sized_fits l.n l.invariant.0))
