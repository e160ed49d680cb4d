-- `batch::line::number` meets its contract: a byte moves on by at most a word, and adds at most a digit. Assumes nothing.
use Rattle.std.proofs.Common.{sym, ◌∙◌, arith}
use Rattle.batch.proofs.Ends.{word_le, number_more, number_end}
use Rattle.batch.proofs.line.number.Goals as goal

pub loop-b-preserved : goal.loop-b-preserved
loop-b-preserved c =
    let l = c.loop-b in
    let e = c.word_after-word.ensures in
    (word_le _ _ _ _ e l.invariant.0, l.invariant.1 ∙ number_more _ _ l.word l.n l.b-index (omega arith) ∙ rw (c.one_digit-n.ensures, e))

pub returns : goal.returns
returns c = sym (c.loop-b.invariant.1 ∙ number_end _ _ _ _ _ c.loop-b-test.false)
