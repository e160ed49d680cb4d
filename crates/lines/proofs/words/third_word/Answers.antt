-- `lines::words::third_word` meets its contract: by the tests of the sort of number and of the third byte. Assumes nothing.
use borrow.Author.Tests.{eq-eqb, ne_eqb}
use Rattle.rail.proofs.Added.{added}
use Rattle.lines.proofs.words.third_word.Goals.{then-third-eq-FIRST, else-third-eq-FIRST, then-third-eq-FIRST-2, else-third-eq-FIRST-2}
use Rattle.lines.proofs.words.third_word.Goals as goal

pub returns-after-third-eq-FIRST : goal.returns-after-third-eq-FIRST
returns-after-third-eq-FIRST c =
    elim c.if-third-eq-FIRST.branch [
      | then-third-eq-FIRST w ↦ rw (eq-eqb _ _ c.if-number-eq-ANGLE.true, eq-eqb _ _ w.if-third-eq-FIRST.true) (rw w.word-is at (added c.word.ensures))
      | else-third-eq-FIRST w ↦ rw (eq-eqb _ _ c.if-number-eq-ANGLE.true, ne_eqb _ _ w.if-third-eq-FIRST.false) (rw w.word-is at (added c.word.ensures))
    ]

pub returns-after-third-eq-FIRST-2 : goal.returns-after-third-eq-FIRST-2
returns-after-third-eq-FIRST-2 c =
    elim c.if-third-eq-FIRST-2.branch [
      | then-third-eq-FIRST-2 w ↦ rw (ne_eqb _ _ c.if-number-eq-ANGLE.false, eq-eqb _ _ w.if-third-eq-FIRST-2.true) (rw w.word-is at (added c.word-else-number-eq-ANGLE.ensures))
      | else-third-eq-FIRST-2 w ↦ rw (ne_eqb _ _ c.if-number-eq-ANGLE.false, ne_eqb _ _ w.if-third-eq-FIRST-2.false) (rw w.word-is at (added c.word-else-number-eq-ANGLE.ensures))
    ]
