-- `lines::words::from_numbers` meets its contract: by the sort of number, none, two or one. Assumes nothing.
use mathlib.Core.List.{[]}
use borrow.Author.Tests.{eq-eqb, ne_eqb}
use Rattle.rail.proofs.Added.{added, both}
use Rattle.rail.specs.Words.{spaced}
use Rattle.lines.proofs.Spaced.{words_more}
use Rattle.lines.proofs.words.from_numbers.Goals.{then-number-eq-PAIR, else-number-eq-PAIR}
use Rattle.lines.proofs.words.from_numbers.Goals as goal

pub returns-then-number-eq-NONE : goal.returns-then-number-eq-NONE
unfolding spaced
returns-then-number-eq-NONE c = rw (eq-eqb _ _ c.if-number-eq-NONE.true) (added c.add.ensures)

pub returns : goal.returns
returns c =
    let x = added c.hex_word.ensures in
    let end = added c.add-2.ensures in
    elim c.if-number-eq-PAIR.branch [
      | then-number-eq-PAIR w ↦
          let more = rw w.rail-is at end in
          rw (ne_eqb _ _ c.if-number-eq-NONE.false, eq-eqb _ _ w.if-number-eq-PAIR.true)
          (both (words_more [] _ _ x (added w.hex_word-then-number-eq-PAIR.ensures)) more)
      | else-number-eq-PAIR w ↦
          let more = rw w.rail-is at end in
          rw (ne_eqb _ _ c.if-number-eq-NONE.false, ne_eqb _ _ w.if-number-eq-PAIR.false) (both x more)
    ]
