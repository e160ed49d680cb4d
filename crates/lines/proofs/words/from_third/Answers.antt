-- `lines::words::from_third` meets its contract: by whether the kind has a word for its third byte. Assumes nothing.
use mathlib.Core.Path.{◌∙◌}
use mathlib.Core.List.{append_assoc}
use borrow.Author.Tests.{eq-eqb, ne_eqb}
use Rattle.kinds.proofs.Cells.{thirds_is, number_is}
use Rattle.rail.proofs.Added.{both, said}
use Rattle.rail.specs.Words.{spaced}
use Rattle.lines.proofs.words.from_third.Goals.{then-cell_of-ne-ZERO, else-cell_of-ne-ZERO}
use Rattle.lines.proofs.words.from_third.Goals as goal

pub returns : goal.returns
unfolding spaced
returns c =
    elim c.if-cell_of-ne-ZERO.branch [
      | then-cell_of-ne-ZERO w ↦
          let end = rw w.rail-is at c.from_numbers.ensures in
          rw (← c.cell_of-sort.ensures ∙ number_is _, ← c.cell_of.ensures ∙ thirds_is _, ne_eqb _ _ w.if-cell_of-ne-ZERO.true)
          (said (both w.third_word.ensures end) (simp append_assoc))
      | else-cell_of-ne-ZERO w ↦
          let end = rw w.rail-is at c.from_numbers.ensures in
          rw (← c.cell_of-sort.ensures ∙ number_is _, ← c.cell_of.ensures ∙ thirds_is _, eq-eqb _ _ w.if-cell_of-ne-ZERO.false) end
    ]
