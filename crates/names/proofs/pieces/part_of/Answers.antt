-- `names::pieces::part_of` meets its contract: it is none of the suffixes that it was compared with. Assumes nothing.
use mathlib.Core.Path.{sym, ◌∙◌}
use lib.ListN.{length}
use Rattle.refusal.proofs.Says.{fails, says_eq}
use Rattle.names.proofs.Cut.{part_other}
use Rattle.names.proofs.pieces.part_of.Goals as goal

pub returns : goal.returns
returns c =
    part_other c.args.rest.now (fails (says_eq (length c.args.rest.now) 0) (sym c.is_empty.ensures ∙ c.if-is_empty.false)) (rw c.as_slice.ensures at (sym c.eq.ensures ∙ c.if-eq.false))
    (rw c.as_slice-2.ensures at (sym c.eq-2.ensures ∙ c.if-eq-2.false)) (rw c.as_slice-3.ensures at (sym c.eq-3.ensures ∙ c.if-eq-3.false))
    (rw c.as_slice-4.ensures at (sym c.eq-4.ensures ∙ c.if-eq-4.false))
