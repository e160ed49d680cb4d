-- `record::formed::well_formed` meets its contract: what is told by the kinds is told of the entries. Assumes nothing.
use mathlib.Core.Path.{sym, ◌∙◌}
use Rattle.record.proofs.Entries.{told_by_kinds}
use Rattle.record.proofs.formed.well_formed.Goals as goal

pub returns : goal.returns
returns c = c.judged.ensures ∙ sym (told_by_kinds _ _)
