-- `row::formed::fields_formed` meets its contract: it makes the tests of the definition, by the columns of the table. Assumes nothing.
use Rattle.kinds.proofs.Cells.{thirds_is, number_is}
use mathlib.Core.Path.{◌∙◌}
use borrow.Author.Rules.{rules}
use mathlib.Core.Path.{◌≡◌}
use lib.ListN.{length}
use Rattle.row.proofs.Rows.{clear_is}
use Rattle.row.proofs.formed.fields_formed.Goals as goal

pub returns : goal.returns
returns c = let q : length c.args.r.ids ≡ 8 = search rules in rw (← c.cell_of-thirds.ensures ∙ thirds_is _, ← c.cell_of-sort.ensures ∙ number_is _, ← c.ids_of-ids.ensures, ← clear_is _ c.args.r.count q, ← c.clear.ensures)
