-- `lowering::rules::Line::write_row` meets its contract: one row, or none. Assumes nothing.
use borrow.Author.Rules.{rules}
use Rattle.lowering.proofs.rows.Filling.{wrote_none, wrote_row}
use Rattle.lowering.proofs.rules.Line.write_row.Goals as goal

pub returns-then-contains : goal.returns-then-contains
returns-then-contains c = wrote_row c.requires (search rules) _ _ _ c.row-row.ensures c.put.ensures

pub returns : goal.returns
returns c = wrote_none c.requires (search rules)
