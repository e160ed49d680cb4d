-- `lowering::rules::Line::row` meets its contract: the ids, and then the bytes. Assumes nothing.
use Rattle.lowering.proofs.rows.Filling.{row_is}
use Rattle.lowering.proofs.rules.Line.row.Goals as goal

pub returns : goal.returns
returns c = rw (← c.decode_record-r.ensures) (row_is _ _ _ _ _ _ c.row_ids-m.ensures _ c.encode_row.ensures)
