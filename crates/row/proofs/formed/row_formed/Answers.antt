-- `row::formed::row_formed` meets its contract: the mark, and the fields of the row. Assumes nothing.
use Rattle.row.specs.Formed.{row_test}
use Rattle.row.proofs.Rows.{mark_at, row_there}
use Rattle.row.proofs.formed.row_formed.Goals as goal

pub returns : goal.returns
unfolding row_test
returns c =
    rw (mark_at c.args.rows.now c.args.i, ← row_there c.args.rows.now c.args.i c.requires, ← c.decode_row.ensures)
    (rw (← c.fields_formed.ensures))
