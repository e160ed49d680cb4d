-- `lowering::rules::fill_rows` meets its contract: the first slots; then after i turns the rows of the first i records are written. Assumes nothing.
use native.Mathlib.Omega.{arith}
use Rattle.lowering.proofs.rows.Filling.{piece_fits, pieces_turn}
use Rattle.lowering.proofs.rules.fill_rows.Goals as goal

pub write_row-at-requires : goal.write_row-at-requires
write_row-at-requires c =
    let room = piece_fits c.loop-i.invariant (omega arith) c.requires.room in
    rw c.first_slots.ensures (record { sayable = c.requires.each _ (omega arith); room = room })

pub loop-i-preserved : goal.loop-i-preserved
loop-i-preserved c =
    pieces_turn c.loop-i.invariant (omega arith) c.requires.room _ _
    (rw c.first_slots.ensures at c.write_row-at.ensures)
