-- A lowering meets its contract: each turn adds one row's line more. Assumes nothing.
use mathlib.Core.Path.{◌≡◌}
use Prim.Native.Nat.{◌/◌}
use native.Mathlib.Omega.{arith}
use lib.ListN.{length}
use Rattle.row.specs.Row.{row_bytes}
use Rattle.rail.proofs.Added.{added, behind_more}
use Rattle.answers.specs.Steps.{lowered_by}
use Rattle.answers.proofs.Joined.{joined_more}
use Rattle.answers.proofs.drawn.DrawnPiece.add.Goals as goal

pub loop-k-preserved : goal.loop-k-preserved
loop-k-preserved c = rw joined_more (behind_more c.loop-k.invariant (added c.row_line.ensures))

pub returns : goal.returns
unfolding lowered_by
returns c =
    let e : c.loop-k.k ≡ length c.args.self.now.rows.now / row_bytes = omega arith in
    rw e at (c.loop-k.invariant _ _ c.add_slots.ensures)
