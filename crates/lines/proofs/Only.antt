-- The promise of each public function, as its source states it, determines the rail at last with what its buffer holds: each is an equation
-- with what the entry values give. Assumes nothing.
use borrow.Fn.Kinds.{ended_of}
use Rattle.ground.proofs.Determined.{Settled}
use Rattle.rail.proofs.Only.{same}
use Rattle.lines.proofs.first_line.Kinds as first_line_kinds
use Rattle.lines.proofs.first_line.Reads as first_line
use Rattle.lines.proofs.record_line.Kinds as record_line_kinds
use Rattle.lines.proofs.record_line.Reads as record_line
use Rattle.lines.proofs.checked_line.Kinds as checked_line_kinds
use Rattle.lines.proofs.checked_line.Reads as checked_line
use Rattle.lines.proofs.lowered_line.Kinds as lowered_line_kinds
use Rattle.lines.proofs.lowered_line.Reads as lowered_line
use Rattle.lines.proofs.slot_line.Kinds as slot_line_kinds
use Rattle.lines.proofs.slot_line.Reads as slot_line
use Rattle.lines.proofs.row_line.Kinds as row_line_kinds
use Rattle.lines.proofs.row_line.Reads as row_line

pub first_line_only : Settled (ended_of 2 first_line_kinds.ps first_line_kinds.r) first_line.Post
first_line_only κs a x y v w p q = (λ j. tt, λ j. (tt, (same p q j, tt)))

pub record_line_only : Settled (ended_of 4 record_line_kinds.ps record_line_kinds.r) record_line.Post
record_line_only κs a x y v w p q = (λ j. tt, λ j. (tt, (tt, (tt, (same p q j, tt)))))

pub checked_line_only : Settled (ended_of 2 checked_line_kinds.ps checked_line_kinds.r) checked_line.Post
checked_line_only κs a x y v w p q = (λ j. tt, λ j. (tt, (same p q j, tt)))

pub lowered_line_only : Settled (ended_of 2 lowered_line_kinds.ps lowered_line_kinds.r) lowered_line.Post
lowered_line_only κs a x y v w p q = (λ j. tt, λ j. (tt, (same p q j, tt)))

pub slot_line_only : Settled (ended_of 2 slot_line_kinds.ps slot_line_kinds.r) slot_line.Post
slot_line_only κs a x y v w p q = (λ j. tt, λ j. (tt, (tt, (same p q j, tt))))

pub row_line_only : Settled (ended_of 3 row_line_kinds.ps row_line_kinds.r) row_line.Post
row_line_only κs a x y v w p q = (λ j. tt, λ j. (tt, (tt, (same p q j, tt))))
