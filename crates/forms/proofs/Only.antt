-- The promise of each public function, as its source states it, determines the answer and what the record buffer holds at last. Assumes nothing.
use borrow.Fn.Kinds.{ended_of}
use Rattle.ground.proofs.Determined.{Determined, Settled, by_equation}
use Rattle.forms.proofs.read_line.Kinds as read_line_kinds
use Rattle.forms.proofs.read_line.Reads as read_line
use Rattle.forms.proofs.read_section.Kinds as read_section_kinds
use Rattle.forms.proofs.read_section.Reads as read_section

pub read_line_only : Determined 1 read_line_kinds.ps read_line_kinds.r read_line.Post
read_line_only κs a x y e f p q = by_equation p q

pub read_section_only : Settled (ended_of 2 read_section_kinds.ps read_section_kinds.r) read_section.Post
read_section_only κs a x y v w p q = (λ j. record { count = by_equation p.count_is q.count_is j; then = by_equation p.then_is q.then_is j }, λ j. (tt, (tt, (tt, (tt, (by_equation p.buffer q.buffer j, (tt, tt)))))))
