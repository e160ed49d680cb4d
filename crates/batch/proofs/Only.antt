-- The promise of each public function, as its source states it, determines the answer: it is, or begins with, an equation. Assumes nothing.
use Rattle.ground.proofs.Determined.{Determined, by_equation}
use Rattle.batch.proofs.read_header.Kinds as read_header_kinds
use Rattle.batch.proofs.read_header.Reads as read_header
use Rattle.batch.proofs.line.until.Kinds as until_kinds
use Rattle.batch.proofs.line.until.Reads as until
use Rattle.batch.proofs.line.number.Kinds as number_kinds
use Rattle.batch.proofs.line.number.Reads as number

pub read_header_only : Determined 1 read_header_kinds.ps read_header_kinds.r read_header.Post
read_header_only κs a x y e f p q = by_equation p q

pub until_only : Determined 1 until_kinds.ps until_kinds.r until.Post
until_only κs a x y e f p q = by_equation p.place q.place

pub number_only : Determined 1 number_kinds.ps number_kinds.r number.Post
number_only κs a x y e f p q = by_equation p q
