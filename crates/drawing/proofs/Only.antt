-- The promises of the check, as their source states them, determine the answer: each is made of equations. Assumes nothing.
use Rattle.ground.proofs.Determined.{Determined, by_equation}
use Rattle.drawing.proofs.check.Kinds as check_kinds
use Rattle.drawing.proofs.check.Reads as check
use Rattle.drawing.proofs.judge.Kinds as judge_kinds
use Rattle.drawing.proofs.judge.Reads as judge

pub check_only : Determined 2 check_kinds.ps check_kinds.r check.Post
check_only κs a x y e f p q = by_equation p q

pub judge_only : Determined 4 judge_kinds.ps judge_kinds.r judge.Post
judge_only κs a x y e f p q = by_equation p q
