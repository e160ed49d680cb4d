-- The promise of each reading, as its source states it, determines the answer and what the record buffer holds at last. Assumes nothing.
use borrow.Fn.Kinds.{ended_of}
use Rattle.ground.proofs.Determined.{Settled, by_equation}
use Rattle.reader.proofs.parse_problem.Kinds as parse_problem_kinds
use Rattle.reader.proofs.parse_problem.Reads as parse_problem
use Rattle.reader.proofs.parse_whole.Kinds as parse_whole_kinds
use Rattle.reader.proofs.parse_whole.Reads as parse_whole

pub parse_problem_only : Settled (ended_of 2 parse_problem_kinds.ps parse_problem_kinds.r) parse_problem.Post
parse_problem_only κs a x y v w p q = (by_equation p.told q.told, λ j. (tt, (by_equation p.buffer q.buffer j, tt)))

pub parse_whole_only : Settled (ended_of 2 parse_whole_kinds.ps parse_whole_kinds.r) parse_whole.Post
parse_whole_only κs a x y v w p q = (by_equation p.told q.told, λ j. (tt, (by_equation p.buffer q.buffer j, tt)))
