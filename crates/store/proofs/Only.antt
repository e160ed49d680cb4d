-- The promise of `put`, as its source states it, determines the answer and what the buffer holds at last: both are equations. Assumes nothing.
use borrow.Fn.Kinds.{ended_of}
use Rattle.ground.proofs.Determined.{Settled, by_equation}
use Rattle.store.proofs.put.Kinds as put_kinds
use Rattle.store.proofs.put.Reads as put

pub put_only : Settled (ended_of 2 put_kinds.ps put_kinds.r) put.Post
put_only κs a x y v w p q = (by_equation p.told q.told, λ j. (by_equation p.buffer q.buffer j, (tt, (tt, tt))))
