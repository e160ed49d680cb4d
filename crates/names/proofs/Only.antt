-- The promise of each public function, as its source states it, determines the answer, and what the tables hold at last: each is made
-- of equations. Assumes nothing.
use borrow.Fn.Kinds.{ended_of}
use Rattle.ground.proofs.Determined.{Determined, Settled, by_equation}
use Rattle.names.proofs.labels.kind_at.Kinds as kind_at_kinds
use Rattle.names.proofs.labels.kind_at.Reads as kind_at
use Rattle.names.proofs.read.either.Kinds as either_kinds
use Rattle.names.proofs.read.either.Reads as either
use Rattle.names.proofs.read.wide.Kinds as wide_kinds
use Rattle.names.proofs.read.wide.Reads as wide
use Rattle.names.proofs.resolve.Kinds as resolve_kinds
use Rattle.names.proofs.resolve.Reads as resolve

pub kind_at_only : Determined 1 kind_at_kinds.ps kind_at_kinds.r kind_at.Post
kind_at_only κs a x y e f p q = by_equation p q

pub wide_only : Determined 0 wide_kinds.ps wide_kinds.r wide.Post
wide_only κs a x y e f p q = by_equation p q

pub either_only : Determined 0 either_kinds.ps either_kinds.r either.Post
either_only κs a x y e f p q = by_equation p q

-- the tables are the last two of four parameters
pub resolve_only : Settled (ended_of 4 resolve_kinds.ps resolve_kinds.r) resolve.Post
resolve_only κs a x y v w p q = (
  by_equation p.told q.told,
  λ j. (tt, (tt, (by_equation p.names_are q.names_are j, (by_equation p.guesses_are q.guesses_are j, tt)))),
)
