-- The promise of `decimal`, as its source states it, determines the answer: it is an equation. Assumes nothing.
use Rattle.ground.proofs.Determined.{Determined, by_equation}
use Rattle.decimal.proofs.decimal.Kinds as decimal_kinds
use Rattle.decimal.proofs.decimal.Reads as decimal

pub decimal_only : Determined 0 decimal_kinds.ps decimal_kinds.r decimal.Post
decimal_only κs a x y e f p q = by_equation p q
