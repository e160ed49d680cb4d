-- The promise of `root_bits`, as its source states it, determines the answer: a part of it is an equation. Assumes nothing.
use Rattle.ground.proofs.Determined.{Determined, by_equation}
use Rattle.root.proofs.root_bits.Kinds as root_bits_kinds
use Rattle.root.proofs.root_bits.Reads as root_bits

pub root_bits_only : Determined 0 root_bits_kinds.ps root_bits_kinds.r root_bits.Post
root_bits_only κs a x y e f p q = by_equation p.function q.function
