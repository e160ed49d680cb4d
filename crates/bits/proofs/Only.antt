-- The promise of each public function, as its source states it, determines the answer: each is an equation. Assumes nothing.
use Rattle.ground.proofs.Determined.{Determined, by_equation}
use Rattle.bits.proofs.from_bits.Kinds as from_bits_kinds
use Rattle.bits.proofs.from_bits.Reads as from_bits
use Rattle.bits.proofs.to_bits.Kinds as to_bits_kinds
use Rattle.bits.proofs.to_bits.Reads as to_bits

pub from_bits_only : Determined 0 from_bits_kinds.ps from_bits_kinds.r from_bits.Post
from_bits_only κs a x y e f p q = by_equation p q

pub to_bits_only : Determined 0 to_bits_kinds.ps to_bits_kinds.r to_bits.Post
to_bits_only κs a x y e f p q = by_equation p q
