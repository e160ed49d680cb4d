-- The promise of each public function, as its source states it, determines the answer: each is an equation. Assumes nothing.
use Rattle.ground.proofs.Determined.{Determined, by_equation}
use Rattle.little.proofs.le16.Kinds as le16_kinds
use Rattle.little.proofs.le16.Reads as le16
use Rattle.little.proofs.le32.Kinds as le32_kinds
use Rattle.little.proofs.le32.Reads as le32
use Rattle.little.proofs.le64.Kinds as le64_kinds
use Rattle.little.proofs.le64.Reads as le64
use Rattle.little.proofs.u16_of.Kinds as u16_of_kinds
use Rattle.little.proofs.u16_of.Reads as u16_of
use Rattle.little.proofs.u32_of.Kinds as u32_of_kinds
use Rattle.little.proofs.u32_of.Reads as u32_of
use Rattle.little.proofs.u64_of.Kinds as u64_of_kinds
use Rattle.little.proofs.u64_of.Reads as u64_of

pub le16_only : Determined 0 le16_kinds.ps le16_kinds.r le16.Post
le16_only κs a x y e f p q = by_equation p q

pub le32_only : Determined 0 le32_kinds.ps le32_kinds.r le32.Post
le32_only κs a x y e f p q = by_equation p q

pub le64_only : Determined 0 le64_kinds.ps le64_kinds.r le64.Post
le64_only κs a x y e f p q = by_equation p q

pub u16_of_only : Determined 0 u16_of_kinds.ps u16_of_kinds.r u16_of.Post
u16_of_only κs a x y e f p q = by_equation p q

pub u32_of_only : Determined 0 u32_of_kinds.ps u32_of_kinds.r u32_of.Post
u32_of_only κs a x y e f p q = by_equation p q

pub u64_of_only : Determined 0 u64_of_kinds.ps u64_of_kinds.r u64_of.Post
u64_of_only κs a x y e f p q = by_equation p q
