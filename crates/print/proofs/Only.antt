-- The promise of each public function, as its source states it, determines the answer, and of a part that is lent back what it holds: each is
-- an equation. Assumes nothing.
use mathlib.Core.Path.{◌≡◌}
use contract.Lifetimes.{Lfts}
use denote.Triple.Clauses.{AtExit}
use borrow.Fn.Kinds.{Dens, res_t, ended_of}
use Rattle.ground.proofs.Determined.{Determined, by_equation}
use Rattle.print.proofs.hex.Kinds as hex_kinds
use Rattle.print.proofs.hex.Reads as hex
use Rattle.print.proofs.decimal.Kinds as decimal_kinds
use Rattle.print.proofs.decimal.Reads as decimal
use Rattle.print.proofs.Digits.as_slice.Kinds as as_slice_kinds
use Rattle.print.proofs.Digits.as_slice.Reads as as_slice

pub hex_only : Determined 0 hex_kinds.ps hex_kinds.r hex.Post
hex_only κs a x y e f p q = by_equation p q

pub decimal_only : Determined 0 decimal_kinds.ps decimal_kinds.r decimal.Post
decimal_only κs a x y e f p q = by_equation p q

pub as_slice_only :
    (κs : Lfts 1) (a : Dens κs as_slice_kinds.ps) (x y : (res_t as_slice_kinds.r κs).Denot)
    (e f : AtExit (ended_of 1 as_slice_kinds.ps as_slice_kinds.r) κs) → as_slice.Post κs a x e → as_slice.Post κs a y f → x.now ≡ y.now
as_slice_only κs a x y e f p q = by_equation p q
