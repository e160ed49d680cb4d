-- The promise of each public function, as its source states it, determines the answer: of an angle it is an equation. Of a label, which
-- is a part of the lent text, it determines the bytes and the place. Assumes nothing.
use mathlib.Core.Path.{◌≡◌}
use contract.Lifetimes.{Lfts}
use borrow.Fn.Kinds.{Dens, res_t, ended_of}
use denote.Triple.Clauses.{AtExit}
use Rattle.ground.proofs.Determined.{Determined, by_equation}
use Rattle.ask.proofs.label.Kinds as label_kinds
use Rattle.ask.proofs.label.Reads as label
use Rattle.ask.proofs.angle_of.Kinds as angle_of_kinds
use Rattle.ask.proofs.angle_of.Reads as angle_of

pub angle_of_only : Determined 2 angle_of_kinds.ps angle_of_kinds.r angle_of.Post
angle_of_only κs a x y e f p q = by_equation p q

pub label_only : (κs : Lfts 2) (a : Dens κs label_kinds.ps) (x y : (res_t label_kinds.r κs).Denot)
    (e f : AtExit (ended_of 2 label_kinds.ps label_kinds.r) κs) → label.Post κs a x e → label.Post κs a y f → (x.now ≡ y.now) × (x.ref_ptr ≡ y.ref_ptr)
label_only κs a x y e f p q = (by_equation p.is q.is, by_equation p.there q.there)
