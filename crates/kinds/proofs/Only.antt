-- The promise of each public function, as its source states it, determines the answer: each is an equation. Of a word, which is a part of a
-- static, it determines the bytes. Assumes nothing.
use mathlib.Core.Path.{◌≡◌}
use contract.Lifetimes.{Lfts}
use borrow.Fn.Kinds.{Dens, res_t, ended_of}
use denote.Triple.Clauses.{AtExit}
use Rattle.ground.proofs.Determined.{Determined, by_equation}
use Rattle.kinds.proofs.look.Kinds as look_kinds
use Rattle.kinds.proofs.look.Reads as look
use Rattle.kinds.proofs.cell_of.Kinds as cell_of_kinds
use Rattle.kinds.proofs.cell_of.Reads as cell_of
use Rattle.kinds.proofs.word_of.Kinds as word_of_kinds
use Rattle.kinds.proofs.word_of.Reads as word_of
use Rattle.kinds.proofs.may_begin.Kinds as may_begin_kinds
use Rattle.kinds.proofs.may_begin.Reads as may_begin

pub look_only : Determined 1 look_kinds.ps look_kinds.r look.Post
look_only κs a x y e f p q = by_equation p q

pub cell_of_only : Determined 0 cell_of_kinds.ps cell_of_kinds.r cell_of.Post
cell_of_only κs a x y e f p q = by_equation p q

pub word_of_only : (κs : Lfts 1) (a : Dens κs word_of_kinds.ps) (x y : (res_t word_of_kinds.r κs).Denot)
    (e f : AtExit (ended_of 1 word_of_kinds.ps word_of_kinds.r) κs) → word_of.Post κs a x e → word_of.Post κs a y f → x.now ≡ y.now
word_of_only κs a x y e f p q = by_equation p q

pub may_begin_only : Determined 0 may_begin_kinds.ps may_begin_kinds.r may_begin.Post
may_begin_only κs a x y e f p q = by_equation p q
