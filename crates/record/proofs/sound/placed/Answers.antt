-- `record::sound::placed` meets its contract: the places by how many labels there are; two unused places have zeros exactly if their eight
-- bytes write 0. Assumes nothing.
use mathlib.Core.Bool.{◌&&◌}
use Prim.Native.Nat.{◌+◌, ◌<◌}
use native.Mathlib.Omega.{arith}
use lib.Dec.{leb}
use borrow.Author.Tests.{lt-ltb}
use Rattle.little.specs.Little.{byte, u16}
use Rattle.record.proofs.Places.{views_zero, places_are}
use Rattle.record.proofs.sound.placed.Goals as goal

pub returns-then-labels-eq1 : goal.returns-then-labels-eq1
returns-then-labels-eq1 c =
    let b = c.args.b.now in let first = leb (u16 b 4 + u16 b 6) c.args.n in
    rw (places_are _ _ c.requires.1, c.if-labels-eq1.true, c.inside.ensures, c.u64_at.ensures, views_zero b 8 first, c.empty.ensures)

pub returns-then-labels-eq2 : goal.returns-then-labels-eq2
returns-then-labels-eq2 c =
    let b = c.args.b.now in let two = leb (u16 b 4 + u16 b 6) c.args.n && leb (u16 b 8 + u16 b 10) c.args.n in
    rw (places_are _ _ c.requires.1, c.if-labels-eq2.true, c.inside-then-labels-eq2.ensures, c.inside-then-labels-eq2-2.ensures, c.u64_at-then-labels-eq2.ensures, views_zero b 12 two)

pub returns-then-labels-eq3 : goal.returns-then-labels-eq3
returns-then-labels-eq3 c = rw (places_are _ _ c.requires.1, c.if-labels-eq3.true, c.inside-2.ensures, c.inside-3.ensures, c.inside-4.ensures, c.empty-then-labels-eq3.ensures)

pub returns : goal.returns
returns c =
    let k = byte c.args.b.now 3 in
    let all : 3 < k = omega (arith, c.requires.2, c.if-labels-eq1.false, c.if-labels-eq2.false, c.if-labels-eq3.false) in
    rw (places_are _ _ c.requires.1, lt-ltb 0 k c.requires.2, lt-ltb 1 k (omega arith), lt-ltb 2 k (omega arith), lt-ltb 3 k all)
    (rw (c.inside-2.ensures, c.inside-3.ensures, c.inside-4.ensures, c.inside-5.ensures))
