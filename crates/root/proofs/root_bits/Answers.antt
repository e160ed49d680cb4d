-- `root::root_bits` meets its contract: each return is what `root_of` is for its kind of number, and `root_of` is the root (`Agree.antt`). Assumes nothing.
use borrow.Author.Tests.{lt-ltb}
use mathlib.Core.Path.{◌≡◌}
use Prim.Native.Nat.{◌/◌, ◌%◌, ◌^◌}
use native.Mathlib.Omega.{arith}
use Rattle.root.specs.Function.{root_of}
use Rattle.root.proofs.Sizes.{scaling_normal}
use Rattle.root.proofs.Agree.{rooted, rooted_some}
use Rattle.root.proofs.root_bits.Goals as goal

pub returns-then-b : goal.returns-then-b
unfolding root_of
returns-then-b c = rooted _ _ (omega arith) (rw c.if-b.true)

pub returns-then-b-gt-INFINITY : goal.returns-then-b-gt-INFINITY
unfolding root_of
returns-then-b-gt-INFINITY c = rooted _ _ (omega arith) (rw (c.if-b.false, lt-ltb _ _ c.if-b-gt-INFINITY.true))

pub returns-then-x-eq0 : goal.returns-then-x-eq0
unfolding root_of
returns-then-x-eq0 c =
    let b = c.args.b in let e : b / 2 ^ 52 ≡ 0 = omega arith in
    rooted_some b _ _ _ c.if-b.false (omega arith) (rw e c.normal.ensures.1) c.root_scaled.ensures

pub returns : goal.returns
unfolding root_of
returns c =
    let b = c.args.b in rooted_some b _ _ _ c.if-b.false (omega arith)
    (scaling_normal (b / 2 ^ 52) (b % 2 ^ 52) (omega arith) (omega arith)) c.root_scaled-2.ensures
