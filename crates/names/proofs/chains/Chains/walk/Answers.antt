-- `names::chains::Chains::walk` meets its contract: it stands in the label's chain, and what is found from there on is found from its start on. The
-- measure is what is left of the records. Assumes nothing.
use mathlib.Core.Path.{refl, sym, ◌∙◌}
use Prim.Native.Nat.{◌<◌}
use native.Mathlib.Omega.{arith}
use lib.ListN.{length}
use Rattle.record.specs.Decode.{count_of}
use Rattle.names.specs.Labels.{drawn}
use Rattle.names.proofs.Laws.{same_is}
use Rattle.names.proofs.Drawn.{laid_by, labels_some, drawn_length}
use Rattle.names.proofs.Links.{walk_end, walk_here, walk_up, walk_more}
use Rattle.names.proofs.chains.Chains.walk.Goals as goal

pub loop-i-init : goal.loop-i-init
loop-i-init c = let p = c.requires in record { up_to = p.1; in_chain = p.2; still = refl }

pub label-requires : goal.label-requires
label-requires c = let laid = laid_by _ _ c.args.page.now.laid in let inside : c.loop-i.i < count_of c.args.page.now.records.now = rw (← c.count-n.ensures) c.loop-i-test.true in (inside, labels_some _ _ _ inside (laid.each _ inside))

pub returns-then-eq : goal.returns-then-eq
returns-then-eq c =
    let inside : let a = c.args in c.loop-i.i < length (drawn a.page.now.text.now a.page.now.records.now) = rw (drawn_length, ← c.count-n.ensures) c.loop-i-test.true in
    walk_here _ _ _ _ c.loop-i.invariant inside (rw (← c.label.ensures) (sym (c.eq.ensures ∙ same_is c.label.result.now c.args.label.now) ∙ c.if-eq.true))

-- a next is there
pub bounds-self-i : goal.bounds-self-i
bounds-self-i c = omega (arith, c.loop-i-test.true, c.count-n.ensures, (laid_by _ _ c.args.page.now.laid).few)

pub overflow_cast-i : goal.overflow_cast-i
overflow_cast-i c =
    let inside : let a = c.args in c.loop-i.i < length (drawn a.page.now.text.now a.page.now.records.now) = rw (drawn_length, ← c.count-n.ensures) c.loop-i-test.true in
    let next = walk_more _ _ _ _ c.loop-i.invariant inside c.args.self.now.nexts c.requires.0 (rw (← c.label.ensures) (sym (c.eq.ensures ∙ same_is c.label.result.now c.args.label.now) ∙ c.if-eq.false)) in
    omega (arith, next.up_to, drawn_length c.args.page.now.text.now c.args.page.now.records.now, (laid_by _ _ c.args.page.now.laid).few)

pub loop-i-smaller : goal.loop-i-smaller
loop-i-smaller c =
    let inside : let a = c.args in c.loop-i.i < length (drawn a.page.now.text.now a.page.now.records.now) = rw (drawn_length, ← c.count-n.ensures) c.loop-i-test.true in
    omega (arith, c.loop-i-test.true, walk_up _ _ _ _ c.loop-i.invariant inside c.args.self.now.nexts c.requires.0)

-- the next step
pub loop-i-preserved : goal.loop-i-preserved
loop-i-preserved c =
    let inside : let a = c.args in c.loop-i.i < length (drawn a.page.now.text.now a.page.now.records.now) = rw (drawn_length, ← c.count-n.ensures) c.loop-i-test.true in
    walk_more _ _ _ _ c.loop-i.invariant inside c.args.self.now.nexts c.requires.0
    (rw (← c.label.ensures) (sym (c.eq.ensures ∙ same_is c.label.result.now c.args.label.now) ∙ c.if-eq.false))

pub returns : goal.returns
returns c = c.count-n.ensures ∙ sym (drawn_length _ _) ∙ walk_end _ _ _ _ c.loop-i.invariant (rw (drawn_length, ← c.count-n.ensures) c.loop-i-test.false)
