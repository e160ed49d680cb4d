-- `names::chains::Chains::link` meets its contract: the tables hold the chains of the records from i on. Assumes nothing.
use mathlib.Core.Path.{◌≡◌}
use mathlib.Core.Bool.{true}
use Prim.Native.Nat.{◌+◌, ◌-◌, ◌≤◌, ◌<◌}
use native.Mathlib.Omega.{arith}
use lib.ListN.{length-set}
use Rattle.refusal.proofs.Says.{refuted}
use Rattle.kinds.specs.Kinds.{new_point, new_arc}
use Rattle.record.specs.Decode.{count_of}
use Rattle.names.specs.Labels.{drawn, kind_no, within}
use Rattle.names.proofs.Laws.{says_within}
use Rattle.names.proofs.First.{firsts_none}
use Rattle.names.proofs.Tables.{filled}
use Rattle.names.specs.Chains.{chains}
use Rattle.names.proofs.Drawn.{laid_by, known_at, labels_some, drawn_length, drawn_kind}
use Rattle.names.proofs.Links.{links_out, links_in}
use Rattle.names.proofs.chains.Chains.link.Goals as goal

pub overflow_cast-none : goal.overflow_cast-none
overflow_cast-none c = omega (arith, c.count-n.ensures, (laid_by _ _ c.args.page.now.laid).few)

pub loop-i-init : goal.loop-i-init
loop-i-init c =
    let p = c.args.page.now in let n = drawn_length p.text.now p.records.now in
    (record { head = firsts_none _ _ _ _ _ (omega (arith, n, c.count-n.ensures)) (filled chains _ _ _ (omega arith) (c.fill.ensures.after (λ y e. e))); next = λ i a b. absurd (omega (arith, a, b, n, c.count-n.ensures)) }, omega arith)

pub bounds-self-i : goal.bounds-self-i
bounds-self-i c = omega (arith, c.count-n.ensures, (laid_by _ _ c.args.page.now.laid).few)

pub overflow_cast-self : goal.overflow_cast-self
overflow_cast-self c = omega (arith, c.count-n.ensures, (laid_by _ _ c.args.page.now.laid).few)

pub kind-declares-requires : goal.kind-declares-requires
kind-declares-requires c = omega (arith, c.count-n.ensures)

pub label-requires : goal.label-requires
label-requires c =
    let laid = laid_by _ _ c.args.page.now.laid in let h : c.loop-i.i - 1 < count_of c.args.page.now.records.now = omega (arith, c.count-n.ensures) in
    (h, labels_some _ _ _ h (laid.each _ h))

pub loop-i-preserved-then-declares : goal.loop-i-preserved-then-declares
loop-i-preserved-then-declares c =
    let p = c.args.page.now in let laid = laid_by _ _ p.laid in let h : c.loop-i.i - 1 < count_of p.records.now = omega (arith, c.count-n.ensures) in
    let l = c.loop-i in let e : l.i ≡ l.i - 1 + 1 = omega arith in
    let f = c.front-f.ensures in let known = known_at _ _ _ h (laid.each _ h) in
    let k = c.kind-declares in let some : new_point ≤ k.result = rw k.ensures known.0 in
    let declares : within new_point new_arc (kind_no (drawn p.text.now p.records.now) (l.i - 1)) ≡ true = rw (drawn_kind, ← k.ensures) ((says_within new_point new_arc k.result).back (some, c.if-declares.true)) in (
      links_in _ _ _ _ (rw drawn_length h) (rw e at l.invariant.0) _ declares (rw (← c.label.ensures) f.1) f.2 (omega (arith, h, laid.few)),
      simp length-set l.invariant.1,
    )

pub loop-i-preserved : goal.loop-i-preserved
loop-i-preserved c =
    let h : c.loop-i.i - 1 < count_of c.args.page.now.records.now = omega (arith, c.count-n.ensures) in
    let l = c.loop-i in let e : l.i ≡ l.i - 1 + 1 = omega arith in (
      links_out _ _ _ _ (rw drawn_length h) (rw e at l.invariant.0)
          (rw (drawn_kind, ← c.kind-declares.ensures) (refuted (says_within new_point new_arc c.kind-declares.result) (λ w. omega (arith, w.1, c.if-declares.false)))),
      l.invariant.1,
    )

pub returns : goal.returns
returns c =
    let l = c.loop-i in let e : l.i ≡ 0 = omega arith in
    rw e at l.invariant.0
