-- `record::formed::judged` meets its contract: the loop's invariant is that no place passed is at fault and that it is known whether a
-- guess was passed. Assumes nothing.
use Rattle.std.specs.Prelude.{Err}
use mathlib.Core.Path.{◌≡◌, sym, ap, ◌∙◌}
use native.Mathlib.Omega.{arith}
use Rattle.record.specs.Decode.{record_of}
use Rattle.record.specs.Laid.{kind_told}
use Rattle.record.proofs.Back.{part_is}
use Rattle.record.proofs.Passed.{start, over, fault, next, end_good, end_fault}
use Rattle.record.proofs.formed.judged.Goals as goal

pub returns-then-not-text-n : goal.returns-then-not-text-n
returns-then-not-text-n c = ap Err c.malformed_at.ensures ∙ over _ _ _ (c.if-not-text-n.true)

pub loop-i-init : goal.loop-i-init
loop-i-init c = start _ _ _

pub returns-then-at_fault : goal.returns-then-at_fault
returns-then-at_fault c =
    let kind_is : let a = c.args in c.kind_by-kind.result ≡ kind_told a.full a.text.now (record_of a.records.now c.loop-i.i) = let a = c.args in c.kind_by-kind.ensures ∙ ap (kind_told a.full a.text.now) (part_is a.records.now c.loop-i.i) in
    ap Err c.malformed_at-then-at_fault.ensures
    ∙ fault _ _ _ (c.if-not-text-n.false) _ _ c.loop-i.invariant (omega arith) _ (kind_is)
    (sym c.at_fault.ensures ∙ c.if-at_fault.true)

pub loop-i-preserved : goal.loop-i-preserved
loop-i-preserved c =
    let kind_is : let a = c.args in c.kind_by-kind.result ≡ kind_told a.full a.text.now (record_of a.records.now c.loop-i.i) = let a = c.args in c.kind_by-kind.ensures ∙ ap (kind_told a.full a.text.now) (part_is a.records.now c.loop-i.i) in
    let fine = sym c.at_fault.ensures ∙ c.if-at_fault.false in
    next _ _ _ (c.if-not-text-n.false) _ _ c.loop-i.invariant (omega arith) _ (kind_is) fine

pub returns-then-records-guessed : goal.returns-then-records-guessed
returns-then-records-guessed c = end_good _ _ _ (c.if-not-text-n.false) _ _ c.loop-i.invariant (omega arith) c.if-records-guessed.true

pub returns : goal.returns
returns c =
    ap Err c.malformed_at-2.ensures
    ∙ end_fault _ _ _ (c.if-not-text-n.false) _ _ c.loop-i.invariant (omega arith) c.if-records-guessed.false
