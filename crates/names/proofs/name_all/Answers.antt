-- `names::name_all` meets its contract: the table is filled up to record i.  Assumes nothing.
use native.Mathlib.Omega.{arith}
use Rattle.names.proofs.Drawn.{laid_by, drawn_length}
use Rattle.names.proofs.Tables.{named_none, named_all}
use Rattle.names.proofs.name_all.Goals as goal

pub loop-i-init : goal.loop-i-init
loop-i-init c = named_none _ _ c.requires.1

pub name_record-requires : goal.name_record-requires
name_record-requires c = let p = c.requires in (p.0, rw (← c.count-i-end.ensures) c.loop-i-test.true, c.loop-i.invariant)

pub loop-i-preserved : goal.loop-i-preserved
loop-i-preserved c = c.name_record.ensures

pub returns : goal.returns
returns c =
    let l = c.loop-i in let n = drawn_length c.args.page.now.text.now c.args.page.now.records.now in
    named_all _ _ _ l.invariant (omega (arith, drawn_length c.args.page.now.text.now c.args.page.now.records.now)) (omega (arith, (laid_by _ _ c.args.page.now.laid).few, c.count-i-end.ensures))
