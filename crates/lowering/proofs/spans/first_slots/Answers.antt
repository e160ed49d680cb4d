-- `lowering::spans::first_slots` meets its contract: after i turns the first i records have their first slots. Assumes nothing.
use borrow.Author.Rules.{rules}
use native.Mathlib.Omega.{arith}
use Rattle.kinds.specs.Kinds.{new_point, new_arc, Declaration}
use Rattle.names.proofs.Laws.{says_within}
use Rattle.lowering.proofs.ids.Firsts.{placing_start, place_small, placing_turn, placing_skip, placing_end}
use Rattle.lowering.proofs.spans.first_slots.Goals as goal
use Rattle.lowering.proofs.spans.first_slots.Goals.{then-contains, else-contains}

pub loop-i-init : goal.loop-i-init
loop-i-init c = placing_start _ _ _ c.args.sheet.now.counted _ c.requires

pub overflow_add-then : goal.overflow_add-then
overflow_add-then c =
    let declares : Declaration c.kind_at-kind.result = (says_within new_point new_arc c.kind_at-kind.result).so (search rules) in
    omega (arith, c.size_by.ensures, place_small _ _ _ c.args.sheet.now.counted c.loop-i.invariant c.kind_at-kind.result (declares) (omega arith))

pub loop-i-preserved : goal.loop-i-preserved
loop-i-preserved c =
    let p = c.loop-i.invariant in
    let k = c.kind_at-kind in
    elim c.if-contains.branch [
      | then-contains w ↦ rw (w.firsts-is, w.at-is) (placing_turn _ _ _ c.args.sheet.now.counted p k.result _ k.ensures ((says_within new_point new_arc k.result).so (search rules)) w.size_by.ensures (omega (arith, c.args.sheet.now.counted.few, p.long)))
      | else-contains w ↦ rw (w.firsts-is, w.at-is) (placing_skip _ _ _ c.args.sheet.now.counted p k.result k.ensures (search rules))
    ]

pub returns : goal.returns
returns c = placing_end _ _ _ c.args.sheet.now.counted c.loop-i.invariant (omega arith)
