-- `drawing::judge` meets its contract where names were resolved: a fault found, or none. Assumes nothing.
use mathlib.Core.Path.{◌∙◌}
use native.Mathlib.Omega.{arith}
use Rattle.record.specs.Decode.{count_of}
use Rattle.drawing.specs.Numbers.{lent_numbers, test_by}
use Rattle.drawing.specs.Judged.{judged_of}
use Rattle.drawing.proofs.Order.{found, found_none}
use Rattle.drawing.specs.Ranks.{rank}
use Rattle.drawing.proofs.Ranks.{rank_small, number_at}
use Rattle.drawing.proofs.judge.Goals as goal

pub returns-in-Some : goal.returns-in-Some
unfolding judged_of
returns-in-Some c =
    let a = c.args in let w = c.in-Some.w in let e = c.in-Some.ensures in
    let (f, is, number) = found (test_by (lent_numbers a.records.now a.names.now a.guesses.now)) (count_of a.records.now) (rank w.fault) w.place e (rank_small w.fault) in
    c.behind_30-in-Some.ensures ∙ rw (c.if-resolved-records.false, is, number_at w.fault, number)

pub returns : goal.returns
unfolding judged_of
returns c =
    let a = c.args in rw (
      c.if-resolved-records.false,
      found_none (test_by (lent_numbers a.records.now a.names.now a.guesses.now)) (count_of a.records.now) 5 0 (rw c.in_default.is at c.worst.ensures) (omega arith),
      ← c.count.ensures,
      ← c.count-2.ensures,
      ← c.count-3.ensures,
      ← c.count-4.ensures,
    )
