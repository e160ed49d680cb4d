-- `answers::print` meets its contract: a refusal is told in its line, and what is asked is told of the records that a good reading wrote.
-- Assumes nothing.
use mathlib.Core.Path.{sym}
use Prim.Native.Nat.{ℕ}
use native.Mathlib.Omega.{arith}
use lib.ListN.{length-replicate}
use lib.Seq.{length-take-le}
use Rattle.answers.proofs.Records.{few_read, read_is, refused_answer, good_answer}
use Rattle.record.specs.Record.{record_room}
use Rattle.answers.proofs.print.Goals as goal

pub returns-in_default : goal.returns-in_default
returns-in_default c = rw (refused_answer _ c.read-reading.ensures c.in_default.is) c.first_line.ensures

pub overflow_add-n : goal.overflow_add-n
overflow_add-n c = omega (arith, few_read c.read-reading.ensures c.in-Ok.is)

pub overflow_mul-n : goal.overflow_mul-n
overflow_mul-n c = omega (arith, few_read c.read-reading.ensures c.in-Ok.is)

pub slice_bounds-records-end : goal.slice_bounds-records-end
slice_bounds-records-end c = let r = c.read-reading in omega (arith, few_read r.ensures c.in-Ok.is, r.auto.records, length-replicate {0} {A = ℕ} record_room 0)

pub slice_bounds-tell-end : goal.slice_bounds-tell-end
slice_bounds-tell-end c = let r = c.read-reading in sym (length-take-le _ _ (omega (arith, few_read r.ensures c.in-Ok.is, r.auto.records, length-replicate {0} {A = ℕ} record_room 0)))

pub tell-requires : goal.tell-requires
tell-requires c = read_is c.read-reading.ensures c.in-Ok.is

pub returns : goal.returns
returns c = rw (good_answer _ c.read-reading.ensures c.in-Ok.is) c.tell.ensures
