-- `record::decode::decode_record` meets its contract: the part that it lends is the record's bytes. Assumes nothing.
use borrow.Author.Tests.{le-ltb, lt-ltb}
use Rattle.record.specs.Decode.{decode_at}
use Rattle.record.proofs.Back.{part_is}
use Rattle.record.proofs.decode.decode_record.Goals as goal

pub returns-then-records-i : goal.returns-then-records-i
unfolding decode_at
returns-then-records-i c = rw (le-ltb _ _ c.if-records-i.true) c.no_record.ensures

pub returns : goal.returns
unfolding decode_at
returns c = let a = c.args in rw (lt-ltb _ _ c.if-records-i.false, ← part_is a.records.now a.i) c.fields.ensures
