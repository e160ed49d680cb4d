-- `record::encode_record` meets its contract: it goes by whether the kind is a guess. Assumes nothing.
use borrow.Author.Tests.{le-leb, lt-leb}
use Rattle.record.specs.Record.{encode}
use Rattle.record.proofs.encode_record.Goals as goal

pub returns-then-r-ge-PAIR_GUESS : goal.returns-then-r-ge-PAIR_GUESS
unfolding encode
returns-then-r-ge-PAIR_GUESS c = rw (le-leb _ _ c.if-r-ge-PAIR_GUESS.true) c.guess_bytes.ensures

pub returns : goal.returns
unfolding encode
returns c = rw (lt-leb _ _ c.if-r-ge-PAIR_GUESS.false) c.instruction_bytes.ensures
