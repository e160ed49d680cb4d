-- `record::decode::fields` meets its contract: it goes by whether the kind is a guess. Assumes nothing.
use borrow.Author.Rules.{rules}
use borrow.Author.Tests.{le-leb, lt-leb}
use Rattle.record.proofs.decode.fields.Goals as goal

pub guess_fields-requires : goal.guess_fields-requires
guess_fields-requires c = (search rules, le-leb _ _ c.if-b-ge-PAIR_GUESS.true)

pub instruction_fields-requires : goal.instruction_fields-requires
instruction_fields-requires c = (search rules, lt-leb _ _ c.if-b-ge-PAIR_GUESS.false)
