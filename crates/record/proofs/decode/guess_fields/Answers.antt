-- `record::decode::guess_fields` meets its contract: each field is read at its place. Assumes nothing.
use Rattle.record.specs.Decode.{decode}
use Rattle.record.proofs.decode.guess_fields.Goals as goal

pub returns : goal.returns
unfolding decode
returns c = rw (c.requires.1, ← c.view_at.ensures, ← c.u64_at.ensures, ← c.u64_at-2.ensures)
