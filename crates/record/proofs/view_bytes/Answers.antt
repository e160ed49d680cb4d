-- `record::view_bytes` meets its contract: the two bytes of its start, then those of its length. Assumes nothing.
use Rattle.record.proofs.view_bytes.Goals as goal

pub returns : goal.returns
returns c = rw (c.le16-start.ensures, c.le16-len.ensures)
