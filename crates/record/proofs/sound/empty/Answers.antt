-- `record::sound::empty` meets its contract: it is the test of the view that is read. Assumes nothing.
use Rattle.record.proofs.sound.empty.Goals as goal

pub returns : goal.returns
returns c = rw c.view_at-v.ensures
