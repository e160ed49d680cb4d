-- `record::decode::view_at` meets its contract: each number is read at its place. Assumes nothing.
use Rattle.record.proofs.decode.view_at.Goals as goal

pub returns : goal.returns
returns c = λ i. record { start = c.u16_of.ensures i; len = c.u16_of-2.ensures i }
