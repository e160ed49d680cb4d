-- `names::labels::kind_at` meets its contract: past the last record there is no kind. Assumes nothing.
use Rattle.names.proofs.Drawn.{kind_past}
use Rattle.names.proofs.labels.kind_at.Goals as goal

pub returns-then-records-i : goal.returns-then-records-i
returns-then-records-i c = kind_past _ _ c.if-records-i.true
