-- `record::sound::good_kind` meets its contract: in full, the kind that is told is that of a good record. Assumes nothing.
use mathlib.Core.Path.{◌∙◌}
use Rattle.record.proofs.Records.{kind_good}
use Rattle.record.proofs.sound.good_kind.Goals as goal

pub returns : goal.returns
returns c = c.kind_by.ensures ∙ kind_good _ _
