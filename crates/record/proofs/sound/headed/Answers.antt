-- `record::sound::headed` meets its contract: it is the test itself. Assumes nothing.
use mathlib.Core.Path.{refl}
use Rattle.record.proofs.sound.headed.Goals as goal

pub returns : goal.returns
returns c = refl
