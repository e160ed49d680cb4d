-- `reader::page::high_at` meets its contract: it goes by whether all bytes are low. Assumes nothing.
use mathlib.Core.Path.{◌∙◌}
use native.Mathlib.Omega.{arith}
use Rattle.reader.proofs.High.{none_high, first_high}
use Rattle.reader.proofs.page.high_at.Goals as goal

pub returns-then-largest-lt128 : goal.returns-then-largest-lt128
returns-then-largest-lt128 c = none_high _ (λ k l. omega (arith, c.largest.ensures k l))

pub returns-else-largest-lt128 : goal.returns-else-largest-lt128
returns-else-largest-lt128 c = c.first_high.ensures ∙ first_high _
