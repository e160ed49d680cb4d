-- `forms::lines::parse_instruction` meets its contract: it goes by the first form that reads, and none reads at no place. Assumes nothing.
use mathlib.Core.Path.{◌∙◌}
use Rattle.std.proofs.Common.{rules}
use Rattle.forms.proofs.Begin.{by_declaration, forms_nowhere}
use Rattle.forms.proofs.Choice.{chosen}
use Rattle.forms.proofs.Stands.{halted}
use Rattle.forms.proofs.lines.parse_instruction.Goals as goal

pub returns-in_default : goal.returns-in_default
returns-in_default c = let s = c.ws-s in let keys = c.in_default.not-At in rw (by_declaration, ← s.ensures, c.no_line.ensures) (halted s.result _ keys ∙ forms_nowhere _ s.result keys)

pub returns : goal.returns
returns c = rw (by_declaration, ← c.ws-s.ensures, c.in-At.is) (chosen _ _ c.or_else.ensures c.declaration.ensures (λ p. search rules))
