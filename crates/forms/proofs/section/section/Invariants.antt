-- What the loop keeps.
use Rattle.text.specs.declared.Stand.TheVariants.{At}
use Rattle.forms.specs.Section.{lines_on}
use Rattle.forms.specs.Steps.{stop_of}
use Rattle.forms.proofs.Turns.{Left}
use Rattle.forms.proofs.section.section.Given as goal

abbrev pub invariant-loop : goal.invariant-loop
invariant-loop l = Left l.guesses l.text l.initial.own l.start (lines_on l.guesses l.text (At l.first) l.number) l.own l.n (At l.at) (stop_of l.first l.number l.last) l.counter
