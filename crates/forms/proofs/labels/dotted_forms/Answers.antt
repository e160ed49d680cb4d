-- `forms::labels::dotted_forms` meets its contract: it goes by the first form that reads. Assumes nothing.
use Rattle.std.proofs.Common.{rules}
use Rattle.ground.specs.Words.{bytes}
use Rattle.text.specs.declared.Stand.TheVariants.{At}
use Rattle.kinds.specs.Kinds.{fix_component, fix_center}
use Rattle.forms.specs.Forms.{fixed_on}
use Rattle.forms.specs.Steps.{assigned_on}
use Rattle.forms.proofs.Begin.{or_assoc}
use Rattle.forms.proofs.Choice.{chosen}
use Rattle.forms.proofs.labels.dotted_forms.Goals as goal

pub returns : goal.returns
returns c =
    let s = c.args.text.now in
    let l = c.args.l in
    rw (← or_assoc (fixed_on s l fix_component (bytes ".")) (fixed_on s l fix_center (bytes ".center.")) (assigned_on s (At c.args.at) l))
    (chosen _ _ c.or_else-2.ensures (chosen _ _ c.or_else.ensures c.fix_component.ensures (λ p. search rules)) (λ p. search rules))
