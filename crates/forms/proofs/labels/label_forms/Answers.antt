-- `forms::labels::label_forms` meets its contract: the byte behind the label tells which forms read nothing. Assumes nothing.
use borrow.Author.Tests.{ne_eqb}
use native.Mathlib.Omega.{arith}
use mathlib.Core.Path.{refl, sym, ◌∙◌}
use mathlib.Core.Logic.{⊎_elim}
use Rattle.forms.specs.Forms.{label_forms_on}
use Rattle.forms.proofs.Begin.{no_point, no_label_form}
use Rattle.forms.proofs.labels.label_forms.Goals as goal

pub returns-in_default : goal.returns-in_default
unfolding label_forms_on
returns-in_default c = rw (← c.parse_label-l.ensures) c.dotted_forms.ensures

pub returns-in-46 : goal.returns-in-46
unfolding label_forms_on
returns-in-46 c = rw (← c.parse_label-l.ensures) c.dotted_forms-in-46.ensures

pub returns-in-40 : goal.returns-in-40
unfolding label_forms_on
returns-in-40 c =
    let l = c.parse_label-l in
    let e = sym c.byte_at.ensures in
    rw (← l.ensures)
    (c.keyword_forms.ensures
    ∙ ⊎_elim (λ is. no_label_form _ _ l.result _ 40 c.in-At.is (e ∙ is) refl refl refl) (λ is. no_label_form _ _ l.result _ 95 c.in-At.is (e ∙ is) refl refl refl) c.in-40.is)

pub returns-in_default-byte_at : goal.returns-in_default-byte_at
unfolding label_forms_on
returns-in_default-byte_at c =
    let l = c.parse_label-l in
    let no_dot = ne_eqb c.byte_at.result 46 (omega (arith, c.in_default-byte_at)) in
    rw (← l.ensures) (c.assign_forms.ensures ∙ no_point _ _ l.result _ _ c.in-At.is (sym c.byte_at.ensures) no_dot)
