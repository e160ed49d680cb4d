-- `forms::declarations::declaration` meets its contract: the words of the three declarations begin with three bytes. Assumes nothing.
use Rattle.kinds.specs.Kinds.{new_point, new_circle, new_arc}
use Rattle.forms.proofs.Begin.{declared_or, not_declared}
use borrow.Author.Tests.{ne_eqb}
use native.Mathlib.Omega.{arith}
use mathlib.Core.Path.{refl, sym, ◌∙◌}
use Rattle.forms.proofs.declarations.declaration.Goals as goal

pub returns-in-112 : goal.returns-in-112
returns-in-112 c =
    let e = sym c.byte_at.ensures ∙ c.in-112.is in
    rw (not_declared _ _ 112 e new_circle refl, not_declared _ _ 112 e new_arc refl, declared_or) c.declare.ensures

pub returns-in-99 : goal.returns-in-99
returns-in-99 c =
    let e = sym c.byte_at.ensures ∙ c.in-99.is in
    rw (not_declared _ _ 99 e new_point refl, not_declared _ _ 99 e new_arc refl, declared_or) c.declare-in-99.ensures

pub returns-in-97 : goal.returns-in-97
returns-in-97 c =
    let e = sym c.byte_at.ensures ∙ c.in-97.is in
    rw (not_declared _ _ 97 e new_point refl, not_declared _ _ 97 e new_circle refl) c.declare-in-97.ensures

pub returns-in_default : goal.returns-in_default
returns-in_default c =
    let e = sym c.byte_at.ensures in
    rw (
      c.no_line.ensures,
      not_declared _ _ _ e new_point (ne_eqb _ _ (omega (arith, c.in_default))),
      not_declared _ _ _ e new_circle (ne_eqb _ _ (omega (arith, c.in_default))),
      not_declared _ _ _ e new_arc (ne_eqb _ _ (omega (arith, c.in_default))),
    )
