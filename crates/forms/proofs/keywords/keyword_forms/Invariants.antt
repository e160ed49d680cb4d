-- What the loop keeps.
use mathlib.Core.Path.{◌≡◌}
use lib.ListN.{drop}
use Rattle.text.specs.declared.Stand.TheVariants.{At}
use Rattle.forms.specs.Forms.{keyword_kinds, first_of}
use Rattle.forms.proofs.keywords.keyword_forms.Given as goal

abbrev pub invariant-loop-kind : goal.invariant-loop-kind
invariant-loop-kind l = first_of l.text (At l.at) keyword_kinds ≡ first_of l.text (At l.at) (drop l.kind-index l.kind-items)
