-- `forms::keywords::keyword_form` meets its contract: it is its definition, call by call, with what it looks up in the table. Assumes nothing.
use Rattle.std.proofs.Common.{rules}
use Rattle.kinds.proofs.Cells.{labels_is, number_is, gap_is}
use Rattle.forms.specs.Forms.{keyword_on}
use Rattle.forms.proofs.keywords.keyword_form.Goals as goal

pub returns : goal.returns
unfolding keyword_on
returns c =
    let k = c.args.kind in rw (← labels_is k, ← number_is k, ← gap_is k)
    (search rules)
