-- `names::labels::kind_of` meets its contract: the kind is a record's second byte. Assumes nothing.
use borrow.Author.Rules.{rules}
use Rattle.names.proofs.Drawn.{kind_here}
use Rattle.names.proofs.labels.kind_of.Goals as goal

pub returns : goal.returns
returns c = kind_here _ _ (search rules)
