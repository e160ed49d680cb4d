-- `forms::declarations::declare` meets its contract: it is its definition, call by call; where the word cannot stand it reads nothing. Assumes nothing.
use mathlib.Core.Path.{sym}
use Rattle.forms.proofs.Words.{no_declaration}
use Rattle.forms.proofs.declarations.declare.Goals as goal

pub returns-then-not-may_stand : goal.returns-then-not-may_stand
returns-then-not-may_stand c = rw c.no_line.ensures (sym (no_declaration _ _ c.args.kind (c.may_stand.ensures c.if-not-may_stand.true)))
