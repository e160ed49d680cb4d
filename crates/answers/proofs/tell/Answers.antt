-- `answers::tell` meets its contract, by what is asked. Assumes nothing.
use mathlib.Core.Logic.{inl, inr}
use Rattle.answers.proofs.Records.{listed_is}
use Rattle.answers.proofs.tell.Goals as goal

pub returns-in-Plain : goal.returns-in-Plain
returns-in-Plain c =
    let listed = rw (listed_is c.requires c.args.reading) at c.print.ensures in
    elim c.in-Plain.is [ inl e ↦ rw e listed | inr e ↦ rw e listed ]
