-- `record::sound::kind_by` meets its contract: each test that it goes by is one of the contract's. Assumes nothing.
use borrow.Author.Tests.{eq-eqb, ne_eqb}
use Rattle.record.specs.Decode.{decode}
use Rattle.record.specs.Laid.{kind_told}
use Rattle.record.proofs.Records.{shape_is}
use Rattle.record.proofs.sound.kind_by.Goals as goal

pub returns-then-b-ne-SIZE : goal.returns-then-b-ne-SIZE
unfolding kind_told
returns-then-b-ne-SIZE c = rw (← shape_is, ne_eqb _ _ c.if-b-ne-SIZE.true)

pub returns-then-not-shaped : goal.returns-then-not-shaped
unfolding kind_told
returns-then-not-shaped c = rw (← shape_is, eq-eqb _ _ c.if-b-ne-SIZE.false, ← c.shaped.ensures, c.if-not-shaped.true)

pub returns-then-labelled : goal.returns-then-labelled
unfolding kind_told decode
returns-then-labelled c = rw (← shape_is, eq-eqb _ _ c.if-b-ne-SIZE.false, ← c.shaped.ensures, c.if-not-shaped.false, ← c.labelled.ensures, c.if-labelled.true)

pub returns-else-labelled : goal.returns-else-labelled
unfolding kind_told
returns-else-labelled c = rw (← shape_is, eq-eqb _ _ c.if-b-ne-SIZE.false, ← c.shaped.ensures, c.if-not-shaped.false, ← c.labelled.ensures, c.if-labelled.false)
