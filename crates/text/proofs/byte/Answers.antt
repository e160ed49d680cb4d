-- `text::byte` meets its contract: a byte is a word of one byte, so it goes by that byte. Assumes nothing.
use borrow.Author.Tests.{eq-eqb, ne_eqb}
use mathlib.Core.Path.{sym, ◌∙◌}
use Prim.Native.Nat.{ℕ}
use lib.ListN.{drop_of_length-le}
use lib.Seq.{drop-cons}
use Rattle.text.specs.Text.{word_at, byte_on}
use Rattle.text.proofs.Laws.{handed}
use Rattle.text.proofs.byte.Goals as goal

pub returns-in_default : goal.returns-in_default
unfolding byte_on word_at
returns-in_default c = handed c.args.stand _ _ c.in_default.not-At

pub returns-in_default-get : goal.returns-in_default-get
unfolding byte_on word_at
returns-in_default-get c = rw (c.in-At.is, drop_of_length-le c.args.text.now c.in_default-get.ensures.lookup.3)

pub returns-then-here-b : goal.returns-then-here-b
unfolding byte_on word_at
returns-then-here-b c =
    let (stands, is) = c.in-Some.ensures.lookup.3 in rw (c.in-At.is, drop-cons {A = ℕ} _ _ 0 stands, eq-eqb _ _ (sym (is 0) ∙ c.if-here-b.true))

pub returns-else-here-b : goal.returns-else-here-b
unfolding byte_on word_at
returns-else-here-b c =
    let (stands, is) = c.in-Some.ensures.lookup.3 in rw (c.in-At.is, drop-cons {A = ℕ} _ _ 0 stands, ne_eqb _ _ (λ e. c.if-here-b.false (is 0 ∙ e)))
