-- `text::parse_label` meets its contract: each way out rewrites with where the letters and digits end. Assumes nothing.
use borrow.Author.Tests.{le-leb, lt-leb}
use Rattle.text.specs.Text.{is_alphanum, label_at, label_on}
use Rattle.text.proofs.Laws.{handed}
use Rattle.text.proofs.parse_label.Goals as goal

pub returns-in_default : goal.returns-in_default
unfolding label_on label_at
returns-in_default c = handed c.args.stand _ _ c.in_default.not-At

pub returns-then-next-at : goal.returns-then-next-at
unfolding label_on label_at
returns-then-next-at c = rw (c.in-At.is, ← c.run_to-next.ensures is_alphanum (λ b r k. k), le-leb _ _ c.if-next-at.true)

pub returns : goal.returns
unfolding label_on label_at
returns c = rw (c.in-At.is, ← c.run_to-next.ensures is_alphanum (λ b r k. k), lt-leb _ _ c.if-next-at.false)
