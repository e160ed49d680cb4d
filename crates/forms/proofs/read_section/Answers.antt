-- `forms::read_section` meets its contract: a text that is too long has no lines, and none are read where reading stands at no place.
-- Assumes nothing.
use borrow.Author.Tests.{lt-ltb, le-ltb}
use Rattle.forms.specs.Section.{section_on}
use Rattle.forms.proofs.Turns.{none_read, nowhere}
use Rattle.forms.proofs.read_section.Goals as goal

pub returns-then-text-gt-LONGEST : goal.returns-then-text-gt-LONGEST
unfolding section_on
returns-then-text-gt-LONGEST c = rw (lt-ltb _ _ c.if-text-gt-LONGEST.true) (none_read _ _ _)

pub returns-in_default : goal.returns-in_default
unfolding section_on
returns-in_default c = rw (le-ltb _ _ c.if-text-gt-LONGEST.false) (nowhere _ _ _ _ c.args.stand _ c.in_default.not-At)
