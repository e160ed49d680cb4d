-- `reader::page::read` meets its contract: 1 and 2 are told of the text, and then what reading gives. Assumes nothing.
use borrow.Author.Tests.{lt-ltb, le-ltb}
use mathlib.Core.Path.{refl}
use Rattle.reader.specs.Page.{reading_of}
use Rattle.reader.proofs.Ends.{reads_by}
use Rattle.reader.proofs.page.read.Goals as goal

pub returns-then-text-gt-LONGEST : goal.returns-then-text-gt-LONGEST
unfolding reading_of
returns-then-text-gt-LONGEST c = rw c.refused.ensures (reads_by (rw (lt-ltb _ _ c.if-text-gt-LONGEST.true)) refl)

pub returns-then-high-text : goal.returns-then-high-text
unfolding reading_of
returns-then-high-text c = rw c.refused-then-high-text.ensures (reads_by (rw (le-ltb _ _ c.if-text-gt-LONGEST.false, ← c.high_at-high.ensures, lt-ltb _ _ c.if-high-text.true)) refl)

pub returns : goal.returns
unfolding reading_of
returns c = let r = c.read_into.ensures in reads_by (rw (le-ltb _ _ c.if-text-gt-LONGEST.false, ← c.high_at-high.ensures, le-ltb _ _ c.if-high-text.false) r.told) r.buffer
