-- A record's line meets its contract: the opening and what follows are added one after the other. Assumes nothing.
use mathlib.Core.List.{append_assoc}
use Rattle.rail.proofs.Added.{both, said}
use Rattle.record.specs.Entry.{entry_of}
use Rattle.rail.proofs.Spaced.{spaced_append}
use Rattle.lines.specs.Lines.{line_of}
use Rattle.lines.proofs.words.RecordLinePiece.add.Goals as goal

pub returns : goal.returns
unfolding line_of entry_of
returns c = said (both c.opening.ensures c.from_third.ensures) (simp (spaced_append, append_assoc))
