-- A row's line meets its contract: its words are added one after the other. Assumes nothing.
use mathlib.Core.List.{append_assoc}
use Rattle.rail.proofs.Added.{added, both, said}
use Rattle.ground.proofs.UpTo.{map_up_to}
use Rattle.row.specs.Row.{meant}
use Rattle.rail.proofs.Spaced.{spaced_append}
use Rattle.lines.specs.Lines.{line_of}
use Rattle.lines.specs.Drawn.{row_line}
use Rattle.lines.proofs.drawn.RowLinePiece.add.Goals as goal

pub returns : goal.returns
unfolding row_line meant line_of
returns c =
    both (added c.add.ensures)
    (said (both c.row_opening.ensures c.from_third.ensures) (simp (map_up_to, spaced_append, append_assoc)))
