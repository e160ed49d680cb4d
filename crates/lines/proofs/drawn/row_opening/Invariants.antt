-- Whatever was added before the loop, the ids passed are added behind that.
use Rattle.std.proofs.Common.{get_or}
use Rattle.ground.specs.Lists.{up_to}
use Rattle.print.specs.Print.{decimal_of}
use Rattle.rail.specs.Words.{spaced}
use Rattle.rail.proofs.Added.{Behind}
use Rattle.lines.proofs.drawn.row_opening.Given as goal

abbrev pub invariant-loop-q : goal.invariant-loop-q
invariant-loop-q l = Behind l.initial.rail (spaced (up_to l.q (λ i. decimal_of (get_or l.r.ids i 0)))) l.rail
