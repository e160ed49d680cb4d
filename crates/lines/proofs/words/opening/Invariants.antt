-- Whatever was added before the loop, the labels passed are added behind that.
use Rattle.ground.specs.Lists.{up_to}
use Rattle.record.specs.Entry.{named}
use Rattle.rail.specs.Words.{spaced}
use Rattle.rail.proofs.Added.{Behind}
use Rattle.lines.proofs.words.opening.Given as goal

abbrev pub invariant-loop-q : goal.invariant-loop-q
invariant-loop-q l = Behind l.initial.rail (spaced (up_to l.q (named l.text l.r))) l.rail
