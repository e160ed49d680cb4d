-- Behind the first line stand the lines of the records passed.
use Rattle.ground.specs.Lists.{up_to}
use Rattle.record.specs.Decode.{decode_at}
use Rattle.record.specs.Entry.{entry_of}
use Rattle.rail.specs.Words.{joined}
use Rattle.lines.specs.Lines.{line_of}
use Rattle.rail.proofs.Added.{Behind}
use Rattle.answers.proofs.listed.ListingPiece.add.Given as goal

abbrev pub invariant-loop-i : goal.invariant-loop-i
invariant-loop-i l = Behind l.initial.rail (joined (up_to l.i (λ k. line_of (entry_of l.self.text.now (decode_at l.self.records.now k))))) l.rail
