-- A listing meets its contract: each turn adds one record's line more. Assumes nothing.
use mathlib.Core.Path.{◌≡◌}
use native.Mathlib.Omega.{arith}
use Rattle.record.specs.Decode.{count_of}
use Rattle.rail.proofs.Added.{added, behind_more}
use Rattle.answers.specs.Steps.{listed_by}
use Rattle.answers.proofs.Joined.{joined_more}
use Rattle.answers.proofs.listed.ListingPiece.add.Goals as goal

pub loop-i-preserved : goal.loop-i-preserved
loop-i-preserved c = rw joined_more (behind_more c.loop-i.invariant (added c.record_line.ensures))

pub returns : goal.returns
unfolding listed_by
returns c =
    let e : c.loop-i.i ≡ count_of c.args.self.now.records.now = omega arith in
    rw e at (c.loop-i.invariant _ _ (added c.first_line.ensures))
