-- The number of the digits is the one so far with the digits left behind it.
use Rattle.std.proofs.Common.{◌≡◌, ◌≤◌, drop}
use Rattle.batch.specs.Header.{most_bytes, size_after, size_written}
use Rattle.batch.proofs.size_of.Given as goal

abbrev pub invariant-loop-b : goal.invariant-loop-b
invariant-loop-b l = (l.n ≤ most_bytes) × (size_written l.line ≡ size_after l.n (drop l.b-index l.b-items))
