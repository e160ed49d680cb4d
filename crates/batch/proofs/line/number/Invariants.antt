-- The number of the line is the one so far with the digits left behind it.
use Rattle.std.proofs.Common.{◌≡◌, ◌≤◌, drop}
use Rattle.batch.specs.Line.{word_number, number_from}
use Rattle.batch.proofs.line.number.Given as goal

abbrev pub invariant-loop-b : goal.invariant-loop-b
invariant-loop-b l = (l.word ≤ l.b-index) × (word_number l.k l.line ≡ number_from l.k l.word l.n (drop l.b-index l.line))
