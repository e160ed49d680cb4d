-- What the loop keeps.
use mathlib.Core.Path.{◌≡◌}
use lib.ListN.{length}
use Rattle.record.specs.Record.{most_records}
use Rattle.names.specs.Labels.{drawn}
use Rattle.names.specs.Chains.{ChainedFrom}
use Rattle.names.proofs.chains.Chains.link.Given as goal

abbrev pub invariant-loop-i : goal.invariant-loop-i
invariant-loop-i l = ChainedFrom (drawn l.page.text.now l.page.records.now) l.i l.self.heads l.self.nexts × (length l.self.nexts ≡ most_records)
