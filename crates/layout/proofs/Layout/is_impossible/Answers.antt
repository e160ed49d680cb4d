-- `layout::Layout::is_impossible` meets its contract: it asks the tests that the definition lists. Assumes nothing.
use Rattle.layout.specs.declared.Stage.TheVariants.{Circles, Arcs}
use Rattle.layout.specs.Refusals.{impossible}
use Rattle.layout.proofs.Stages.{before}
use Rattle.layout.proofs.Layout.is_impossible.Goals as goal

pub returns : goal.returns
unfolding impossible
returns c = rw (c.lt.ensures, c.lt-2.ensures, before c.args.self.stage Circles, before c.args.self.stage Arcs)
