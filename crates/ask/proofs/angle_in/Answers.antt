-- `ask::angle_in` meets its contract: it goes by the third byte. Assumes nothing.
use borrow.Author.Tests.{eq-eqb, ne_eqb}
use mathlib.Core.Path.{ap}
use Rattle.ask.specs.declared.Angle.TheVariants.{Degrees, Radians}
use Rattle.ask.proofs.angle_in.Goals as goal

pub returns-then-r-eq-DEGREES : goal.returns-then-r-eq-DEGREES
returns-then-r-eq-DEGREES c = rw (eq-eqb _ _ c.if-r-eq-DEGREES.true) (ap Degrees c.from_bits-x.ensures)

pub returns : goal.returns
returns c = rw (ne_eqb _ _ c.if-r-eq-DEGREES.false) (ap Radians c.from_bits-x.ensures)
