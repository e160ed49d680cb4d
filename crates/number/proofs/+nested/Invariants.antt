-- What falls at each call of `number::nested` by itself.
use Rattle.number.proofs.+nested.Given as goal

abbrev pub decreases-nested : goal.decreases-nested
decreases-nested l = l.left
