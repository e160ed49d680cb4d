-- The digits of the rest that are due, before those written, are the number's.
use Rattle.std.proofs.Common.{◌≡◌, ◌++◌, length, drop}
use Rattle.print.specs.Print.{last_digits}
use Rattle.print.proofs.fill.Given as goal

abbrev pub invariant-loop-i : goal.invariant-loop-i
invariant-loop-i l = last_digits l.base (length l.initial.place) l.n ≡ last_digits l.base l.i l.rest ++ drop l.i l.place
