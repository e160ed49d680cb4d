-- `record::formed::at_fault` meets its contract: it goes by whether the kind is a guess. Assumes nothing.
use borrow.Author.Tests.{le-leb, lt-leb, ne_eqb}
use mathlib.Core.Bool.{and-true, and-false, or-false}
use native.Mathlib.Omega.{arith}
use Rattle.record.proofs.formed.at_fault.Goals as goal

pub returns-then-kind-ge-PAIR_GUESS : goal.returns-then-kind-ge-PAIR_GUESS
returns-then-kind-ge-PAIR_GUESS c = rw (le-leb _ _ c.if-kind-ge-PAIR_GUESS.true, ne_eqb c.args.kind 0 (λ e. omega (arith, e, c.if-kind-ge-PAIR_GUESS.true)), and-true, or-false)

pub returns : goal.returns
returns c = rw (lt-leb _ _ c.if-kind-ge-PAIR_GUESS.false, and-false)
