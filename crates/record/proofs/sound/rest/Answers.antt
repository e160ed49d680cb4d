-- `record::sound::rest` meets its contract: it goes by whether the kind is a guess. Assumes nothing.
use borrow.Author.Rules.{rules}
use mathlib.Core.Bool.{and-true, or-true}
use mathlib.Core.Path.{◌≡◌}
use native.Mathlib.Omega.{arith}
use borrow.Author.Tests.{le-leb, lt-leb}
use Rattle.little.specs.Little.{byte}
use Rattle.record.specs.Decode.{decode}
use Rattle.record.specs.Steps.{rest_test}
use Rattle.record.proofs.sound.rest.Goals as goal

pub returns-then-b-ge-PAIR_GUESS : goal.returns-then-b-ge-PAIR_GUESS
unfolding rest_test decode
returns-then-b-ge-PAIR_GUESS c =
    let g = c.if-b-ge-PAIR_GUESS.true in let one : byte c.args.b.now 3 ≡ 1 = omega (arith, c.requires.1, c.requires.2 g) in
    rw (le-leb _ _ g, one, ← c.requires.3, ← c.inside.ensures, and-true, and-true, and-true)
    (rw (← c.ended.ensures, ← c.u64_at.ensures, ← c.u64_at-then-b-ge-PAIR_GUESS.ensures))

pub placed-requires : goal.placed-requires
placed-requires c = (search rules, lt-leb _ _ c.if-b-ge-PAIR_GUESS.false, search rules)

pub returns : goal.returns
unfolding rest_test decode
returns c = rw (← c.placed.ensures, lt-leb _ _ c.if-b-ge-PAIR_GUESS.false, ← c.requires.3, ← c.u64_at-2.ensures, or-true, and-true)
