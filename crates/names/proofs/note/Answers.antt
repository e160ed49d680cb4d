-- `names::note` meets its contract: the table holds the lowest of the records from i on that guess each part. Assumes
-- nothing.
use mathlib.Core.Path.{◌≡◌, ap}
use mathlib.Core.Bool.{true, ◌&&◌}
use mathlib.Core.List.{List}
use Prim.Native.Nat.{ℕ, ◌≤◌, ◌+◌, ◌-◌, ◌<◌}
use native.Mathlib.Omega.{arith}
use lib.Dec.{leb}
use lib.ListN.{get_or}
use Rattle.ground.proofs.Lists.{and_second}
use Rattle.kinds.specs.Kinds.{pair_guess}
use Rattle.record.specs.Decode.{count_of}
use Rattle.names.specs.Names.{place_by, guess_places, tells_part}
use Rattle.names.specs.Steps.{Inside, NotedFrom}
use Rattle.names.proofs.First.{firsts_none}
use Rattle.names.proofs.Names.{says_tells}
use Rattle.names.proofs.Tables.{noted_out, noted_in}
use Rattle.names.proofs.note.Goals as goal

-- record i - 1 is there, with the table so far
so_far : (records names guesses : List ℕ) (i : ℕ) → 0 < i → i ≤ count_of records → NotedFrom records names i guesses
    → (i - 1 < count_of records) × NotedFrom records names (i - 1 + 1) guesses
so_far records names guesses i some le f = let e : i ≡ i - 1 + 1 = omega (arith, some) in (omega (arith, some, le), rw e at f)

-- the place of a guess is in the table
place_inside : (names : List ℕ) (at kind name : ℕ) → Inside names → name ≡ get_or names at 0 → (leb pair_guess kind && tells_part name) ≡ true → place_by name < guess_places
place_inside names at kind name f e t = omega (arith, e, f at, ((says_tells name).so (and_second (leb pair_guess kind) _ t)).1)

pub loop-i-init : goal.loop-i-init
loop-i-init c = firsts_none _ _ _ _ _ (omega arith) c.requires.2

pub offset_bounds-names-i : goal.offset_bounds-names-i
offset_bounds-names-i c = omega (arith, c.requires.0)

pub bounds-names-i : goal.bounds-names-i
bounds-names-i c = omega (arith, c.requires.0)

pub kind_of-requires : goal.kind_of-requires
kind_of-requires c = omega arith

pub overflow_cast-guesses : goal.overflow_cast-guesses
overflow_cast-guesses c = omega (arith, c.requires.0)

pub overflow_mul-guesses : goal.overflow_mul-guesses
overflow_mul-guesses c = omega (arith, place_inside _ _ _ _ c.requires.1 c.wide-name.ensures c.if-kind_of-name.true)

pub overflow_add-guesses : goal.overflow_add-guesses
overflow_add-guesses c = omega (arith, place_inside _ _ _ _ c.requires.1 c.wide-name.ensures c.if-kind_of-name.true)

pub offset_bounds-guesses-name : goal.offset_bounds-guesses-name
offset_bounds-guesses-name c = omega (arith, place_inside _ _ _ _ c.requires.1 c.wide-name.ensures c.if-kind_of-name.true)

pub bounds-guesses-name : goal.bounds-guesses-name
bounds-guesses-name c = place_inside _ _ _ _ c.requires.1 c.wide-name.ensures c.if-kind_of-name.true

pub loop-i-preserved-then-kind_of-name : goal.loop-i-preserved-then-kind_of-name
loop-i-preserved-then-kind_of-name c =
    let (there, so) = so_far _ _ _ _ c.loop-i-test.true c.loop-i.auto.i c.loop-i.invariant in
    noted_in _ _ _ _ there so _ (ap place_by c.wide-name.ensures) (rw (c.kind_of.ensures, c.wide-name.ensures) at c.if-kind_of-name.true) (place_inside _ _ _ _ c.requires.1 c.wide-name.ensures c.if-kind_of-name.true)

pub loop-i-preserved : goal.loop-i-preserved
loop-i-preserved c =
    let (there, so) = so_far _ _ _ _ c.loop-i-test.true c.loop-i.auto.i c.loop-i.invariant in
    noted_out _ _ _ _ there so (rw (c.kind_of.ensures, c.wide-name.ensures) at c.if-kind_of-name.false)

pub returns : goal.returns
returns c =
    let l = c.loop-i in let e : l.i ≡ 0 = omega arith in
    rw e at l.invariant
