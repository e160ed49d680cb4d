-- `names::resolve` meets its contract: of records that are laid out the chains are made, and by them the names, and by those the guesses.
-- Assumes nothing.
use mathlib.Core.Path.{◌≡◌, sym}
use mathlib.Core.Bool.{true}
use Prim.Native.Nat.{◌≤◌}
use native.Mathlib.Omega.{arith}
use lib.ListN.{length}
use Rattle.record.specs.Record.{most_records}
use Rattle.record.specs.Laid.{laid_out}
use Rattle.names.specs.Labels.{drawn}
use Rattle.names.specs.Names.{name_places, names_of, guess_places}
use Rattle.names.proofs.Drawn.{laid_by, drawn_length}
use Rattle.names.proofs.Tables.{filled, names_inside, noted_all}
use Rattle.names.proofs.resolve.Goals as goal

pub name_all-requires : goal.name_all-requires
name_all-requires c = (c.link.ensures, filled name_places 0 _ _ (omega arith) (c.fill.ensures.after (λ y e. e)))

pub overflow_cast-count : goal.overflow_cast-count
overflow_cast-count c = omega (arith, c.count.ensures, (laid_by _ _ c.in-Some.page.laid).few)

pub note-requires : goal.note-requires
note-requires c =
    let a = c.args in let (t, r) = c.in-Some.ensures in
    let w = laid_by a.text.now a.records.now (rw (t, r) at c.in-Some.page.laid) in let few : length (drawn a.text.now a.records.now) ≤ most_records = rw drawn_length w.few in
    (w.few, (λ k. rw (c.name_all.ensures, t, r) (names_inside _ few k)), filled guess_places _ _ _ (omega arith) (rw (c.count.ensures, r) at (c.fill-2.ensures.after (λ y e. e))))

pub returns : goal.returns
returns c =
    let a = c.args in let (t, r) = c.in-Some.ensures in let yes : laid_out a.text.now a.records.now ≡ true = rw (t, r) at c.in-Some.page.laid in
    let named : c.name_all.new.names ≡ names_of (drawn a.text.now a.records.now) = rw (t, r) at c.name_all.ensures in
    record {
      told = sym yes;
      names_are = rw yes named;
      guesses_are = rw yes (noted_all _ _ (laid_by _ _ yes) _ (rw named at c.note.ensures));
    }
