-- `reader::page::read_into` meets its contract: what is told is told of the page that was read, and what is copied are its records (`Ends`).
-- Assumes nothing.
use Rattle.reader.proofs.SoundPage.{instructions_read, guesses_read}
use mathlib.Core.Path.{refl, sym, ◌∙◌}
use Prim.Native.Nat.{◌+◌, ◌*◌}
use native.Mathlib.Omega.{arith}
use lib.Seq.{length-take-le}
use Rattle.reader.proofs.Ends.{few, ended}
use Rattle.reader.proofs.page.read_into.Goals as goal

pub tell-requires : goal.tell-requires
tell-requires c = let s = c.args.text.now in let p = c.read_page-page.ensures in (omega (arith, (instructions_read s).1), omega (arith, (guesses_read s).1))

pub slice_bounds-own-end : goal.slice_bounds-own-end
slice_bounds-own-end c =
    omega (arith, c.read_page-page.auto.own, few _ _ c.args.records.now _ _ _ _ _ c.read_page-page.ensures refl _ (sym c.in_ok-told.was ∙ c.tell.ensures))

pub slice_bounds-put-end : goal.slice_bounds-put-end
slice_bounds-put-end c =
    let long = c.read_page-page.auto.own in
    sym (length-take-le (28 * (c.in_ok-told.told.instructions + c.in_ok-told.told.guesses)) c.read_page-page.new.own
    (omega (arith, long, few _ _ c.args.records.now _ _ _ _ _ c.read_page-page.ensures refl _ (sym c.in_ok-told.was ∙ c.tell.ensures))))

pub returns : goal.returns
returns c = ended _ _ _ _ _ _ _ _ c.read_page-page.ensures refl _ _ (sym c.in_ok-told.was ∙ c.tell.ensures) c.put.ensures.buffer
