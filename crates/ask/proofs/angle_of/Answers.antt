-- `ask::angle_of` meets its contract: the kind of a bad record is 0, which has no angle. Assumes nothing.
use Rattle.std.specs.Prelude.{Ok, Err}
use borrow.Author.Tests.{ne_eqb}
use mathlib.Core.Path.{◌≡◌, sym, ap, ◌∙◌}
use Prim.Native.Nat.{ℕ}
use Rattle.kinds.specs.Kinds.{kind_at}
use Rattle.kinds.proofs.Cells.{number_is}
use Rattle.record.specs.Sound.{good_kind}
use Rattle.record.proofs.Back.{decode_one}
use Rattle.ask.specs.Ask.{angle_in, angle_of}
use Rattle.ask.proofs.Cases.{angle_good, angle_test}
use Rattle.ask.proofs.angle_of.Goals as goal

pub returns-then-cell_of-ne-ANGLE : goal.returns-then-cell_of-ne-ANGLE
unfolding angle_of
returns-then-cell_of-ne-ANGLE c =
    let sort_is : c.cell_of.result ≡ (kind_at (good_kind c.args.text.now c.args.bytes.now)).number = c.cell_of.ensures ∙ number_is c.good_kind-kind.result ∙ ap (λ (k : ℕ). (kind_at k).number) c.good_kind-kind.ensures in
    rw (angle_test, ← sort_is, ne_eqb _ _ c.if-cell_of-ne-ANGLE.true) (ap Err c.malformed_at.ensures)

pub returns : goal.returns
unfolding angle_of
returns c =
    let sort_is : c.cell_of.result ≡ (kind_at (good_kind c.args.text.now c.args.bytes.now)).number = c.cell_of.ensures ∙ number_is c.good_kind-kind.result ∙ ap (λ (k : ℕ). (kind_at k).number) c.good_kind-kind.ensures in
    let e = sym (sort_is) ∙ c.if-cell_of-ne-ANGLE.false in
    rw (angle_test, e) (ap Ok (c.angle_in.ensures ∙ ap angle_in (c.decode_record.ensures ∙ decode_one _ (angle_good _ _ e).framed.whole)))
