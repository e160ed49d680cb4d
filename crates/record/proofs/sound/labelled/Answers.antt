-- `record::sound::labelled` meets its contract: it goes by whether all labels are looked at. Assumes nothing.
use mathlib.Core.Path.{ap, ◌∙◌}
use mathlib.Core.Bool.{◌&&◌}
use Prim.Native.Nat.{ℕ}
use lib.Dec.{leb, eqb}
use lib.ListN.{length}
use borrow.Author.Tests.{le-leb, lt-leb}
use Rattle.little.specs.Little.{byte}
use Rattle.kinds.specs.Kinds.{with_point}
use Rattle.record.specs.Record.{longest_text}
use Rattle.record.specs.Decode.{decode}
use Rattle.record.specs.Laid.{spelled_all}
use Rattle.kinds.proofs.Cells.{dotted_is}
use Rattle.record.proofs.Records.{some_count, inside_here}
use Rattle.record.proofs.sound.labelled.Goals as goal

pub returns-then-full : goal.returns-then-full
unfolding decode
returns-then-full c =
    let b = c.args.b.now in let text = c.args.text.now in let dotted = ap (λ (n : ℕ). eqb n with_point) c.cell_of-dotted.ensures ∙ dotted_is (byte b 1) in
    rw c.if-full.true (λ i. leb (length text) longest_text && (c.spelled_all.ensures ∙ ap (spelled_all text (decode b)) dotted) i)

pub returns-then-not-declares : goal.returns-then-not-declares
unfolding decode
returns-then-not-declares c = rw (c.if-full.false, lt-leb _ _ c.if-not-declares.true)

pub spelled_at-requires : goal.spelled_at-requires
spelled_at-requires c = rw c.view_at.ensures (inside_here _ _ c.requires 0 (some_count _ _ c.requires))

pub returns : goal.returns
unfolding decode
returns c = rw (c.if-full.false, le-leb _ _ c.if-not-declares.false) (rw c.view_at.ensures at c.spelled_at.ensures)
