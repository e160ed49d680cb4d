-- `record::sound::shaped` meets its contract: the cells that it looks at are what the kind has, and behind the head there is a label.
-- Assumes nothing.
use mathlib.Core.Path.{◌≡◌, sym, ◌∙◌}
use mathlib.Core.Bool.{Bool}
use mathlib.Core.List.{List}
use Prim.Native.Nat.{ℕ}
use native.Mathlib.Omega.{arith}
use Rattle.little.specs.Little.{byte}
use Rattle.kinds.specs.Kinds.{kind_at, table, cell, labels_column, thirds_column}
use Rattle.record.specs.Record.{mark}
use Rattle.record.specs.Steps.{head_by, shape_test}
use Rattle.kinds.proofs.Table.{guess_labels}
use Rattle.kinds.proofs.Cells.{labels_is, thirds_is, number_is}
use Rattle.refusal.proofs.Says.{says_and, says_if, says_eq, says_le, says_lt}
use Rattle.record.proofs.sound.shaped.Goals as goal

-- the head is tested by what the two cells that were looked up are
head_is : (k : ℕ) {labels thirds : ℕ} (b : List ℕ) {result : Bool} → labels ≡ cell table k labels_column → thirds ≡ cell table k thirds_column
    → result ≡ head_by labels thirds b → result ≡ head_by (kind_at k).labels (kind_at k).thirds b
head_is k b labels thirds tested =
    let n = labels ∙ labels_is k in
    let t = thirds ∙ thirds_is k in
    tested ∙ λ i. head_by (n i) (t i) b

pub returns-then-not-headed : goal.returns-then-not-headed
unfolding shape_test
returns-then-not-headed c = rw (← head_is _ _ c.cell_of-labels.ensures c.cell_of-thirds.ensures c.headed.ensures, c.if-not-headed.true)

pub rest-requires : goal.rest-requires
rest-requires c =
    let b = c.args.b.now in let k = byte b 1 in
    let n = (kind_at k).labels in
    let t = (kind_at k).thirds in
    let says = says_and (says_and (says_eq (byte b 0) mark) (says_and (says_lt 0 n) (says_eq (byte b 3) n)))
    (says_and (says_le (byte b 2) t) (says_if (says_lt 0 t) (says_lt 0 (byte b 2)))) in
    let h = (says.so (sym (head_is k b c.cell_of-labels.ensures c.cell_of-thirds.ensures c.headed.ensures) ∙ c.if-not-headed.false)).0.1 in
    (c.requires, omega (arith, h.0, h.1), λ g. omega (arith, h.1, guess_labels k g), c.cell_of-sort.ensures ∙ number_is k)

pub returns : goal.returns
unfolding shape_test
returns c = rw (← head_is _ _ c.cell_of-labels.ensures c.cell_of-thirds.ensures c.headed.ensures, c.if-not-headed.false) c.rest.ensures
