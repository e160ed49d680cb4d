-- `names::name_record` meets its contract: the table is filled up to label q of the record, and behind its last label stands 0. Assumes
-- nothing.
use mathlib.Core.Path.{◌≡◌, ap, ◌∙◌}
use mathlib.Core.List.{List}
use Prim.Native.Nat.{ℕ, ◌+◌, ◌*◌, ◌≤◌, ◌<◌}
use native.Mathlib.Omega.{arith}
use Rattle.kinds.specs.Kinds.{table, cell, labels_column, kind_at, label_places}
use Rattle.record.specs.Record.{most_records}
use Rattle.record.specs.Decode.{count_of, decode_at}
use Rattle.kinds.proofs.Cells.{labels_is}
use Rattle.names.specs.Labels.{drawn, kind_no}
use Rattle.names.specs.Names.{name_in}
use Rattle.kinds.proofs.Table.{few_labels}
use Rattle.names.proofs.Drawn.{laid_by, drawn_kind}
use Rattle.names.proofs.Tables.{name_there, named_more, named_on, absent_behind}
use Rattle.names.proofs.name_record.Goals as goal

-- how many labels the record has
labels_are : (records : List ℕ) (i kind labels : ℕ) → kind ≡ (decode_at records i).kind → labels ≡ cell table kind labels_column
    → i < count_of records → count_of records ≤ most_records → (labels ≡ (kind_at (decode_at records i).kind).labels) × (labels ≤ label_places) × (i < most_records)
labels_are records i kind labels k l there few =
    let is = l ∙ labels_is kind ∙ ap (λ (n : ℕ). (kind_at n).labels) k in
    (is, rw is (few_labels (decode_at records i).kind), omega (arith, there, few))

pub loop-q-init : goal.loop-q-init
loop-q-init c =
    let z : c.args.i * label_places ≡ c.args.i * label_places + 0 = omega arith in
    rw z at c.requires.2

pub label-requires : goal.label-requires
label-requires c =
    let p = c.requires in (p.1, rw (← (labels_are c.args.page.now.records.now _ _ _ c.kind.ensures c.cell_of-labels.ensures c.requires.1 (laid_by _ _ c.args.page.now.laid).few).0) c.loop-q-test.true)

pub name_of-requires : goal.name_of-requires
name_of-requires c = c.requires.0

pub overflow_mul-names : goal.overflow_mul-names
overflow_mul-names c = omega (arith, c.loop-q-test.true, labels_are c.args.page.now.records.now _ _ _ c.kind.ensures c.cell_of-labels.ensures c.requires.1 (laid_by _ _ c.args.page.now.laid).few)

pub overflow_add-names : goal.overflow_add-names
overflow_add-names c = omega (arith, c.loop-q-test.true, labels_are c.args.page.now.records.now _ _ _ c.kind.ensures c.cell_of-labels.ensures c.requires.1 (laid_by _ _ c.args.page.now.laid).few)

pub offset_bounds-names-i : goal.offset_bounds-names-i
offset_bounds-names-i c = omega (arith, c.loop-q-test.true, labels_are c.args.page.now.records.now _ _ _ c.kind.ensures c.cell_of-labels.ensures c.requires.1 (laid_by _ _ c.args.page.now.laid).few)

pub bounds-names-i : goal.bounds-names-i
bounds-names-i c = omega (arith, c.loop-q-test.true, labels_are c.args.page.now.records.now _ _ _ c.kind.ensures c.cell_of-labels.ensures c.requires.1 (laid_by _ _ c.args.page.now.laid).few)

pub loop-q-preserved : goal.loop-q-preserved
loop-q-preserved c =
    let l = c.loop-q in let t = c.loop-q-test.true in let (is, few, there) = labels_are c.args.page.now.records.now _ _ _ c.kind.ensures c.cell_of-labels.ensures c.requires.1 (laid_by _ _ c.args.page.now.laid).few in
    let z : c.args.i * label_places + l.q + 1 ≡ c.args.i * label_places + (l.q + 1) = omega arith in
    let es = drawn c.args.page.now.text.now c.args.page.now.records.now in
    let some : l.q < (kind_at (kind_no es c.args.i)).labels = rw (drawn_kind, ← is) t in
    let name : c.name_of.result ≡ name_in es (c.args.i * label_places + l.q) = rw (c.name_of.ensures, name_there es c.args.i l.q (omega arith) some, c.label.ensures) in
    rw z at (named_more _ _ _ l.invariant _ (omega (arith, t, few, there)) name)

pub returns : goal.returns
returns c =
    let l = c.loop-q in let (is, few, there) = labels_are c.args.page.now.records.now _ _ _ c.kind.ensures c.cell_of-labels.ensures c.requires.1 (laid_by _ _ c.args.page.now.laid).few in
    named_on _ _ _ l.invariant _ (omega arith) (omega arith) (λ k a b. absent_behind _ c.args.i k (rw (drawn_kind, ← is) (omega (arith, a))) b)
