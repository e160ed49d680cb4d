-- `lowering::rules::Line::row_ids` meets its contract: after q turns the ids of the first q names are in their places. Assumes nothing.
use mathlib.Core.Path.{◌≡◌, ◌∙◌}
use mathlib.Core.List.{List}
use native.Mathlib.Omega.{arith}
use Prim.Native.Nat.{ℕ, ◌<◌}
use lib.ListN.{length}
use Rattle.ground.proofs.UpTo.{length_up_to}
use Rattle.kinds.specs.Kinds.{kind_at, table, cell, labels_column}
use Rattle.kinds.proofs.Cells.{labels_is}
use Rattle.kinds.proofs.Table.{few_labels}
use Rattle.lowering.specs.Sketch.{ids_by}
use Rattle.lowering.specs.Steps.{names_at}
use Rattle.lowering.proofs.rows.Filling.{pieces_end, piece_fits, pieces_turn, span_read}
use Rattle.lowering.proofs.rules.Line.row_ids.Goals as goal

module _ (kind : ℕ) {n : ℕ} (found : n ≡ cell table kind labels_column) where
  -- how many labels there are
  labels : n ≡ (kind_at kind).labels
  labels = found ∙ labels_is kind

  module _ {q : ℕ} (h : q < n) where
    -- one of them is meant
    one_of_them : q < (kind_at kind).labels
    one_of_them = omega (arith, h, labels)

    -- it has a name
    inside : (names : List ℕ) (i : ℕ) → q < length (names_at names kind i)
    inside names i = rw (length_up_to (kind_at kind).labels _) one_of_them

pub bounds-self-self : goal.bounds-self-self
bounds-self-self c = let h : c.loop-q.q < c.cell_of-n.result = omega arith in omega (arith, c.args.self.now.inside, one_of_them c.args.kind c.cell_of-n.ensures h, few_labels c.args.kind)

pub add_name-m-requires : goal.add_name-m-requires
unfolding ids_by
add_name-m-requires c =
    let a = c.args in
    let p = c.loop-q.invariant in
    let h : c.loop-q.q < c.cell_of-n.result = omega arith in
    let here = inside a.kind c.cell_of-n.ensures h a.self.now.names.now a.self.now.i in
    let read = span_read a.self.now.names.now a.kind a.third a.self.now.i c.loop-q.q _ (one_of_them a.kind c.cell_of-n.ensures h) c.cell_of-code.ensures in
    rw read (
      p.long ∙ c.requires.1,
      c.requires.0.each c.loop-q.q here,
      rw (p.long, c.requires.1) at (piece_fits p here (omega (arith, c.requires.0.few, c.requires.1))),
    )

pub loop-q-preserved : goal.loop-q-preserved
unfolding ids_by
loop-q-preserved c =
    let a = c.args in
    let h : c.loop-q.q < c.cell_of-n.result = omega arith in
    let here = inside a.kind c.cell_of-n.ensures h a.self.now.names.now a.self.now.i in
    let read = span_read a.self.now.names.now a.kind a.third a.self.now.i c.loop-q.q _ (one_of_them a.kind c.cell_of-n.ensures h) c.cell_of-code.ensures in
    pieces_turn c.loop-q.invariant here (omega (arith, c.requires.0.few, c.requires.1)) _ _ (rw read at c.add_name-m.ensures)

pub returns : goal.returns
unfolding ids_by
returns c = pieces_end c.loop-q.invariant (rw (length_up_to (kind_at c.args.kind).labels _) (omega (arith, labels c.args.kind c.cell_of-n.ensures)))
