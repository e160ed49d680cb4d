-- `names::laid::Laid::label` meets its contract: a label that the record's kind has lies inside the text, and its view is written at its place.
-- Assumes nothing.
use mathlib.Core.Path.{◌≡◌, sym, ◌∙◌}
use Prim.Native.Nat.{◌+◌, ◌-◌}
use native.Mathlib.Omega.{arith}
use Rattle.record.specs.Decode.{decode_at}
use Rattle.kinds.proofs.Table.{few_labels}
use Rattle.names.proofs.Drawn.{laid_by, view_inside, label_read, drawn_label}
use Rattle.names.proofs.laid.Laid.label.Goals as goal

pub overflow_mul-k-2 : goal.overflow_mul-k-2
overflow_mul-k-2 c = omega (arith, c.requires.1, few_labels (decode_at c.args.self.now.records.now c.args.i).kind)

pub overflow_add-k-2 : goal.overflow_add-k-2
overflow_add-k-2 c = omega (arith, c.requires.1, few_labels (decode_at c.args.self.now.records.now c.args.i).kind)

pub overflow_add-m : goal.overflow_add-m
overflow_add-m c = omega (arith, c.requires.1, few_labels (decode_at c.args.self.now.records.now c.args.i).kind)

pub bounds-self-k : goal.bounds-self-k
bounds-self-k c = omega (arith, c.requires.1, few_labels (decode_at c.args.self.now.records.now c.args.i).kind)

pub overflow_add-k-3 : goal.overflow_add-k-3
overflow_add-k-3 c = omega (arith, c.requires.1, few_labels (decode_at c.args.self.now.records.now c.args.i).kind)

pub bounds-self-k-2 : goal.bounds-self-k-2
bounds-self-k-2 c = omega (arith, c.requires.1, few_labels (decode_at c.args.self.now.records.now c.args.i).kind)

pub bounds-self-m : goal.bounds-self-m
bounds-self-m c = omega (arith, c.requires.1, few_labels (decode_at c.args.self.now.records.now c.args.i).kind)

pub overflow_add-m-2 : goal.overflow_add-m-2
overflow_add-m-2 c = omega (arith, c.requires.1, few_labels (decode_at c.args.self.now.records.now c.args.i).kind)

pub bounds-self-m-2 : goal.bounds-self-m-2
bounds-self-m-2 c = omega (arith, c.requires.1, few_labels (decode_at c.args.self.now.records.now c.args.i).kind)

pub slice_bounds-result-end : goal.slice_bounds-result-end
slice_bounds-result-end c = let p = c.requires in let laid = laid_by _ _ c.args.self.now.laid in rw (c.u16_of-start.ensures, c.u16_of.ensures) (view_inside _ _ _ p.0 (laid.each _ p.0) _ p.1)

pub returns : goal.returns
returns c =
    let p = c.requires in let laid = laid_by _ _ c.args.self.now.laid in let start = c.u16_of-start in let len = c.u16_of in let z : start.result + len.result - start.result ≡ len.result = omega arith in
    rw (z, start.ensures, len.ensures) (label_read _ _ _ p.0 (laid.each _ p.0) _ p.1 ∙ sym (drawn_label _ _ _ _))
