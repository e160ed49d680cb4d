-- `answers::drawn::print` meets its contract: the slices and the buffer are long enough for every page, so that what was written is all slots
-- and rows. Assumes nothing.
use mathlib.Core.Path.{sym}
use native.Mathlib.Omega.{arith}
use Rattle.answers.proofs.Drawings.{there, refused_lines, count_most, ids_size, values_size, rows_size, good_lines}
use Rattle.answers.proofs.drawn.print.Goals as goal

pub returns-in_default : goal.returns-in_default
returns-in_default c = rw (refused_lines c.requires c.lower-told.ensures c.in_default.is) c.lowered_line.ensures

pub overflow_mul-rows : goal.overflow_mul-rows
overflow_mul-rows c = omega (arith, count_most c.requires c.lower-told.ensures c.in-Ok.is)

pub slice_bounds-ids-end : goal.slice_bounds-ids-end
slice_bounds-ids-end c = there _ _ (ids_size c.requires c.lower-told.ensures c.in-Ok.is)

pub slice_bounds-drawn-end : goal.slice_bounds-drawn-end
slice_bounds-drawn-end c = sym (ids_size c.requires c.lower-told.ensures c.in-Ok.is)

pub slice_bounds-values-end : goal.slice_bounds-values-end
slice_bounds-values-end c = there _ _ (values_size c.requires c.lower-told.ensures c.in-Ok.is)

pub slice_bounds-drawn-end-2 : goal.slice_bounds-drawn-end-2
slice_bounds-drawn-end-2 c = sym (values_size c.requires c.lower-told.ensures c.in-Ok.is)

pub slice_bounds-rows-end : goal.slice_bounds-rows-end
slice_bounds-rows-end c = there _ _ (rows_size c.requires c.lower-told.ensures c.in-Ok.is)

pub slice_bounds-drawn-end-3 : goal.slice_bounds-drawn-end-3
slice_bounds-drawn-end-3 c = sym (rows_size c.requires c.lower-told.ensures c.in-Ok.is)

pub returns : goal.returns
returns c = rw (good_lines c.requires c.lower-told.ensures c.in-Ok.is) c.whole.ensures
