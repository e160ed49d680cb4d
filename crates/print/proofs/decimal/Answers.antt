-- `print::decimal` meets its contract: the digits fill the start of a field of zeros, as many as the number has. Assumes nothing.
use mathlib.Core.Path.{sym}
use native.Mathlib.Omega.{arith}
use lib.Seq.{length-take-le}
use Rattle.print.specs.Print.{zeros, most_digits}
use Rattle.print.proofs.Laws.{width_most, field_whole}
use Rattle.print.proofs.decimal.Goals as goal

pub slice_bounds-bytes-end : goal.slice_bounds-bytes-end
slice_bounds-bytes-end c = omega (arith, width_most most_digits c.args.n)

pub slice_bounds-fill-end : goal.slice_bounds-fill-end
slice_bounds-fill-end c = sym (length-take-le _ (zeros most_digits) (omega (arith, width_most most_digits c.args.n)))

pub returns : goal.returns
returns c = field_whole _ _ _ c.count-len.ensures c.fill.ensures
