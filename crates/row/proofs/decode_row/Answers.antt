-- `row::decode_row` meets its contract: a row past the last has zeros, and any other stands in its 44 bytes. Assumes nothing.
use mathlib.Core.Path.{◌≡◌}
use Prim.Native.Nat.{◌+◌, ◌-◌, ◌*◌, ◌/◌}
use lib.ListN.{length}
use borrow.Author.Tests.{le-ltb, lt-ltb}
use native.Mathlib.Omega.{arith}
use Rattle.row.specs.Row.{row_bytes, row_of, held_in}
use Rattle.row.proofs.decode_row.Goals as goal

pub returns-then-rows-k : goal.returns-then-rows-k
unfolding held_in row_of
returns-then-rows-k c = rw (le-ltb _ _ c.if-rows-k.true)

pub returns : goal.returns
unfolding held_in row_of
returns c =
    let a = c.args in let size : a.k * row_bytes + row_bytes - a.k * row_bytes ≡ row_bytes = omega arith in
    rw (c.fields.ensures, lt-ltb a.k (length a.rows.now / row_bytes) (omega arith), size)
