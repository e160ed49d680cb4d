-- What is printed of a row that lowering wrote is that row, which comes back whole from its bytes. Assumes nothing.
use mathlib.Core.Path.{◌≡◌}
use mathlib.Core.List.{List}
use Prim.Native.Nat.{ℕ, ◌/◌, ◌<◌}
use lib.ListN.{length}
use borrow.Author.Tests.{lt-ltb}
use Rattle.row.specs.Row.{Row, row_bytes, encode_row, row_no, row_of, decode_row, RowFits}
use Rattle.row.proofs.Back.{decode_encode_row}
use Rattle.lines.specs.Drawn.{row_line}

-- the line of row k, where lowering wrote the row r there, is that row's
pub row_printed : (r : Row) → RowFits r → (rows : List ℕ) (k : ℕ) → k < length rows / row_bytes → row_no rows k ≡ encode_row r → row_line (decode_row (row_of rows k)) ≡ row_line r
unfolding row_of
row_printed r fits rows k b e = rw (lt-ltb k (length rows / row_bytes) b, e, decode_encode_row r fits)
