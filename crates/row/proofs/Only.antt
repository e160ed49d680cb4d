-- The promise of each public function, as its source states it, determines the answer: each is an equation. Assumes nothing.
use Rattle.ground.proofs.Determined.{Determined, by_equation}
use Rattle.row.proofs.encode_row.Kinds as encode_row_kinds
use Rattle.row.proofs.encode_row.Reads as encode_row
use Rattle.row.proofs.decode_row.Kinds as decode_row_kinds
use Rattle.row.proofs.decode_row.Reads as decode_row
use Rattle.row.proofs.formed.rows_formed.Kinds as rows_formed_kinds
use Rattle.row.proofs.formed.rows_formed.Reads as rows_formed

pub encode_row_only : Determined 0 encode_row_kinds.ps encode_row_kinds.r encode_row.Post
encode_row_only κs a x y e f p q = by_equation p q

pub decode_row_only : Determined 1 decode_row_kinds.ps decode_row_kinds.r decode_row.Post
decode_row_only κs a x y e f p q = by_equation p q

pub rows_formed_only : Determined 1 rows_formed_kinds.ps rows_formed_kinds.r rows_formed.Post
rows_formed_only κs a x y e f p q = by_equation p q
