-- The promise of each public function, as its source states it, determines the answer: each is an equation. Assumes nothing.
use Rattle.ground.proofs.Determined.{Determined, by_equation}
use Rattle.number.proofs.parse_number.Kinds as parse_number_kinds
use Rattle.number.proofs.parse_number.Reads as parse_number
use Rattle.number.proofs.parse_number_expr.Kinds as parse_number_expr_kinds
use Rattle.number.proofs.parse_number_expr.Reads as parse_number_expr

pub parse_number_only : Determined 1 parse_number_kinds.ps parse_number_kinds.r parse_number.Post
parse_number_only κs a x y e f p q = by_equation p q

pub parse_number_expr_only : Determined 1 parse_number_expr_kinds.ps parse_number_expr_kinds.r parse_number_expr.Post
parse_number_expr_only κs a x y e f p q = by_equation p q
