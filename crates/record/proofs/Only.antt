-- The promise of each public function, as its source states it, determines the answer: each is an equation. Assumes nothing.
use Rattle.ground.proofs.Determined.{Determined, by_equation}
use Rattle.record.proofs.one_label.Kinds as one_label_kinds
use Rattle.record.proofs.one_label.Reads as one_label
use Rattle.record.proofs.no_record.Kinds as no_record_kinds
use Rattle.record.proofs.no_record.Reads as no_record
use Rattle.record.proofs.encode_record.Kinds as encode_record_kinds
use Rattle.record.proofs.encode_record.Reads as encode_record
use Rattle.record.proofs.decode.decode_record.Kinds as decode_record_kinds
use Rattle.record.proofs.decode.decode_record.Reads as decode_record
use Rattle.record.proofs.sound.good_kind.Kinds as good_kind_kinds
use Rattle.record.proofs.sound.good_kind.Reads as good_kind
use Rattle.record.proofs.formed.malformed_at.Kinds as malformed_at_kinds
use Rattle.record.proofs.formed.malformed_at.Reads as malformed_at
use Rattle.record.proofs.formed.well_formed.Kinds as well_formed_kinds
use Rattle.record.proofs.formed.well_formed.Reads as well_formed
use Rattle.record.proofs.formed.laid_out.Kinds as laid_out_kinds
use Rattle.record.proofs.formed.laid_out.Reads as laid_out

pub one_label_only : Determined 0 one_label_kinds.ps one_label_kinds.r one_label.Post
one_label_only κs a x y e f p q = by_equation p q

pub no_record_only : Determined 0 no_record_kinds.ps no_record_kinds.r no_record.Post
no_record_only κs a x y e f p q = by_equation p q

pub encode_record_only : Determined 0 encode_record_kinds.ps encode_record_kinds.r encode_record.Post
encode_record_only κs a x y e f p q = by_equation p q

pub decode_record_only : Determined 1 decode_record_kinds.ps decode_record_kinds.r decode_record.Post
decode_record_only κs a x y e f p q = by_equation p q

pub good_kind_only : Determined 2 good_kind_kinds.ps good_kind_kinds.r good_kind.Post
good_kind_only κs a x y e f p q = by_equation p q

pub malformed_at_only : Determined 0 malformed_at_kinds.ps malformed_at_kinds.r malformed_at.Post
malformed_at_only κs a x y e f p q = by_equation p q

pub well_formed_only : Determined 2 well_formed_kinds.ps well_formed_kinds.r well_formed.Post
well_formed_only κs a x y e f p q = by_equation p q

pub laid_out_only : Determined 2 laid_out_kinds.ps laid_out_kinds.r laid_out.Post
laid_out_only κs a x y e f p q = by_equation p q
