-- The promise of each public function, as its source states it, determines the answer: each is an equation. Assumes nothing.
use Rattle.ground.proofs.Determined.{Determined, by_equation}
use Rattle.text.proofs.or_stand.Kinds as or_stand_kinds
use Rattle.text.proofs.or_stand.Reads as or_stand
use Rattle.text.proofs.refuse.Kinds as refuse_kinds
use Rattle.text.proofs.refuse.Reads as refuse
use Rattle.text.proofs.byte_at.Kinds as byte_at_kinds
use Rattle.text.proofs.byte_at.Reads as byte_at
use Rattle.text.proofs.ws.Kinds as ws_kinds
use Rattle.text.proofs.ws.Reads as ws
use Rattle.text.proofs.parse_label.Kinds as parse_label_kinds
use Rattle.text.proofs.parse_label.Reads as parse_label
use Rattle.text.proofs.opt_suffix.Kinds as opt_suffix_kinds
use Rattle.text.proofs.opt_suffix.Reads as opt_suffix
use Rattle.text.proofs.parse_label_opt_suffix.Kinds as parse_label_opt_suffix_kinds
use Rattle.text.proofs.parse_label_opt_suffix.Reads as parse_label_opt_suffix
use Rattle.text.proofs.word.Kinds as word_kinds
use Rattle.text.proofs.word.Reads as word
use Rattle.text.proofs.byte.Kinds as byte_kinds
use Rattle.text.proofs.byte.Reads as byte
use Rattle.text.proofs.newline.Kinds as newline_kinds
use Rattle.text.proofs.newline.Reads as newline

pub or_stand_only : Determined 0 or_stand_kinds.ps or_stand_kinds.r or_stand.Post
or_stand_only κs a x y e f p q = by_equation p q

pub refuse_only : Determined 0 refuse_kinds.ps refuse_kinds.r refuse.Post
refuse_only κs a x y e f p q = by_equation p q

pub byte_at_only : Determined 1 byte_at_kinds.ps byte_at_kinds.r byte_at.Post
byte_at_only κs a x y e f p q = by_equation p q

pub ws_only : Determined 1 ws_kinds.ps ws_kinds.r ws.Post
ws_only κs a x y e f p q = by_equation p q

pub parse_label_only : Determined 1 parse_label_kinds.ps parse_label_kinds.r parse_label.Post
parse_label_only κs a x y e f p q = by_equation p q

pub opt_suffix_only : Determined 1 opt_suffix_kinds.ps opt_suffix_kinds.r opt_suffix.Post
opt_suffix_only κs a x y e f p q = by_equation p q

pub parse_label_opt_suffix_only : Determined 1 parse_label_opt_suffix_kinds.ps parse_label_opt_suffix_kinds.r parse_label_opt_suffix.Post
parse_label_opt_suffix_only κs a x y e f p q = by_equation p q

pub word_only : Determined 2 word_kinds.ps word_kinds.r word.Post
word_only κs a x y e f p q = by_equation p q

pub byte_only : Determined 1 byte_kinds.ps byte_kinds.r byte.Post
byte_only κs a x y e f p q = by_equation p q

pub newline_only : Determined 1 newline_kinds.ps newline_kinds.r newline.Post
newline_only κs a x y e f p q = by_equation p q
