-- The promise of each public function, as its source states it, determines the answer and what the buffer holds at last: each is an
-- equation with what the entry values give. Assumes nothing.
use borrow.Fn.Kinds.{ended_of}
use Rattle.ground.proofs.Determined.{Settled, by_equation}
use Rattle.answers.proofs.answer.Kinds as answer_kinds
use Rattle.answers.proofs.answer.Reads as answer
use Rattle.answers.proofs.listing.Kinds as listing_kinds
use Rattle.answers.proofs.listing.Reads as listing
use Rattle.answers.proofs.checking.Kinds as checking_kinds
use Rattle.answers.proofs.checking.Reads as checking
use Rattle.answers.proofs.rows.Kinds as rows_kinds
use Rattle.answers.proofs.rows.Reads as rows

pub answer_only : Settled (ended_of 2 answer_kinds.ps answer_kinds.r) answer.Post
answer_only κs a x y v w p q = (by_equation p.told q.told, λ j. (tt, (tt, (by_equation p.buffer q.buffer j, tt))))

pub listing_only : Settled (ended_of 2 listing_kinds.ps listing_kinds.r) listing.Post
listing_only κs a x y v w p q = (by_equation p.told q.told, λ j. (tt, (by_equation p.buffer q.buffer j, tt)))

pub checking_only : Settled (ended_of 2 checking_kinds.ps checking_kinds.r) checking.Post
checking_only κs a x y v w p q = (by_equation p.told q.told, λ j. (tt, (by_equation p.buffer q.buffer j, tt)))

pub rows_only : Settled (ended_of 2 rows_kinds.ps rows_kinds.r) rows.Post
rows_only κs a x y v w p q = (by_equation p.told q.told, λ j. (tt, (by_equation p.buffer q.buffer j, tt)))
