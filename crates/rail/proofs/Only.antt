-- The promise of each public function, as its source states it, determines the answer, and the rail at last with what its buffer holds: each
-- is an equation with what the entry values give. Assumes nothing.
use mathlib.Core.Path.{◌≡◌}
use mathlib.Core.List.{List}
use Prim.Native.Nat.{ℕ}
use mir.Syntax.{Dict}
use denote.RattleType.{RattleType}
use denote.Param.Laws.{Laws}
use borrow.Fn.Kinds.{ended_of}
use Rattle.ground.proofs.Determined.{Determined, Settled, by_equation}
use Rattle.rail.specs.declared.Rail.{Rail}
use Rattle.rail.specs.declared.Piece.{Ghosts}
use Rattle.rail.specs.Rail.{Printed}
use Rattle.rail.proofs.moved.Kinds as moved_kinds
use Rattle.rail.proofs.moved.Reads as moved
use Rattle.rail.proofs.Rail.add.Kinds as add_kinds
use Rattle.rail.proofs.Rail.add.Reads as add
use Rattle.rail.proofs.Rail.whole.Kinds as whole_kinds
use Rattle.rail.proofs.Rail.whole.Reads as whole
use Rattle.rail.proofs.Rail.word.Kinds as word_kinds
use Rattle.rail.proofs.Rail.word.Reads as word
use Rattle.rail.proofs.Rail.decimal.Kinds as decimal_kinds
use Rattle.rail.proofs.Rail.decimal.Reads as decimal
use Rattle.rail.proofs.Rail.decimal_word.Kinds as decimal_word_kinds
use Rattle.rail.proofs.Rail.decimal_word.Reads as decimal_word
use Rattle.rail.proofs.Rail.hex_word.Kinds as hex_word_kinds
use Rattle.rail.proofs.Rail.hex_word.Reads as hex_word

-- two rails with the same bytes printed
pub same : {r x y : Rail} {bs : List ℕ} → Printed r bs x → Printed r bs y → x ≡ y
same p q =
    let pointer = by_equation p.same.pointer q.same.pointer in
    let name = by_equation p.same.name q.same.name in
    let now = by_equation p.prints.buffer q.prints.buffer in
    let write = by_equation p.same.write q.same.write in
    let place = by_equation p.prints.told q.prints.told in
    λ i. record { buf = record { ref_ptr = pointer i; ghost_name = name i; now = now i }; write = write i; place = place i }

pub moved_only : Determined 0 moved_kinds.ps moved_kinds.r moved.Post
moved_only κs a x y e f p q = by_equation p q

pub add_only : Settled (ended_of 3 add_kinds.ps add_kinds.r) add.Post
add_only κs a x y v w p q = (λ j. tt, λ j. (same p q j, (tt, tt)))

-- whatever type the piece has
pub whole_only : (P : RattleType) (laws : Laws P) (piece : Ghosts P.Denot) (code : Dict)
    → Settled (ended_of 4 (whole_kinds.ps P laws) (whole_kinds.r P laws)) (whole.Post P laws piece code)
whole_only P laws piece code κs a x y v w p q = (λ j. tt, λ j. (same p q j, (tt, tt)))

pub word_only : Settled (ended_of 3 word_kinds.ps word_kinds.r) word.Post
word_only κs a x y v w p q = (λ j. tt, λ j. (same p q j, (tt, tt)))

pub decimal_only : Settled (ended_of 2 decimal_kinds.ps decimal_kinds.r) decimal.Post
decimal_only κs a x y v w p q = (λ j. tt, λ j. (same p q j, (tt, tt)))

pub decimal_word_only : Settled (ended_of 2 decimal_word_kinds.ps decimal_word_kinds.r) decimal_word.Post
decimal_word_only κs a x y v w p q = (λ j. tt, λ j. (same p q j, (tt, tt)))

pub hex_word_only : Settled (ended_of 2 hex_word_kinds.ps hex_word_kinds.r) hex_word.Post
hex_word_only κs a x y v w p q = (λ j. tt, λ j. (same p q j, (tt, tt)))
