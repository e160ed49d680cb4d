-- What the loop keeps.
use Prim.Native.Nat.{◌≤◌, max}
use lib.ListN.{length}
use Rattle.number.proofs.Numerals.{Left}
use Rattle.number.proofs.digits_at.Given as goal

abbrev pub invariant-loop-next : goal.invariant-loop-next
invariant-loop-next l = Left l.text l.at l.start l.limit l.next l.value × (l.next ≤ max l.at (length l.text))
