-- What the loop keeps.
use mathlib.Core.Path.{◌≡◌}
use Prim.Native.Nat.{◌≤◌}
use Rattle.record.specs.Decode.{decode_at}
use Rattle.drawing.specs.Check.{count_below}
use Rattle.drawing.proofs.count.Given as goal

abbrev pub invariant-loop-i : goal.invariant-loop-i
invariant-loop-i l = (l.c ≤ l.i) × (l.c ≡ count_below (λ k. (decode_at l.records k).kind) l.low l.high l.i)
