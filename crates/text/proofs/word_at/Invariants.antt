-- What the loop keeps.
use mathlib.Core.Path.{◌≡◌}
use Prim.Native.Nat.{◌+◌}
use lib.ListN.{drop}
use Rattle.text.specs.Text.{starts}
use Rattle.text.proofs.word_at.Given as goal

abbrev pub invariant-loop-b : goal.invariant-loop-b
invariant-loop-b l = (starts l.w (drop l.at l.text) ≡ starts (drop l.b-index l.w) (drop l.p l.text)) × (l.p ≡ l.at + l.b-index)
