-- What the loop keeps: the run from `at` on ends where the run from `i` on ends.
use mathlib.Core.Path.{◌≡◌}
use mathlib.Core.Bool.{Bool}
use Prim.Native.Nat.{ℕ, ◌≤◌, max}
use lib.ListN.{length}
use Rattle.text.specs.Text.{run_to, Tests}
use Rattle.text.proofs.run_to.Given as goal

abbrev pub invariant-loop-i : goal.invariant-loop-i
invariant-loop-i g l =
    goal.F-IsAlwaysCallable g l.fn.passes
    × ((p : ℕ → Bool) → Tests (goal.F-post g l.fn.passes) p → run_to p l.text l.at ≡ run_to p l.text l.i)
    × (l.i ≤ max l.at (length l.text))
