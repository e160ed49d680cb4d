-- Where a byte that was read stands. Assumes nothing.
use mathlib.Core.Path.{◌≡◌, sym, ap, ◌∙◌}
use mathlib.Core.Bool.{Bool, true, false, true≢false}
use mathlib.Core.List.{List}
use Prim.Native.Nat.{ℕ, ◌≤◌, ◌<◌}
use native.Mathlib.Nat.{lt_of_not-le}
use lib.ListN.{length, get_or}
use Rattle.text.proofs.Laws.{past}

-- a byte that passes a test that 0 fails stands inside the text
pub inside : (test : ℕ → Bool) (s : List ℕ) (at : ℕ) → test 0 ≡ false → test (get_or s at 0) ≡ true → at < length s
inside test s at z e = lt_of_not-le (λ (h : length s ≤ at). true≢false (sym e ∙ ap test (past s at h) ∙ z))
