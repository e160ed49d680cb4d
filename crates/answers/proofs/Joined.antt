-- The laws of lines one after the other, where a count says how many there are. Assumes nothing.
use mathlib.Core.Path.{◌≡◌}
use mathlib.Core.List.{List, ◌++◌, append-nil, append_assoc}
use Prim.Native.Nat.{ℕ, zero, suc, ◌+◌}
use native.Mathlib.Nat.{suc-add}
use Rattle.ground.specs.Lists.{up_to}
use Rattle.rail.specs.Words.{joined}

-- one line more
pub joined_more : (n : ℕ) (f : ℕ → List ℕ) → joined (up_to (n + 1) f) ≡ joined (up_to n f) ++ f n
joined_more zero f = append-nil (f zero)
joined_more (suc n) f = rw (suc-add, joined_more n (λ k. f (suc k)), append_assoc)
