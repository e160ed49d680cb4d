-- The loop that numbers slots from one on: a turn puts one more id behind those so far. Assumes nothing.
use mathlib.Core.Path.{◌≡◌, refl, sym, ◌∙◌}
use mathlib.Core.List.{List}
use Prim.Native.Nat.{ℕ, ◌+◌, ◌<◌, ◌≤◌}
use native.Mathlib.Omega.{arith}
use native.Mathlib.Numerals.{add-one}
use lib.ListN.{length, set}
use lib.Seq.{paste, paste-suc, take-length}
use Rattle.layout.specs.Push.{onward, over}
use Rattle.layout.proofs.Onward.{length_onward, get_or_onward}

-- i of n ids from next on are put, and then one more
pub one_more : (d ids : List ℕ) (at next n i : ℕ) → at + n ≤ length d → i < n → ids ≡ paste d at (onward next n) i → set ids (at + i) (next + i) ≡ paste d at (onward next n) (i + 1)
one_more d ids at next n i room h so_far = rw (add-one, so_far, ← get_or_onward next n i h) (paste-suc d at (onward next n) i 0 (omega arith) (rw length_onward h))

-- all of them
pub whole : {A : Type 0} (d xs s : List A) (at n : ℕ) → n ≡ length s → xs ≡ paste d at s n → xs ≡ over d at s
whole d xs s at n e h = h ∙ rw (e, take-length) refl

pub all_put : (d ids : List ℕ) (at next n : ℕ) → ids ≡ paste d at (onward next n) n → ids ≡ over d at (onward next n)
all_put d ids at next n e = whole d ids (onward next n) at n (sym (length_onward next n)) e
