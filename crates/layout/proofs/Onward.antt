-- The ids that a push hands out, and lists laid over lists. Assumes nothing.
use mathlib.Core.Path.{◌≡◌, refl, ◌∙◌, ap}
use Prim.Native.Nat.{ℕ, zero, suc, ◌+◌, ◌<◌}
use native.Mathlib.Omega.{arith}
use native.Mathlib.Nat.{add-suc, suc-add, add-zero, zero-add}
use mathlib.Core.List.{List, ◌∷◌, ◌++◌, append_assoc}
use lib.ListN.{length, drop, get_or}
use lib.Seq.{take_at, drop-drop, drop_at}
use Rattle.layout.specs.Push.{onward, over}

pub length_onward : (next n : ℕ) → length (onward next n) ≡ n
length_onward next zero = refl
length_onward next (suc n) = ap suc (length_onward (suc next) n)

pub get_or_onward : (next n i : ℕ) → i < n → get_or (onward next n) i 0 ≡ next + i
get_or_onward next zero i h = absurd (omega arith)
get_or_onward next (suc n) zero h = omega arith
get_or_onward next (suc n) (suc i) h = get_or_onward (suc next) n i (omega arith) ∙ omega arith

pub onward_add : (n a b : ℕ) → onward n (a + b) ≡ onward n a ++ onward (n + a) b
onward_add n zero b = rw (zero-add, add-zero) refl
onward_add n (suc a) b = rw (suc-add, add-suc, ← suc-add) (ap (λ (r : List ℕ). n ∷ r) (onward_add (suc n) a b))

-- what is laid right after a front goes in the place of as much of the rest
pub over_front : {A : Type 0} (p new d : List A) (at : ℕ) → length p ≡ at → over (p ++ drop at d) at new ≡ (p ++ new) ++ drop (at + length new) d
over_front p new d at e =
    rw (take_at p (drop at d) at e, ← drop-drop (length new) at (p ++ drop at d), drop_at p (drop at d) at e, drop-drop (length new) at d, append_assoc) refl
