-- What is told of an order of faults holds at its place, and a fault that holds nowhere may be left out of the order: both by going along it.
-- Assumes nothing.
use mathlib.Core.List.{List, ◌∷◌}
use Prim.Native.Nat.{ℕ}
use Rattle.refusal.specs.First.{Lowest, Nowhere, Told, this, later}

module _ {F : Type 0} {Holds : F → ℕ → Type 0} {n : ℕ} where
  -- the place is the lowest where it holds
  pub told_holds : {order : List F} {f : F} {i : ℕ} → Told Holds n order f i → Lowest (Holds f) n i
  told_holds (this l) = l
  told_holds (later _ t) = told_holds t

  -- behind a fault that holds nowhere, the others are told without it
  pub without : {g : F} {order : List F} {f : F} {i : ℕ} → Told Holds n (g ∷ order) f i → Nowhere (Holds g) n → Told Holds n order f i
  without (this l) never = absurd (never _ l.inside l.here)
  without (later _ t) never = t
