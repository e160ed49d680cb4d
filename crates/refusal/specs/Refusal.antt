-- A refusal by its number and its place, and the faults of an order by their numbers.
use Rattle.std.specs.Prelude.{cond, List, [], ◌∷◌, ℕ, eqb}
use Rattle.refusal.specs.declared.Refusal.{Refusal}

-- the refusal of a number at a place
abbrev pub refusal : ℕ → ℕ → Refusal
refusal number place = record { number = number; place = place }

-- what is said of the fault of a list that has a number, and a default where none has it
abbrev pub by_number : {F X : Type 0} → (F → ℕ) → (F → X) → X → List F → ℕ → X
by_number number say none [] n = none
by_number number say none (f ∷ fs) n = cond (eqb n (number f)) (say f) (by_number number say none fs n)
