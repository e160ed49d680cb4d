-- Stages are compared as their numbers are. Assumes nothing.
use mathlib.Core.Path.{◌≡◌, refl, sym}
use mathlib.Core.Bool.{Bool, not}
use lib.Dec.{ltb, eqb}
use denote.Enum.Bare.{sameb}
use Prim.Native.Nat.{ℕ}
use Rattle.std.specs.Ordering.{partial_lt}
use Rattle.layout.specs.declared.Stage.{Stage}
use Rattle.layout.specs.declared.Stage.TheVariants.{Points, Circles, Arcs, Done}
use Rattle.layout.specs.contracts.Stage.{the_type}
use Rattle.layout.specs.contracts.StagePartialOrd.TheImpl.{partial_cmp-value}
use Rattle.layout.specs.Slots.{stage_number}

-- what holds of each stage holds of any
by_stage : (P : Stage → Type 0) → P Points → P Circles → P Arcs → P Done → (s : Stage) → P s
by_stage P p c a d Points = p
by_stage P p c a d Circles = c
by_stage P p c a d Arcs = a
by_stage P p c a d Done = d

abbrev Before : Stage → Stage → Type 0
Before s t = partial_lt (partial_cmp-value).it s t ≡ ltb (stage_number s) (stage_number t)

pub before : (s t : Stage) → Before s t
before = by_stage (λ s. (t : Stage) → Before s t) (by_stage (Before Points) refl refl refl refl) (by_stage (Before Circles) refl refl refl refl) (by_stage (Before Arcs) refl refl refl refl) (by_stage (Before Done) refl refl refl refl)

abbrev Same : Stage → Stage → Type 0
Same s t = sameb the_type s t ≡ eqb (stage_number s) (stage_number t)

same : (s t : Stage) → Same s t
same = by_stage (λ s. (t : Stage) → Same s t) (by_stage (Same Points) refl refl refl refl) (by_stage (Same Circles) refl refl refl refl) (by_stage (Same Arcs) refl refl refl refl) (by_stage (Same Done) refl refl refl refl)

-- a test for another stage than the one that is due, by its number
pub another : (s t : Stage) (n : ℕ) (b : Bool) → stage_number t ≡ n → b ≡ not (sameb the_type s t) → not (eqb (stage_number s) n) ≡ b
another s t n b e h = rw (← e, ← same s t) (sym h)
