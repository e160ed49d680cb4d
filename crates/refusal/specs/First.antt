-- Faults in an order, each of which may hold at places from 0 on (docs/FORMAT.md, "Order"): the first fault of the order that holds
-- anywhere is told, with the lowest place where it holds. In words, and as a test.
use Rattle.std.specs.Prelude.{Bool, true, false, ◌&&◌, ◌||◌, cond, ℕ, zero, suc, ◌<◌}
use Rattle.std.proofs.Math.Option.{Option, none, some}
use mathlib.Core.List.{List, [], ◌∷◌, Memᴰ}
use Rattle.refusal.specs.declared.Refusal.{Refusal}
use Rattle.refusal.specs.Refusal.{refusal}

-- ---- in words

-- P holds of some number below n
abbrev pub SomeBelow : ℕ → (ℕ → Type 0) → Type 0
SomeBelow n P = (j : ℕ) × (j < n) × P j

-- P holds of each number below n
abbrev pub EachBelow : ℕ → (ℕ → Type 0) → Type 0
EachBelow n P = (j : ℕ) → j < n → P j

-- P holds of no number below n
abbrev pub Nowhere : (ℕ → Type 0) → ℕ → Type 0
Nowhere P n = EachBelow n (λ j. P j → ⊥)

-- of the places below n, i is the lowest where P holds
pub record Lowest (P : ℕ → Type 0) (n i : ℕ) : Type 0 where
  pub inside : i < n
  pub here : P i
  pub below : Nowhere P i

-- of the order's faults, f is the first that holds at any of the n places, and i is the lowest place where it holds
pub data Told {F : Type 0} (Holds : F → ℕ → Type 0) (n : ℕ) : List F → F → ℕ → Type 0 where
  this : {f : F} {order : List F} {i : ℕ} → Lowest (Holds f) n i → Told Holds n (f ∷ order) f i
  later : {g : F} {order : List F} {f : F} {i : ℕ} → Nowhere (Holds g) n → Told Holds n order f i → Told Holds n (g ∷ order) f i

-- no fault of the order holds at any of the n places
abbrev pub NoneHolds : {F : Type 0} → (F → ℕ → Type 0) → ℕ → List F → Type 0
NoneHolds {F = F} Holds n order = (f : F) → Memᴰ f order → Nowhere (Holds f) n

-- ---- as a test

-- some number below n passes
abbrev pub any_below : ℕ → (ℕ → Bool) → Bool
any_below zero p = false
any_below (suc n) p = any_below n p || p n

-- each number below n passes
abbrev pub all_below : ℕ → (ℕ → Bool) → Bool
all_below zero p = true
all_below (suc n) p = all_below n p && p n

-- the first of two answers that is one
abbrev pub or_else : Option ℕ → Option ℕ → Option ℕ
or_else (some i) o = some i
or_else none o = o

-- the lowest number below n that passes
unfoldable pub lowest : ℕ → (ℕ → Bool) → Option ℕ
lowest zero p = none
lowest (suc n) p = or_else (lowest n p) (cond (p n) (some n) none)

-- what is told
pub data Answer (F : Type 0) : Type 0 where
  passed : Answer F
  refused : F → ℕ → Answer F

-- f at its place, or else what is told of the faults behind it
abbrev pub tell : {F : Type 0} → F → Option ℕ → Answer F → Answer F
tell f (some i) a = refused f i
tell f none a = a

-- the first fault of the order, by a test for each fault at each of n places
unfoldable pub first : {F : Type 0} → List F → (F → ℕ → Bool) → ℕ → Answer F
first [] test n = passed
first (f ∷ order) test n = tell f (lowest n (test f)) (first order test n)

-- the first of faults that hold at no place of their own: it is told at 0
unfoldable pub once : {F : Type 0} → List F → (F → Bool) → Answer F
once order test = first order (λ f i. test f) 1

-- ---- what is answered

-- a refusal with the number of its fault, at its place, or else what is good
unfoldable pub answered : {F A : Type 0} → (F → ℕ) → (Refusal → A) → Answer F → A → A
answered number refuse (refused f i) good = refuse (refusal (number f) i)
answered number refuse passed good = good
