-- A place that was asked for, and what is answered by it: by what is told. Assumes nothing.
use mathlib.Core.Path.{◌≡◌, refl, sym, ◌∙◌, ap}
use Prim.Native.Nat.{ℕ}
use Rattle.std.specs.Prelude.{Result, Ok, Err}
use Rattle.std.specs.Result.{IsErrAnd}
use Rattle.refusal.specs.declared.Refusal.{Refusal}
use Rattle.refusal.specs.First.{Answer, passed, refused, answered}
use Rattle.refusal.proofs.Once.{answered_passed}
use Rattle.layout.specs.Refusals.{Reason, reason_number}

-- where a place is refused, so is what asked for it
pub as_refused : {A : Type 0} (x : Answer Reason) (at : ℕ) (place : Result ℕ Refusal) → place ≡ answered reason_number Err x (Ok at)
    → (refuse : Refusal → A) (good : A) (r : Refusal) → place ≡ Err r → refuse r ≡ answered reason_number refuse x good
unfolding answered
as_refused passed at place asked refuse good r e = cc
as_refused (refused f i) at place asked refuse good r e = cc

-- where a place is found, it is the one that was meant, and nothing is told
pub placed : (x : Answer Reason) (at : ℕ) (place : Result ℕ Refusal) → place ≡ answered reason_number Err x (Ok at) → (at' : ℕ) → place ≡ Ok at' → (at' ≡ at) × (x ≡ passed)
unfolding answered
placed passed at place asked at' e = (cc, refl)
placed (refused f i) at place asked at' e = (cc, cc)

-- and what is good at the place is answered
pub as_found : {A : Type 0} (x : Answer Reason) (at : ℕ) (place : Result ℕ Refusal) → place ≡ answered reason_number Err x (Ok at) → (at' : ℕ) → place ≡ Ok at'
    → (refuse : Refusal → A) (good y : A) → (at' ≡ at → y ≡ good) → y ≡ answered reason_number refuse x good
as_found x at place asked at' e refuse good y so = let p = placed x at place asked at' e in so p.0 ∙ sym (answered_passed reason_number refuse x good p.1)

-- a `?` hands the place's refusal on as it is
pub passed_on : {A : Type 0} (r : Result A Refusal) (e : Refusal) → IsErrAnd r (λ y. y ≡ e) → r ≡ Err e
passed_on (Ok x) e h = absurd h
passed_on (Err y) e h = ap Err h
