-- What is told of faults that hold at no place of their own, and what is answered by it: each is by the faults in turn, or by the two answers.
-- Assumes nothing.
use mathlib.Core.Path.{◌≡◌, refl}
use mathlib.Core.Bool.{Bool, true, false}
use mathlib.Core.List.{List, [], ◌∷◌, ◌++◌}
use Prim.Native.Nat.{ℕ}
use native.Mathlib.Omega.{arith}
use Rattle.refusal.specs.declared.Refusal.{Refusal}
use Rattle.refusal.specs.First.{lowest, first, Answer, passed, refused, once, answered}
use Rattle.refusal.specs.Refusal.{refusal}
use Rattle.refusal.proofs.Says.{refuted, says_so}

-- no test of an order passes
abbrev pub Clear : {F : Type 0} → List F → (F → Bool) → Type 0
Clear [] test = Unit {0}
Clear (f ∷ order) test = (test f ≡ false) × Clear order test

-- nothing is told exactly if no test passes
module _ {F : Type 0} (test : F → Bool) where
  pub clear_passes : (order : List F) → Clear order test → once order test ≡ passed
  unfolding once first lowest
  clear_passes [] c = refl
  clear_passes (f ∷ order) c = rw c.0 (clear_passes order c.1)

  pub passed_clear : (order : List F) → once order test ≡ passed → Clear order test
  unfolding once first lowest
  passed_clear [] e = tt
  passed_clear (f ∷ order) e =
      let t : test f ≡ false = refuted says_so (λ (h : test f ≡ true). let z : ◌≡◌ {A = ℕ} 0 1 = cc in omega arith) in
      (t, passed_clear order (rw t at e))

module _ {F A : Type 0} (number : F → ℕ) where
  -- where nothing is told, what is good is answered
  pub answered_passed : (refuse : Refusal → A) (x : Answer F) (good : A) → x ≡ passed → answered number refuse x good ≡ good
  unfolding answered
  answered_passed refuse x good e = rw e

  -- the first fault whose test passes is answered
  pub answered_first : (refuse : Refusal → A) (good : A) (test : F → Bool) (before : List F) (f : F) (after : List F) → Clear before test → test f ≡ true
      → refuse (refusal (number f) 0) ≡ answered number refuse (once (before ++ (f ∷ after)) test) good
  unfolding answered once first lowest
  answered_first refuse good test [] f after c t = rw t
  answered_first refuse good test (g ∷ before) f after c t = rw c.0 (answered_first refuse good test before f after c.1 t)

  -- where what is answered is no refusal, nothing is told
  pub answered_good : (refuse : Refusal → A) (x : Answer F) (good y : A) → ((r : Refusal) → refuse r ≡ y → ⊥) → answered number refuse x good ≡ y → x ≡ passed
  unfolding answered
  answered_good refuse passed good y n e = refl
  answered_good refuse (refused f i) good y n e = absurd (n _ e)

  -- what holds of two answers refusal by refusal, and of the good ones where nothing is told, holds of what is answered
  pub answered_pair : {B : Type 0} (Q : A → B → Type 0) (a : Refusal → A) (b : Refusal → B) (x : Answer F) (good_a : A) (good_b : B)
      → ((r : Refusal) → Q (a r) (b r)) → (x ≡ passed → Q good_a good_b) → Q (answered number a x good_a) (answered number b x good_b)
  unfolding answered
  answered_pair Q a b passed good_a good_b h e = e refl
  answered_pair Q a b (refused f i) good_a good_b h e = h _
