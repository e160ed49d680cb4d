-- Two tests of one order: where each fault is tested alike as long as no earlier one holds, the same is told. Assumes nothing.
use mathlib.Core.Path.{◌≡◌, refl, ap, ◌∙◌}
use mathlib.Core.Bool.{Bool, true, false, ◌&&◌}
use mathlib.Core.Option.{Option, none, some}
use mathlib.Core.List.{List, [], ◌∷◌}
use Prim.Native.Nat.{ℕ, zero, suc}
use native.Mathlib.Omega.{arith}
use Rattle.refusal.specs.First.{EachBelow, any_below, lowest, tell, first}
use Rattle.refusal.proofs.Says.{refuted, says_so}
use Rattle.refusal.proofs.Search.{Searched, nowhere, searched}

-- what is asked only behind a test
pub and_alike : (a b c : Bool) → (a ≡ true → b ≡ c) → (a && b) ≡ (a && c)
and_alike true b c f = f refl
and_alike false b c f = refl

module _ (p q : ℕ → Bool) where
  pub lowest_alike : (n : ℕ) → EachBelow n (λ j. p j ≡ q j) → lowest n p ≡ lowest n q
  unfolding lowest
  lowest_alike zero f = refl
  lowest_alike (suc n) f = rw (lowest_alike n (λ j h. f j (omega arith)), f n (omega arith))

  pub any_alike : (n : ℕ) → EachBelow n (λ j. p j ≡ q j) → any_below n p ≡ any_below n q
  any_alike zero f = refl
  any_alike (suc n) f = rw (any_alike n (λ j h. f j (omega arith)), f n (omega arith))

-- no fault
pub none_alike : {F : Type 0} (t u : F → ℕ → Bool) (n : ℕ) → first [] t n ≡ first [] u n
unfolding first
none_alike t u n = refl

-- one fault, and those behind it where it holds nowhere
pub first_alike : {F : Type 0} (f : F) (order : List F) (t u : F → ℕ → Bool) (n : ℕ) → EachBelow n (λ i. t f i ≡ u f i)
    → (EachBelow n (λ i. t f i ≡ false) → first order t n ≡ first order u n) → first (f ∷ order) t n ≡ first (f ∷ order) u n
unfolding first
first_alike f order t u n same rest =
    go (lowest n (t f)) (searched (t f) (λ j. t f j ≡ true) (λ j. says_so) n) ∙ ap (λ (o : Option ℕ). tell f o (first order u n)) (lowest_alike (t f) (u f) n same)
  where
    go : (o : Option ℕ) → Searched (λ j. t f j ≡ true) n o → tell f o (first order t n) ≡ tell f o (first order u n)
    go (some i) s = refl
    go none (nowhere g) = rest (λ i h. refuted says_so (g i h))
