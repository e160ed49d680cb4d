-- The search for the lowest place: it answers a place exactly if that is the lowest in words; and the search for any. Assumes nothing.
use mathlib.Core.Path.{◌≡◌, refl, sym, ap, ◌∙◌, subst}
use mathlib.Core.Logic.{⊎_elim, ◌↔◌}
use mathlib.Core.Bool.{Bool, true, false, ◌&&◌, cond, true≢false}
use mathlib.Core.Option.{Option, none, some}
use Prim.Native.Nat.{ℕ, zero, suc, ◌<◌}
use native.Mathlib.Nat.{le_refl, not-suc-le-zero}
use native.Mathlib.Omega.{arith}
use Rattle.refusal.specs.First.{any_below, lowest, or_else, SomeBelow, EachBelow, Lowest, Nowhere}
use Rattle.refusal.proofs.Says.{Says, fails, refuted, says_so, says_any, below_suc}

or_none : (o : Option ℕ) → or_else o none ≡ o
or_none (some i) = refl
or_none none = refl

-- a last place that fails is not found
pub lowest_last : (n : ℕ) (p : ℕ → Bool) → p n ≡ false → lowest (suc n) p ≡ lowest n p
unfolding lowest
lowest_last n p e = rw e (or_none (lowest n p))

-- what the search answers
pub data Searched (P : ℕ → Type 0) (n : ℕ) : Option ℕ → Type 0 where
  at : {i : ℕ} → Lowest P n i → Searched P n (some i)
  nowhere : Nowhere P n → Searched P n none

-- two lowest places are one
lowest_same : {P : ℕ → Type 0} {n i j : ℕ} → Lowest P n i → Lowest P n j → i ≡ j
lowest_same {i = i} {j = j} l m =
    let up : i < j → ⊥ = λ h. m.below i h l.here in
    let down : j < i → ⊥ = λ h. l.below j h m.here in
    omega arith

module _ (p : ℕ → Bool) (P : ℕ → Type 0) (s : (j : ℕ) → Says (p j) (P j)) where
  next : (n : ℕ) (o : Option ℕ) (b : Bool) → p n ≡ b → Searched P n o → Searched P (suc n) (or_else o (cond b (some n) none))
  next n (some i) b e (at l) = at {i = i} (record { inside = omega (arith, l.inside); here = l.here; below = l.below })
  next n none true e (nowhere f) = at (record { inside = le_refl (suc n); here = (s n).so e; below = f })
  next n none false e (nowhere f) = nowhere (λ j h q. ⊎_elim (λ k. fails (s n) e (subst P k q)) (λ l. f j l q) (below_suc h))

  pub searched : (n : ℕ) → Searched P n (lowest n p)
  unfolding lowest
  searched zero = nowhere (λ j h q. not-suc-le-zero h)
  searched (suc n) = next n (lowest n p) (p n) refl (searched n)

  module _ (n : ℕ) where
    found : (i : ℕ) (o : Option ℕ) → Searched P n o → Lowest P n i → o ≡ some i
    found i (some j) (at l) m = ap some (lowest_same l m)
    found i none (nowhere never) m = absurd (never i m.inside m.here)

    missed : (o : Option ℕ) → Searched P n o → Nowhere P n → o ≡ none
    missed (some j) (at l) never = absurd (never j l.inside l.here)
    missed none (nowhere f) never = refl

    place_of : {i : ℕ} → Searched P n (some i) → Lowest P n i
    place_of (at l) = l

    none_of : Searched P n none → Nowhere P n
    none_of (nowhere f) = f

    -- the search finds i exactly if i is the lowest place, and none exactly if there is none
    pub lowest_iff : (i : ℕ) → (lowest n p ≡ some i) ↔ Lowest P n i
    lowest_iff i = (λ e. place_of (subst (Searched P n) e (searched n)), found i (lowest n p) (searched n))

    pub none_iff : (lowest n p ≡ none) ↔ Nowhere P n
    none_iff = (λ e. none_of (subst (Searched P n) e (searched n)), missed (lowest n p) (searched n))

    -- what holds somewhere has a lowest place
    pub lowest_of : SomeBelow n P → (i : ℕ) × Lowest P n i
    lowest_of w = go (lowest n p) (searched n)
      where
        go : (o : Option ℕ) → Searched P n o → (i : ℕ) × Lowest P n i
        go (some i) (at l) = (i, l)
        go none (nowhere never) = absurd (never w.0 w.1 w.2)

-- ---- what a search that goes up from 0 has found

module _ (p : ℕ → Bool) (n : ℕ) where
  pub stops_here : (i : ℕ) → i < n → p i ≡ true → EachBelow i (λ j. p j ≡ false) → lowest n p ≡ some i
  stops_here i h e f =
      (lowest_iff p (λ j. p j ≡ true) (λ j. says_so) n i).1 (record { inside = h; here = e; below = λ j k g. true≢false (sym g ∙ f j k) })

  pub goes_through : EachBelow n (λ j. p j ≡ false) → lowest n p ≡ none
  goes_through f = (none_iff p (λ j. p j ≡ true) (λ j. says_so) n).1 (λ j k g. true≢false (sym g ∙ f j k))

  pub any_here : (i : ℕ) → i < n → p i ≡ true → true ≡ any_below n p
  any_here i h e = sym ((says_any p (λ j. p j ≡ true) (λ j. says_so) n).back (i, h, e))

  pub any_none : EachBelow n (λ j. p j ≡ false) → false ≡ any_below n p
  any_none f = sym (refuted (says_any p (λ j. p j ≡ true) (λ j. says_so) n) (λ w. true≢false (sym w.2 ∙ f w.0 w.1)))

-- one that is made only where a test passes
pub any_if : (t : Bool) (n : ℕ) (p : ℕ → Bool) → any_below (cond t n 0) p ≡ t && any_below n p
any_if true n p = refl
any_if false n p = refl
