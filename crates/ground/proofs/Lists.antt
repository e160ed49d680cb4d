-- Laws of lists, tests and matches that more than one crate cites. Assumes nothing.
use mathlib.Core.Path.{◌≡◌, refl}
use mathlib.Core.Logic.{◌⊎◌, inl, inr, ⊎_elim}
use mathlib.Core.Bool.{Bool, true, false, ◌&&◌, cond}
use mathlib.Core.List.{List, [], ◌∷◌}
use Prim.Native.Nat.{ℕ, zero, suc, ◌+◌, ◌≤◌, ◌<◌}
use native.Mathlib.Nat.{not-suc-le-zero}
use native.Mathlib.Decide.{dec_lt}
use native.Mathlib.Omega.{arith}
use lib.ListN.{length, get_or}

-- what stands past the end makes no difference inside
pub get_or_inside {ℓ} : {A : Type ℓ} (l : List A) (k : ℕ) (d e : A) → k < length l → get_or l k d ≡ get_or l k e
get_or_inside [] k d e h = absurd (not-suc-le-zero h)
get_or_inside (x ∷ l) zero d e h = refl
get_or_inside (x ∷ l) (suc k) d e h = get_or_inside l k d e (omega arith)

-- ---- both parts of a test that passes

pub and_first : (a b : Bool) → (a && b) ≡ true → a ≡ true
and_first true b e = refl
and_first false b e = cc

pub and_second : (a b : Bool) → (a && b) ≡ true → b ≡ true
and_second true b e = e
and_second false b e = cc

-- ---- a test of every element, computed once over a table

abbrev pub all {ℓ} : {A : Type ℓ} → (A → Bool) → List A → Bool
all p [] = true
all p (x ∷ xs) = p x && all p xs

-- what passes over a whole list, and on what stands past its end, passes at each place
pub all_at {ℓ} : {A : Type ℓ} (p : A → Bool) (l : List A) (d : A) → all p l ≡ true → p d ≡ true → (k : ℕ) → p (get_or l k d) ≡ true
all_at p [] d h e k = e
all_at p (x ∷ l) d h e zero = and_first (p x) (all p l) h
all_at p (x ∷ l) d h e (suc k) = all_at p l d (and_second (p x) (all p l) h) e k

-- ---- one of two numbers

pub either_le : (b : Bool) (x y m : ℕ) → x ≤ m → y ≤ m → cond b x y ≤ m
either_le true x y m h g = h
either_le false x y m h g = g

-- ---- what a match leaves

-- k is none of the n numbers from m on
abbrev pub NoneFrom : ℕ → ℕ → ℕ → Type 0
NoneFrom m zero k = Unit {0}
NoneFrom m (suc n) k = NoneFrom m n k × (k ≡ m + n → ⊥)

-- so it is below them, or behind them
pub none_from : (m n k : ℕ) → NoneFrom m n k → (k < m) ⊎ (m + n ≤ k)
none_from m zero k h = elim (dec_lt k m) [ yes l ↦ inl l | no f ↦ inr (omega arith) ]
none_from m (suc n) k h = ⊎_elim (λ l. inl l) (λ (l : m + n ≤ k). inr (omega arith)) (none_from m n k h.0)
