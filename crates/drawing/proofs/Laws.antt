-- Counts of a drawing's kinds. Assumes nothing.
use mathlib.Core.Path.{◌≡◌, refl, sym, ◌∙◌}
use mathlib.Core.Bool.{Bool, true, false, cond}
use Prim.Native.Nat.{ℕ, zero, suc, ◌+◌, ◌≤◌}
use native.Mathlib.Nat.{add-zero}
use native.Mathlib.Numerals.{add-one}
use native.Mathlib.Omega.{arith}
use Rattle.ground.proofs.Lists.{either_le}
use Rattle.names.specs.Labels.{within}
use Rattle.drawing.specs.Check.{count_below}

-- the count goes by the kinds alone
pub count_kinds : (f g : ℕ → ℕ) (low high n : ℕ) → ((i : ℕ) → f i ≡ g i) → count_below f low high n ≡ count_below g low high n
unfolding count_below
count_kinds f g low high zero e = refl
count_kinds f g low high (suc n) e = rw (e n, count_kinds f g low high n e) refl

-- a count is at most what was looked at
pub count_le : (kinds : ℕ → ℕ) (low high n : ℕ) → count_below kinds low high n ≤ n
unfolding count_below
count_le kinds low high zero = omega arith
count_le kinds low high (suc n) = omega (arith, count_le kinds low high n, either_le (within low high (kinds n)) 1 0 1 (omega arith) (omega arith))

-- one kind more, by whether it was counted
pub count_more : (kinds : ℕ → ℕ) (low high i c kind : ℕ) (test counted : Bool) (d : ℕ) → c ≡ count_below kinds low high i → kind ≡ kinds i → test ≡ within low high kind → test ≡ counted
    → d ≡ cond counted (c + 1) c → d ≡ count_below kinds low high (i + 1)
unfolding count_below
count_more kinds low high i c kind test true d ec ek et ew ed = let e : within low high (kinds i) ≡ true = rw (← ek) (sym et ∙ ew) in rw (add-one i, e, ← ec) ed
count_more kinds low high i c kind test false d ec ek et ew ed = let e : within low high (kinds i) ≡ false = rw (← ek) (sym et ∙ ew) in rw (add-one i, e, ← ec, add-zero) ed
