-- The product or the quotient of two whole numbers that are floats is the exact one, rounded once: both are `round` of equal fractions.
-- The sign goes through `round`, which never gives a NaN. Assumes nothing.
use mathlib.Core.Path.{◌≡◌, refl, sym, ◌∙◌, subst}
use mathlib.Core.Bool.{Bool, true, false, not, cond, true≢false}
use Prim.Native.Nat.{ℕ, zero, suc, ◌+◌, ◌*◌, ◌^◌, ◌<◌}
use native.Mathlib.Nat.{mul-one, mul_comm, mul_assoc, mul_left_comm, mul-mul-mul_comm, mul-pos, zero-lt-suc, zero-mul, lt_irrefl}
use borrow.Author.Tests.{ne_eqb}
use lib.Dec.{T, ltb}
use lib.IntN.{ℤ}
use lib.Ieee.{Float, nan, inf, fin, Format, low, prec, emax, up, down, odd, units, round, neg, mul, div, is_nan}
use lib.Ieee.Fits.{down_pos}
use lib.Ieee.Exact.{HasValue}
use lib.Ieee.Scale.{round_same}

-- ---- the operations on whole numbers

-- a float that is the whole number a, by its significand and its exponent
parts : (x : Float) (a : ℕ) → HasValue x false a 1 → (m : ℕ) × (e : ℤ) × (x ≡ fin false m e) × (m * up e ≡ a * down e)
parts nan a h = absurd h
parts (inf s) a h = absurd h
parts (fin true m e) a h = absurd (true≢false h.0)
parts (fin false m e) a h = (m, e, refl, sym (mul-one (m * up e)) ∙ h.1)

module _ (f : Format) (x y : Float) (a b : ℕ) (h : HasValue x false a 1) (k : HasValue y false b 1) where
  pub mul_whole : mul f x y ≡ round f false (a * b) 1
  unfolding mul
  mul_whole =
      let (m, e, is, v) = parts x a h in
      let (n, d, is', v') = parts y b k in
      rw (is, is') (
      round_same f false (m * up e * (n * up d)) (down e * down d) (a * b) 1 (mul-pos (down_pos e) (down_pos d)) (zero-lt-suc 0)
      (rw (mul-one, v, v') (mul-mul-mul_comm a (down e) b (down d))))

  pub div_whole : 0 < b → div f x y ≡ round f false a b
  unfolding div
  div_whole B =
      let (m, e, is, v) = parts x a h in
      let (n, d, is', v') = parts y b k in
      let P : 0 < b * down d = mul-pos B (down_pos d) in
      let some : n ≡ 0 → ⊥ = λ z. lt_irrefl 0 (subst (λ (w : ℕ). 0 < w) (sym v' ∙ rw z (zero-mul (up d))) P) in
      rw (is, is', ne_eqb n 0 some) (
      round_same f false (m * up e * down d) (n * up d * down e) a b (rw v' (mul-pos P (down_pos e))) B
      (rw (v, v') (simp (mul_assoc, mul_comm, mul_left_comm))))

-- ---- the sign
neg_odd : (d : ℕ) (s : Bool) (q k l : ℕ) → neg (odd d s q k l) ≡ odd d (not s) q k l
unfolding neg odd
neg_odd d s zero k l = refl
neg_odd d s (suc q) k l = refl

neg_cond : (b : Bool) (x y : Float) → neg (cond b x y) ≡ cond b (neg x) (neg y)
neg_cond true x y = refl
neg_cond false x y = refl

pub neg_round : (f : Format) (s : Bool) (a b : ℕ) → neg (round f s a b) ≡ round f (not s) a b
unfolding round neg units
neg_round f s a b = rw (neg_cond, neg_odd)

-- ---- no NaN
number_odd : (d : ℕ) (s : Bool) (q k l : ℕ) → T (not (is_nan (odd d s q k l)))
unfolding odd is_nan
number_odd d s zero k l = tt
number_odd d s (suc q) k l = tt

number_cond : (b : Bool) (x y : Float) → T (not (is_nan x)) → T (not (is_nan y)) → T (not (is_nan (cond b x y)))
number_cond true x y h k = h
number_cond false x y h k = k

number_units : (f : Format) (s : Bool) (q k : ℕ) → T (not (is_nan (units f s q k)))
unfolding units is_nan
number_units f s q k = number_cond (ltb (q * 2 ^ k) (2 ^ (low f + suc (emax f)))) _ _ (number_odd (suc (prec f)) s q k (low f)) tt

pub round_number : (f : Format) (s : Bool) (a b : ℕ) → T (not (is_nan (round f s a b)))
unfolding round
round_number f s a b = number_units f s _ _
