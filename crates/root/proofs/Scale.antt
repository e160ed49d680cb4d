-- A number's 53 digits m and its g: the number decides them, since 2^(52+g) ≤ m * 2^g < 2^(53+g) tells how many digits it has. Assumes nothing.
use mathlib.Core.Path.{◌≡◌, sym, ap, ◌∙◌}
use Prim.Native.Nat.{ℕ, zero, suc, ◌+◌, ◌-◌, ◌*◌, ◌/◌, ◌%◌, ◌^◌, ◌≤◌, ◌<◌}
use native.Mathlib.Nat.{lt_of_lt_of_le, lt_of_not-le, not-le_of_lt, mul-le-mul_right, mul-lt-mul_of_pos_right}
use native.Mathlib.Omega.{arith}
use lib.Pow.{pow_pos, pow_mono, pow-add, shl-shr}
use lib.Ieee.{size as digits}
use lib.Ieee.Digits.{size-lt, size-le}
use Rattle.root.specs.Function.{nearest_root, places_for, scaled_root, finite_root}
use Rattle.root.specs.Steps.{Scaling}
use Rattle.root.proofs.Nearest.{Near, nearest_is, near_range}

-- ---- m and g from the number
scaling_g : {v m g : ℕ} → Scaling v m g → digits v - 53 ≡ g
scaling_g {v} {m} {g} k =
    let lo : 2 ^ (52 + g) ≤ v = rw (pow-add, k.value) (mul-le-mul_right (2 ^ g) k.least) in
    let hi : v < 2 ^ (53 + g) = rw (pow-add, k.value) (mul-lt-mul_of_pos_right k.most (pow_pos g)) in
    let a : 52 + g < digits v = lt_of_not-le (λ (h : digits v ≤ 52 + g). not-le_of_lt (lt_of_lt_of_le (size-lt v) (pow_mono h)) lo) in
    let b : digits v ≤ 53 + g = size-le v (53 + g) hi in
    omega arith

scaling_m : {v m g : ℕ} → Scaling v m g → v / 2 ^ g ≡ m
scaling_m {v} {m} {g} k = ap (λ (z : ℕ). z / 2 ^ g) k.value ∙ shl-shr m g

pub scaling_same : {v m g n k : ℕ} → Scaling v m g → Scaling v n k → (m ≡ n) × (g ≡ k)
scaling_same {v} {m} {g} {n} {k} p q =
    let e : g ≡ k = sym (scaling_g p) ∙ scaling_g q in
    (sym (scaling_m p) ∙ ap (λ (z : ℕ). v / 2 ^ z) e ∙ scaling_m q, e)

pub finite_root_lem : {v m g : ℕ} → Scaling v m g → finite_root v ≡ scaled_root m g
unfolding finite_root
finite_root_lem k = rw (scaling_g k, scaling_m k)

-- ---- the root of M = m * 2^s
-- h is m, or twice m where d is 1
pub record Doubled (m d h : ℕ) : Type 0 where
  pub least : 2 ^ 52 ≤ h
  pub most : h + 2 ≤ 2 ^ 54
  pub value : h * 2 ^ 52 ≡ m * 2 ^ (52 + d)

doubled_by : (m d : ℕ) → 2 ^ 52 ≤ m → m < 2 ^ 53 → d < 2 → Doubled m d (m * (1 + d))
doubled_by m zero a b h = omega arith
doubled_by m (suc zero) a b h = omega arith
doubled_by m (suc (suc d)) a b h = omega arith

module _ (m g : ℕ) (least : 2 ^ 52 ≤ m) (most : m < 2 ^ 53) where
  pub doubled : Doubled m (g % 2) (m * (1 + g % 2))
  doubled = doubled_by m (g % 2) least most (omega arith)

  pub root_near : Near (nearest_root (m * 2 ^ places_for g)) (m * 2 ^ places_for g)
  root_near = nearest_is (m * 2 ^ places_for g) (omega (arith, doubled)) (omega (arith, doubled))

  pub root_range : (2 ^ 52 ≤ nearest_root (m * 2 ^ places_for g)) × (nearest_root (m * 2 ^ places_for g) < 2 ^ 53)
  root_range = near_range (nearest_root (m * 2 ^ places_for g)) (m * 2 ^ places_for g) (omega (arith, doubled)) (omega (arith, doubled)) root_near
