-- The whole number nearest to the root of M: `nearest_root` is the only one with (2n-1)² < 4M < (2n+1)². It holds since q² ≤ M < (q+1)² fixes q,
-- and q² + q is where 4M passes (2q+1)². Assumes nothing.
use mathlib.Core.Path.{◌≡◌}
use Prim.Native.Nat.{ℕ, zero, suc, ◌+◌, ◌-◌, ◌*◌, ◌^◌, ◌≤◌, ◌<◌}
use native.Mathlib.Nat.{le_antisymm, lt_of_lt_of_le, lt_of_not-le, le_of_suc-le-suc, pow-suc, mul-le-mul}
use native.Mathlib.Decide.{dec_le}
use native.Mathlib.Omega.{arith}
use lib.Dec.{ltb, lit≤}
use borrow.Author.Tests.{le-leb, lt-leb, lt-ltb, le-ltb}
use Rattle.root.specs.Function.{pick, floor_root, nearest_root}

sq_mono : (a b : ℕ) → a ≤ b → a * a ≤ b * b
sq_mono a b h = mul-le-mul h h

-- ---- the largest number whose square is at most M
pub record Floor (q M : ℕ) : Type 0 where
  pub least : q * q ≤ M
  pub most : M < (q + 1) * (q + 1)

floor_le : (q k M : ℕ) → Floor q M → Floor k M → q ≤ k
floor_le q k M p r = le_of_suc-le-suc (lt_of_not-le (λ (h : k < q). omega (arith, sq_mono (k + 1) q (omega arith))))

floor_is : (j q M : ℕ) → q * q ≤ M → M < (q + 2 ^ j) * (q + 2 ^ j) → Floor (floor_root j q M) M
unfolding floor_root
floor_is zero q M a b = record { least = a; most = b }
floor_is (suc j) q M a b =
    let e : q + 2 ^ suc j ≡ q + 2 ^ j + 2 ^ j = omega (arith, pow-suc 2 j) in
    elim (dec_le ((q + 2 ^ j) * (q + 2 ^ j)) M) [
      | yes h ↦ rw (le-leb ((q + 2 ^ j) * (q + 2 ^ j)) M h) (floor_is j (q + 2 ^ j) M h (rw e at b))
      | no f ↦ rw (lt-leb ((q + 2 ^ j) * (q + 2 ^ j)) M (lt_of_not-le f)) (floor_is j q M a (lt_of_not-le f))
    ]

floor_root_lem : (M : ℕ) → M < 2 ^ 106 → Floor (floor_root 53 0 M) M
floor_root_lem M l = floor_is 53 0 M (omega arith) (lt_of_lt_of_le l (lit≤ tt))

-- the nearest is q, or one more where M is past q² + q
pub nearest_from : (q M : ℕ) → M < 2 ^ 106 → Floor q M → nearest_root M ≡ pick (ltb (q * q + q) M) (q + 1) q
unfolding nearest_root
nearest_from q M l f =
    let k = floor_root_lem M l in
    let e : floor_root 53 0 M ≡ q = le_antisymm (floor_le _ q M k f) (floor_le q _ M f k) in
    rw e

-- ---- the number with (2n-1)² < 4M < (2n+1)²
pub record Near (n M : ℕ) : Type 0 where
  pub below : (2 * n - 1) * (2 * n - 1) < 4 * M
  pub above : 4 * M < (2 * n + 1) * (2 * n + 1)

near_le : (n k M : ℕ) → Near n M → Near k M → n ≤ k
near_le n k M p q = le_of_suc-le-suc (lt_of_not-le (λ (h : k < n). omega (arith, sq_mono (2 * k + 1) (2 * n - 1) (omega arith))))

pub near_same : (n k M : ℕ) → Near n M → Near k M → n ≡ k
near_same n k M p q = le_antisymm (near_le n k M p q) (near_le k n M q p)

near_up : (q M : ℕ) → Floor q M → q * q + q < M → Near (q + 1) M
near_up q M f h = let e : 2 * (q + 1) - 1 ≡ q * 2 + 1 = omega arith in record { below = rw e (omega arith); above = omega arith }

near_down : (q M : ℕ) → 0 < M → Floor q M → M ≤ q * q + q → Near q M
near_down zero M p f h = omega arith
near_down (suc q) M p f h = let e : 2 * suc q - 1 ≡ q * 2 + 1 = omega arith in record { below = rw e (omega arith); above = omega arith }

pub nearest_is : (M : ℕ) → 0 < M → M < 2 ^ 106 → Near (nearest_root M) M
unfolding nearest_root
nearest_is M p l =
    let q = floor_root 53 0 M in
    elim (dec_le M (q * q + q)) [
      | yes h ↦ rw (le-ltb (q * q + q) M h) (near_down q M p (floor_root_lem M l) h)
      | no g ↦ rw (lt-ltb (q * q + q) M (lt_of_not-le g)) (near_up q M (floor_root_lem M l) (lt_of_not-le g))
    ]

-- the root of 104 to 106 digits has 53
pub near_range : (n M : ℕ) → 2 ^ 104 ≤ M → M ≤ 2 ^ 106 - 2 ^ 53 → Near n M → (2 ^ 52 ≤ n) × (n < 2 ^ 53)
near_range n M a b k = (
  le_of_suc-le-suc (lt_of_not-le (λ (h : n < 2 ^ 52). omega (arith, sq_mono (2 * n + 1) (2 ^ 53 - 1) (omega arith)))),
  lt_of_not-le (λ (h : 2 ^ 53 ≤ n). omega (arith, sq_mono (2 ^ 54 - 1) (2 * n - 1) (omega arith))),
)
