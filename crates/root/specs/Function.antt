-- The root as a function that antt computes, for callers to cite. proofs/Agree.antt shows that it is the root of Root.antt. Assumes nothing.
use Rattle.std.specs.Prelude.{Bool, true, false, ◌||◌, ℕ, zero, suc, ◌+◌, ◌-◌, ◌*◌, ◌/◌, ◌%◌, ◌^◌, leb, ltb, eqb}
use Rattle.std.specs.Float.Ieee.{size as digits}
use Rattle.root.specs.Bits.{plus_zero, minus_zero, infinity, the_nan, units_of}

-- a where the test holds, else b
abbrev pub pick : Bool → ℕ → ℕ → ℕ
pick true a b = a
pick false a b = b

-- the largest number whose square is at most M, of those that q and j further binary digits write
unfoldable pub floor_root : ℕ → ℕ → ℕ → ℕ
floor_root zero q M = q
floor_root (suc j) q M = floor_root j (pick (leb ((q + 2 ^ j) * (q + 2 ^ j)) M) (q + 2 ^ j) q) M

-- the whole number nearest to the root of M, for an M below 2^106
unfoldable pub nearest_root : ℕ → ℕ
nearest_root M = let q = floor_root 53 0 M in pick (ltb (q * q + q) M) (q + 1) q

-- s, which is 52 or 53 with e-s even, for e = g - 1126
abbrev pub places_for : ℕ → ℕ
places_for g = 52 + g % 2

-- the bits of the root of m·2^e, n·2^((e-s)/2): the field of its exponent is (e-s)/2 + 1075
unfoldable pub scaled_root : ℕ → ℕ → ℕ
scaled_root m g = (g + 972) / 2 * 2 ^ 52 + (nearest_root (m * 2 ^ places_for g) - 2 ^ 52)

-- the bits of the root of v units of 2^-1126: v is m·2^g, m being its first 53 digits
unfoldable pub finite_root : ℕ → ℕ
finite_root v = let g = digits v - 53 in scaled_root (v / 2 ^ g) g

-- b is its own root
abbrev pub is_kept : ℕ → Bool
is_kept b = eqb b plus_zero || eqb b minus_zero || eqb b infinity

-- the bits of the root of the number with the bits b
unfoldable pub root_of : ℕ → ℕ
root_of b = pick (is_kept b) b (pick (ltb infinity b) the_nan (finite_root (units_of b * 2 ^ 52)))
