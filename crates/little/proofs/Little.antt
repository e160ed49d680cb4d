-- A number that fits its bytes comes back from them, wherever they stand: by induction on how many there are. Assumes nothing.
use mathlib.Core.Path.{◌≡◌, refl}
use mathlib.Core.List.{List, [], ◌∷◌, ◌++◌, append_assoc, append-nil}
use Prim.Native.Nat.{ℕ, zero, suc, ◌+◌, ◌/◌, ◌%◌, ◌^◌, ◌<◌}
use native.Mathlib.Nat.{pow-suc, div-lt_iff_lt-mul}
use native.Mathlib.Omega.{arith}
use lib.ListN.{length, length-append}
use lib.Seq.{get_or_at}
use Rattle.little.specs.Little.{le, le_at}

-- a place behind another, as the code counts it
pub next_place : (k i : ℕ) → k + i + 1 ≡ k + (i + 1)
next_place k i = omega arith

-- a number from its bytes, whatever stands around them
pub number_back : (n x : ℕ) → x < 256 ^ n → (a rest : List ℕ) → le_at n (a ++ (le n x ++ rest)) (length a) ≡ x
number_back zero x h a rest = omega arith
number_back (suc n) x h a rest =
    let small : x / 256 < 256 ^ n = (div-lt_iff_lt-mul {k = 256} (omega arith)).1 (rw (pow-suc 256 n) at h) in
    let next = number_back n (x / 256) small (a ++ (x % 256 ∷ [])) rest in
    omega (arith, get_or_at a (x % 256) (le n (x / 256) ++ rest) 0 (length a) refl, simp (append_assoc, length-append) at next)

pub number_le : (n x : ℕ) → x < 256 ^ n → le_at n (le n x) 0 ≡ x
number_le n x h = rw append-nil at (number_back n x h [] [])
