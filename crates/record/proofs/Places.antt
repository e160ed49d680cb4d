-- What holds of each label place of a record, place by place, and of the bytes of the places. Assumes nothing.
use mathlib.Core.Path.{◌≡◌, refl}
use mathlib.Core.Bool.{Bool, false, ◌&&◌, and_assoc}
use mathlib.Core.List.{List}
use Prim.Native.Nat.{ℕ, zero, suc, ◌+◌, ◌*◌}
use native.Mathlib.Omega.{arith}
use lib.Dec.{ltb, eqb}
use Rattle.refusal.specs.First.{EachBelow, all_below}
use Rattle.refusal.proofs.Says.{says_once, says_and, says_iff, says_eq}
use Rattle.little.specs.Little.{byte, u16, u64}
use Rattle.little.proofs.Little.{next_place}
use Rattle.kinds.specs.Kinds.{label_places}
use Rattle.record.specs.Decode.{is_guess, view_at, decode}
use Rattle.record.specs.Sound.{placed_test, all_placed}

-- the label places one by one
pub each_place : (P : ℕ → Type 0) → P 0 → P 1 → P 2 → P 3 → EachBelow label_places P
each_place P a b c d zero h = a
each_place P a b c d (suc zero) h = b
each_place P a b c d (suc (suc zero)) h = c
each_place P a b c d (suc (suc (suc zero))) h = d
each_place P a b c d (suc (suc (suc (suc q)))) h = absurd (omega arith)

-- ---- the bytes

-- a number of two digits is 0 exactly if both are
two_zero : (a b : ℕ) → eqb (a + 65536 * b) 0 ≡ eqb a 0 && eqb b 0
two_zero a b =
    says_once (says_eq (a + 65536 * b) 0) (says_iff (λ w. omega (arith, w.0, w.1)) (λ e. (omega (arith, e), omega (arith, e))) (says_and (says_eq a 0) (says_eq b 0)))

-- eight bytes write 0 exactly if the two views in them have zeros
pub views_zero : (b : List ℕ) (k : ℕ) (t : Bool)
    → t && eqb (u64 b k) 0 ≡ (t && (eqb (u16 b k) 0 && eqb (u16 b (k + 2)) 0)) && (eqb (u16 b (k + 4)) 0 && eqb (u16 b (k + 6)) 0)
views_zero b k t =
    let e : u64 b k ≡ u16 b k + 65536 * (u16 b (k + 2) + 65536 * (u16 b (k + 4) + 65536 * u16 b (k + 6))) = simp next_place (omega arith) in
    rw (e, two_zero, two_zero, two_zero) (simp and_assoc)

-- the label places of an instruction stand one behind another
pub places_are : (b : List ℕ) (n : ℕ) → is_guess (byte b 1) ≡ false
    → all_placed (decode b) n ≡ all_below label_places (λ q. placed_test (view_at b (4 + q * 4)) (ltb q (byte b 3)) n)
unfolding decode
places_are b n e = rw e refl
