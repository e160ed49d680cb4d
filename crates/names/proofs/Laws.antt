-- Labels that are the same, and a kind from one to another. Assumes nothing.
use mathlib.Core.Path.{◌≡◌, refl, sym}
use mathlib.Core.Bool.{true≢false}
use mathlib.Core.List.{List, [], ◌∷◌, nil≢cons, cons≢nil, tail-eq_of_cons-eq, head-eq_of_cons-eq}
use Prim.Native.Nat.{ℕ, ◌-◌, ◌≤◌}
use native.Mathlib.Omega.{arith}
use lib.ListN.{length, take, drop, length-drop}
use lib.Seq.{take_all}
use lib.Dec.{eqb}
use lib.Pointwise.{pointwise}
use Rattle.refusal.proofs.Says.{Says, says_once, says_and, says_iff, says_eq, says_le}
use Rattle.record.specs.Entry.{Label}
use Rattle.names.specs.Labels.{same, within}

-- ---- labels

-- the test of two labels says that they are equal
pub says_same : (s t : Label) → Says (same s t) (s ≡ t)
says_same [] [] = record { so = λ e. refl; back = λ e. refl }
says_same [] (b ∷ t) = record { so = λ e. absurd (true≢false (sym e)); back = λ e. absurd (nil≢cons e) }
says_same (a ∷ s) [] = record { so = λ e. absurd (true≢false (sym e)); back = λ e. absurd (cons≢nil e) }
says_same (a ∷ s) (b ∷ t) =
    says_iff (λ p. cc) (λ e. (head-eq_of_cons-eq e, tail-eq_of_cons-eq e)) (says_and (says_eq a b) (says_same s t))

-- comparing two labels byte by byte is that test
pub same_is : (s t : Label) → pointwise eqb s t ≡ same s t
same_is [] [] = refl
same_is [] (b ∷ t) = refl
same_is (a ∷ s) [] = refl
same_is (a ∷ s) (b ∷ t) = rw (same_is s t) refl

-- what stands from a place on
pub rest_of : (s : List ℕ) (n : ℕ) → take (length s - n) (drop n s) ≡ drop n s
rest_of s n = take_all (length s - n) (drop n s) (simp length-drop (omega arith))

-- ---- a kind from one to another

pub says_within : (low high k : ℕ) → Says (within low high k) ((low ≤ k) × (k ≤ high))
says_within low high k = says_and (says_le low k) (says_le k high)

-- from one to the same it is that one
pub within_one : (d k : ℕ) → within d d k ≡ eqb k d
within_one d k = says_once (says_iff (λ w. omega (arith, w.0, w.1)) (λ e. (omega (arith, e), omega (arith, e))) (says_within d d k)) (says_eq k d)
