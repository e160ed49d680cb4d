-- The laws of bytes put into a buffer. Assumes nothing.
use mathlib.Core.Path.{◌≡◌, refl, sym, ap, ◌∙◌}
use mathlib.Core.Bool.{true, false}
use mathlib.Core.List.{List, [], ◌++◌, append_assoc}
use Prim.Native.Nat.{ℕ, ◌+◌, ◌-◌, ◌≤◌, ◌<◌}
use native.Mathlib.Omega.{arith}
use borrow.Author.Tests.{le-leb, lt-leb}
use borrow.Rule.Slice.PartMut.{put_mid, Post-is}
use lib.ListN.{length, take, drop, length-append, length-take, length-drop, take-append-drop}
use lib.Seq.{take_at, drop_at, drop-drop}
use Rattle.store.specs.Store.{Put, written}

-- without room nothing is put
pub put_full : (d bs : List ℕ) (at : ℕ) → length d < at + length bs → Put d at bs false d
put_full d bs at h = let e = lt-leb (at + length bs) (length d) h in record { told = rw e; buffer = rw e }

-- with room the bytes lie in the place of those that stood there
put_is : (d bs : List ℕ) (at : ℕ) → put_mid at (at + length bs - at) d bs ≡ written d at bs
unfolding written
put_is d bs at =
    ap (λ (l : List ℕ). take at d ++ (bs ++ l)) (Post-is at (at + length bs) d (omega arith)) ∙ sym (append_assoc (take at d) bs (drop (at + length bs) d))

pub put_done : (d bs part : List ℕ) (at : ℕ) → at + length bs ≤ length d → part ≡ bs → Put d at bs true (put_mid at (at + length bs - at) d part)
put_done d bs part at h e = let r = le-leb (at + length bs) (length d) h in record { told = rw r; buffer = rw (r, e) (put_is d bs at) }

module _ (d : List ℕ) (at : ℕ) (bs : List ℕ) where
  pub written_length : at + length bs ≤ length d → length (written d at bs) ≡ length d
  unfolding written
  written_length h = simp (length-append, length-take, length-drop) (omega arith)

-- bytes put behind bytes that were put
pub written_append : (d : List ℕ) (at : ℕ) (a b : List ℕ) → at + length a + length b ≤ length d → written (written d at a) (at + length a) b ≡ written d at (a ++ b)
unfolding written
written_append d at a b h =
    let front : length (take at d ++ a) ≡ at + length a = simp (length-append, length-take) (omega arith) in
    let both : length (a ++ b) ≡ length a + length b = length-append a b in
    let place : at + (length a + length b) ≡ at + length a + length b = omega arith in
    rw (take_at (take at d ++ a) (drop (at + length a) d) (at + length a) front, both, place, append_assoc (take at d) a b)
    (ap (λ (l : List ℕ). take at d ++ (a ++ b) ++ l)
    (rw (← drop-drop (length b) (at + length a) (take at d ++ a ++ drop (at + length a) d), drop_at (take at d ++ a) (drop (at + length a) d) (at + length a) front) (drop-drop (length b) (at + length a) d)))

-- at the start, the bytes come first
pub written_first : (d bs : List ℕ) → take (length bs) (written d 0 bs) ≡ bs
unfolding written
written_first d bs = take_at bs (drop (0 + length bs) d) (length bs) refl

-- no bytes change nothing
pub written_none : (d : List ℕ) (at : ℕ) → at ≤ length d → written d at [] ≡ d
unfolding written
written_none d at h =
    let same : at + 0 ≡ at = omega arith in
    rw same (append_assoc (take at d) [] (drop at d) ∙ take-append-drop at d)
