-- The laws of the words of a line. Assumes nothing.
use mathlib.Core.Path.{◌≡◌, ◌∙◌}
use Prim.Native.Nat.{min}
use native.Mathlib.Decide.{dec_le}
use native.Mathlib.Omega.{arith}
use lib.ListN.{length, drop, take, length-drop, drop_of_length-le}
use lib.Seq.{take_all}
use Rattle.std.proofs.Math.Nat.{min-eq_left, min-eq_right}
use mathlib.Core.List.{List, ◌++◌, append_assoc}
use Prim.Native.Nat.{ℕ, ◌-◌, ◌≤◌}
use Rattle.rail.proofs.Spaced.{spaced_append}
use Rattle.rail.specs.declared.Rail.{Rail}
use Rattle.rail.specs.Words.{spaced}
use Rattle.rail.specs.Rail.{Added}
use Rattle.rail.proofs.Added.{both}

-- words added behind words
pub words_more : {r s t : Rail} (l : List ℕ) (a b : List (List ℕ)) → Added r (l ++ spaced a) s → Added s (spaced b) t → Added r (l ++ spaced (a ++ b)) t
words_more l a b x y = rw (spaced_append, ← append_assoc) (both x y)

-- ---- the part of a text that lies inside it

-- no more is left out than there is
drop_min : (n : ℕ) (s : List ℕ) → drop (min n (length s)) s ≡ drop n s
drop_min n s = elim (dec_le n (length s)) [
  | yes h ↦ rw (min-eq_left h)
  | no f ↦ let h : length s ≤ n = omega arith in rw (min-eq_right h, drop_of_length-le s {i = length s} (omega arith), drop_of_length-le s h)
]

-- the rest of a text from a place on, and so much of it, each cut to what lies inside
pub rest_inside : (s : List ℕ) (i : ℕ) → take (length s - min i (length s)) (drop (min i (length s)) s) ≡ drop i s
rest_inside s i = take_all _ _ (omega (arith, length-drop (min i (length s)) s)) ∙ drop_min i s
