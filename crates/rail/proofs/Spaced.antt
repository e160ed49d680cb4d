-- The laws of words parted by blanks. Assumes nothing.
use mathlib.Core.Path.{◌≡◌, refl}
use mathlib.Core.List.{List, [], ◌∷◌, ◌++◌, append_assoc, append-nil}
use Prim.Native.Nat.{ℕ}
use Rattle.rail.specs.Words.{blank, spaced}
use Rattle.rail.specs.Rail.{Printed, Added}
use Rattle.rail.specs.declared.Rail.{Rail}
use Rattle.rail.proofs.Added.{added, both}

-- words behind words
pub spaced_append : (a b : List (List ℕ)) → spaced (a ++ b) ≡ spaced a ++ spaced b
unfolding spaced
spaced_append [] b = refl
spaced_append (w ∷ a) b = rw (spaced_append a b, append_assoc)

-- a blank and a word added are the word with its blank
pub word_added : {r s t : Rail} {w : List ℕ} → Printed r (blank ∷ []) s → Printed s w t → Added r (spaced (w ∷ [])) t
unfolding spaced
word_added x y = rw append-nil (both (added x) (added y))
