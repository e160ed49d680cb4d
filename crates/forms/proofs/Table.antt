-- What the reader needs of the words of the keywords: one computed test. Assumes nothing.
use mathlib.Core.Path.{refl}
use mathlib.Core.Bool.{Bool}
use Prim.Native.Nat.{ℕ, ◌≤◌, ◌<◌}
use lib.Dec.{leb}
use lib.ListN.{length, get_or}
use borrow.Author.Tests.{leb-true}
use Rattle.ground.proofs.Lists.{get_or_inside, all_at}
use Rattle.kinds.specs.Kinds.{word_of}
use Rattle.forms.specs.Forms.{keyword_kinds}

-- every keyword has at least two bytes
long : ℕ → Bool
long k = leb 2 (length (word_of k))

pub keyword_long : (i : ℕ) → i < length keyword_kinds → 2 ≤ length (word_of (get_or keyword_kinds i 0))
unfolding long
keyword_long i h = rw (get_or_inside keyword_kinds i 0 1 h) (leb-true 2 (length (word_of (get_or keyword_kinds i 1))) (all_at long keyword_kinds 1 refl refl i))
