-- Where the first high byte of a text is: behind the low bytes that the library takes, and at the text's end where all bytes are low.
-- Assumes nothing.
use mathlib.Core.Path.{◌≡◌, refl, ap}
use mathlib.Core.Bool.{Bool}
use mathlib.Core.List.{List, [], ◌∷◌}
use Prim.Native.Nat.{ℕ, suc, ◌<◌}
use native.Mathlib.Omega.{arith}
use borrow.Author.Tests.{lt-ltb}
use lib.Dec.{ltb}
use lib.ListN.{length, get_or}
use Rattle.std.specs.List.{take_while}
use Rattle.std.proofs.lemmas.List.Sums.{take_while-cons}
use Rattle.text.specs.Text.{leading, run_to}
use Rattle.reader.specs.Page.{high_at}

leads : (p : ℕ → Bool) (s : List ℕ) → take_while p s ≡ leading p s
leads p [] = refl
leads p (b ∷ bs) = rw (take_while-cons p b bs, leads p bs)

pub first_high : (s : List ℕ) → length (take_while (λ b. ltb b 128) s) ≡ high_at s
unfolding run_to
first_high s = rw (leads (λ b. ltb b 128) s) (omega arith)

all_low : (s : List ℕ) → ((k : ℕ) → k < length s → get_or s k 0 < 128) → length s ≡ length (leading (λ b. ltb b 128) s)
all_low [] h = refl
all_low (b ∷ bs) h = let first : b < 128 = h 0 (omega arith) in rw (lt-ltb b 128 first) (ap suc (all_low bs (λ k l. h (suc k) (omega arith))))

-- a text whose bytes are all low
pub none_high : (s : List ℕ) → ((k : ℕ) → k < length s → get_or s k 0 < 128) → length s ≡ high_at s
unfolding run_to
none_high s h = omega (arith, all_low s h)
