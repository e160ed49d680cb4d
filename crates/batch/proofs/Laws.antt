-- The laws of a header line: whether it starts with a word, or a word was read, and a number with one digit more. Assumes nothing.
use Rattle.std.proofs.Common.{◌≡◌, ℕ, ◌+◌, ◌<◌, ◌≤◌, eqb, Bool, true, false, cond, List, [], ◌∷◌, length, drop, get_or, Some, None, refl, sym, arith, add-one, drop_of_length-le, drop-cons, lt-ltb, le-ltb}
use Rattle.std.specs.List.{starts_with}
use native.Mathlib.Decide.{dec_le, ℕ_discrete}
use borrow.Author.Tests.{eq-eqb, ne_eqb}
use Rattle.text.specs.declared.Stand.{Stand}
use Rattle.text.specs.declared.Stand.TheVariants.{At, Nothing}
use Rattle.text.specs.Text.{starts, word_at, word_on}
use Rattle.batch.specs.Header.{most_bytes, sized, one_more, size_after}

-- a list starts with another by the library's test too
pub starts_is : (w s : List ℕ) → starts_with eqb s w ≡ starts w s
starts_is [] s = refl
starts_is (b ∷ w) [] = refl
starts_is (b ∷ w) (c ∷ s) = elim (ℕ_discrete b c) [
  | yes e ↦ rw (e, eq-eqb c c refl) (starts_is w s)
  | no f ↦ rw (ne_eqb b c f, ne_eqb c b (λ e. f (sym e)))
]

-- a word was read exactly where the list starts with it
module _ (s w : List ℕ) (x : Stand) (e : x ≡ word_on s (At 0) w) where
  pub word_stands : (n : ℕ) → x ≡ At n → true ≡ starts w s
  unfolding word_on word_at
  word_stands n f = go (starts w s) e
    where
      go : (t : Bool) → x ≡ cond t (At (0 + length w)) Nothing → true ≡ t
      go true g = refl
      go false g = cc

  pub word_lacks : ((n : ℕ) → x ≡ At n → ⊥) → false ≡ starts w s
  unfolding word_on word_at
  word_lacks h = go (starts w s) e
    where
      go : (t : Bool) → x ≡ cond t (At (0 + length w)) Nothing → false ≡ t
      go false g = refl
      go true g = absurd (h (0 + length w) g)

-- ---- numbers

-- a number that is no larger than the most, and one that is
pub sized_fits : (n : ℕ) → n ≤ most_bytes → sized n ≡ Some n
sized_fits n h = rw (le-ltb most_bytes n h)

pub sized_past : (n : ℕ) → most_bytes < n → sized n ≡ None
sized_past n h = rw (lt-ltb most_bytes n h)

pub is_past : (n : ℕ) → sized n ≡ None → most_bytes < n
is_past n e = elim (dec_le n most_bytes) [ yes h ↦ let f = sized_fits n h in absurd (cc (e, f)) | no f ↦ omega arith ]

pub is_sized : (n k : ℕ) → sized n ≡ Some k → (n ≡ k) × (k ≤ most_bytes)
is_sized n k e = elim (dec_le n most_bytes) [
  | yes h ↦ let f : n ≡ k = let g = sized_fits n h in cc (e, g) in (f, omega arith)
  | no f ↦ let g = sized_past n (omega arith) in absurd (cc (e, g))
]

-- a number that is too large stays so
pub past : (n : ℕ) (s : List ℕ) → most_bytes < n → most_bytes < size_after n s
unfolding size_after one_more
past n [] h = h
past n (b ∷ s) h = rw (lt-ltb most_bytes n h) (past _ s (omega arith))

module _ (s : List ℕ) (n i : ℕ) where
  pub size_more : i < length s → size_after n (drop i s) ≡ size_after (one_more n (get_or s i 0)) (drop (i + 1) s)
  unfolding size_after
  size_more h = rw (add-one, drop-cons s i 0)

  pub size_end : length s ≤ i → size_after n (drop i s) ≡ n
  unfolding size_after
  size_end h = rw (drop_of_length-le s h)
