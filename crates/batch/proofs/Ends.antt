-- The laws of lines: an end lies inside the text, and a number with one byte more. Assumes nothing.
use Rattle.std.specs.List.{position, position_or_len}
use Rattle.std.proofs.lemmas.List.Recursion.{is_position_or_len}
use Rattle.text.specs.Text.{leading, run_to}
use native.Mathlib.Decide.{dec_le}
use lib.ListN.{length-drop}
use Rattle.std.proofs.Math.Nat.{max-eq_left, max-eq_right}
use Rattle.std.proofs.Common.{lt-ltb, ltb, Bool, true, false, cond, [], ◌∷◌, Some, None, max, ◌≡◌, ℕ, ◌+◌, ◌<◌, ◌≤◌, not, eqb, List, length, get_or, drop, refl, add-one, arith, drop_of_length-le, drop-cons}
use Rattle.ground.proofs.Lists.{either_le}
use Rattle.text.proofs.Within.{run_to_within}
use Rattle.batch.specs.Line.{until_of, Until, word_after, one_digit, number_from}

-- how many bytes stand before the first byte b
ahead : (b : ℕ) (s : List ℕ) → length (leading (λ x. not (eqb x b)) s) ≡ position_or_len (λ x. eqb x b) s
ahead b = is_position_or_len (λ s. length (leading (λ x. not (eqb x b)) s)) (λ x. eqb x b) refl (λ x s. go x s (eqb x b))
  where
    go : (x : ℕ) (s : List ℕ) (t : Bool) → length (cond (not t) (x ∷ leading (λ x. not (eqb x b)) s) []) ≡ cond t 0 (1 + length (leading (λ x. not (eqb x b)) s))
    go x s true = refl
    go x s false = omega arith

-- what a place in a list, or none, tells of the count before it
found : (m n k : ℕ) → cond (ltb m n) (Some m) None ≡ Some k → m ≡ k
found m n k = go (ltb m n)
  where
    go : (t : Bool) → cond t (Some m) None ≡ Some k → m ≡ k
    go true e = cc
    go false e = cc

none : (m n : ℕ) → cond (ltb m n) (Some m) None ≡ None → n ≤ m
none m n e = elim (dec_le n m) [
  | yes h ↦ h
  | no f ↦ let g = rw (lt-ltb m n (omega arith)) at e in absurd (cc g)
]

-- a place that the search ends at lies ahead, and inside the text
pub is_until : (s : List ℕ) (at b r : ℕ) → until_of s at b ≡ r → Until s at b r
is_until s at b r e = let w = run_to_within (λ x. not (eqb x b)) s at in rw (← e) (record { place = refl; ahead = w.0; inside = omega (arith, w.1) })

module _ (s : List ℕ) (at b : ℕ) where
  pub until_found : (k : ℕ) → position (λ x. eqb x b) (drop at s) ≡ Some k → Until s at b (at + k)
  unfolding run_to
  until_found k e = is_until s at b (at + k) (rw (ahead b (drop at s), found _ _ k e))

  pub until_none : position (λ x. eqb x b) (drop at s) ≡ None → Until s at b (max at (length s))
  unfolding run_to
  until_none e =
      let h = none _ _ e in
      let w = run_to_within (λ x. not (eqb x b)) s at in
      let n = length-drop at s in
      let whole : until_of s at b ≡ max at (length s) = elim (dec_le at (length s)) [
        | yes l ↦ rw (max-eq_right l) (omega (arith, ahead b (drop at s), w.1, h))
        | no f ↦ rw (max-eq_left {n = at} {m = length s} (omega arith)) (omega (arith, ahead b (drop at s), w.1, h))
      ] in
      is_until s at b _ whole

-- a byte moves on by at most a word
pub word_le : (word i b r : ℕ) → r ≡ word_after word b → word ≤ i → r ≤ i + 1
unfolding word_after
word_le word i b r e h = rw e (either_le (eqb b 32) (word + 1) word (i + 1) (omega arith) (omega arith))

module _ (s : List ℕ) (k word n i : ℕ) where
  pub number_more : i < length s
      → number_from k word n (drop i s)
      ≡ number_from k (word_after word (get_or s i 0)) (one_digit (eqb (word_after word (get_or s i 0)) k) n (get_or s i 0)) (drop (i + 1) s)
  unfolding number_from
  number_more h = rw (add-one, drop-cons s i 0)

  pub number_end : length s ≤ i → number_from k word n (drop i s) ≡ n
  unfolding number_from
  number_end h = rw (drop_of_length-le s h)
