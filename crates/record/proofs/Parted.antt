-- Instructions stand before guesses exactly if no kind is out of its place and one is a guess's: the lowest guess parts them.
-- Assumes nothing.
use mathlib.Core.Path.{◌≡◌, subst}
use mathlib.Core.Logic.{◌⊎◌, inl, inr, ⊎_elim}
use mathlib.Core.List.{List}
use Prim.Native.Nat.{ℕ, ◌≤◌}
use native.Mathlib.Nat.{eq-or-lt_of_le}
use native.Mathlib.Omega.{arith}
use native.Mathlib.Decide.{dec_lt}
use Rattle.refusal.specs.First.{SomeBelow, EachBelow, Nowhere}
use Rattle.refusal.proofs.Says.{stable, says_le, says_lt}
use Rattle.refusal.proofs.Search.{lowest_of}
use Rattle.record.specs.Record.{first_guess}
use Rattle.record.specs.Decode.{decode, count_of, record_of}
use Rattle.record.specs.Formed.{Parted}

-- the kind at a place is a guess's
abbrev pub GuessAt : (ℕ → ℕ) → ℕ → Type 0
GuessAt kind i = first_guess ≤ kind i

-- a guess at the start, or an instruction after a guess
abbrev pub OutOfPlace : (ℕ → ℕ) → ℕ → Type 0
OutOfPlace kind i = ((i ≡ 0) × GuessAt kind i) ⊎ ((GuessAt kind i → ⊥) × SomeBelow i (GuessAt kind))

-- the kinds of a list's records
module _ (bs : List ℕ) (kind : ℕ → ℕ) (is : EachBelow (count_of bs) (λ i. kind i ≡ (decode (record_of bs i)).kind)) where
  pub parted : Nowhere (OutOfPlace kind) (count_of bs) → SomeBelow (count_of bs) (GuessAt kind) → Parted bs
  parted never some =
      let first = lowest_of _ _ (λ i. says_le first_guess (kind i)) (count_of bs) some in
      let k = first.0 in
      let l = first.1 in
      record {
        guesses = k;
        some_instruction = stable (says_lt 0 k) (λ f. never k l.inside (inl (omega (arith, f), l.here)));
        some_guess = l.inside;
        before = λ i h g. l.below i h (rw (is i (omega (arith, h, l.inside))) g);
        behind = λ i h b.
            rw (is i b) at
            (⊎_elim (λ q. subst (GuessAt kind) q l.here) (λ m. stable (says_le first_guess (kind i)) (λ f. never i b (inr (f, (k, m, l.here)))))
            (eq-or-lt_of_le h));
      }

  pub in_place : Parted bs → Nowhere (OutOfPlace kind) (count_of bs)
  in_place p i h (inl (z, g)) = p.before i (omega (arith, z, p.some_instruction)) (rw (is i h) at g)
  in_place p i h (inr (f, (j, k, g))) =
      elim (dec_lt j p.guesses) [
        | yes b ↦ p.before j b (rw (is j (omega (arith, h, k))) at g)
        | no b ↦ f (rw (is i h) (p.behind i (omega (arith, b, k)) h))
      ]

  pub guess_in_lem : Parted bs → SomeBelow (count_of bs) (GuessAt kind)
  guess_in_lem p = (p.guesses, p.some_guess, rw (is p.guesses p.some_guess) (p.behind p.guesses (omega arith) p.some_guess))
