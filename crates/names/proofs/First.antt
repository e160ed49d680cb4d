-- The first number that passes a test, from a number on: where the search goes on, stops and ends; and a store in a list. Assumes nothing.
use mathlib.Core.Path.{◌≡◌, refl, sym, ap, ◌∙◌}
use mathlib.Core.Bool.{Bool, true, false, cond, true≢false}
use mathlib.Core.Option.{Option, none, some}
use mathlib.Core.List.{List}
use Prim.Native.Nat.{ℕ, zero, suc, ◌+◌, ◌-◌, ◌≤◌, ◌<◌}
use native.Mathlib.Nat.{lt_irrefl}
use native.Mathlib.Numerals.{add-one}
use native.Mathlib.Omega.{arith}
use native.Mathlib.Decide.{dec_lt, ℕ_discrete}
use lib.ListN.{length, get_or, set, length-set}
use lib.Seq.{get_or-set_same, get_or-set_other}
use lib.Dec.{ltb}
use borrow.Author.Tests.{le-ltb}
use Rattle.refusal.specs.First.{SomeBelow, EachBelow, any_below, lowest}
use Rattle.refusal.proofs.Says.{Says, refuted, says_once, says_so, says_iff, says_lt, says_any}
use Rattle.refusal.proofs.Search.{Searched, at, nowhere, searched, stops_here, goes_through}
use Rattle.names.specs.Labels.{place_or, lowest_or}
use Rattle.names.specs.Chains.{first_among, first_from, FirstsFrom}
use Rattle.names.specs.Steps.{FilledWith}
use Rattle.refusal.proofs.Alike.{lowest_alike}

-- ---- a list at a place, after a store

module _ (l : List ℕ) (i v j : ℕ) where
  pub put : i < length l → (x : ℕ) → (j ≡ i → v ≡ x) → ((j ≡ i → ⊥) → get_or l j 0 ≡ x) → get_or (set l i v) j 0 ≡ x
  put h x same other =
      elim (ℕ_discrete j i) [ yes q ↦ rw (q, get_or-set_same l i v 0 h) (same q) | no q ↦ rw (get_or-set_other l i j v 0 q) (other q) ]

-- ---- the lowest place, from the number that stands for it

module _ (n : ℕ) (p : ℕ → Bool) where
  pub lowest_here : (i : ℕ) → i < n → p i ≡ true → EachBelow i (λ j. p j ≡ false) → i ≡ lowest_or n p
  unfolding lowest_or
  lowest_here i h e f = sym (ap (λ (o : Option ℕ). place_or o n) (stops_here p n i h e f))

  pub lowest_nowhere : EachBelow n (λ j. p j ≡ false) → n ≡ lowest_or n p
  unfolding lowest_or
  lowest_nowhere f = sym (ap (λ (o : Option ℕ). place_or o n) (goes_through p n f))

  -- what is found passes
  pub lowest_at : lowest_or n p < n → p (lowest_or n p) ≡ true
  unfolding lowest_or
  lowest_at = go (lowest n p) (searched p (λ j. p j ≡ true) (λ j. says_so) n)
    where
      go : (o : Option ℕ) → Searched (λ j. p j ≡ true) n o → place_or o n < n → p (place_or o n) ≡ true
      go (some j) (at a) h = a.here
      go none s h = absurd (lt_irrefl n h)

  -- what is found stands below i exactly if something below i passes
  pub lowest_below : (i : ℕ) → i ≤ n → ltb (lowest_or n p) i ≡ any_below i p
  unfolding lowest_or
  lowest_below i h = go (lowest n p) (searched p (λ j. p j ≡ true) (λ j. says_so) n)
    where
      some_below : Says (any_below i p) (SomeBelow i (λ j. p j ≡ true))
      some_below = says_any p (λ j. p j ≡ true) (λ j. says_so) i

      go : (o : Option ℕ) → Searched (λ j. p j ≡ true) n o → ltb (place_or o n) i ≡ any_below i p
      go (some k) (at a) =
          says_once (says_lt k i) (says_iff (λ w. elim (dec_lt k i) [ yes b ↦ b | no f ↦ absurd (a.below w.0 (omega (arith, w.1, f)) w.2) ]) (λ b. (k, b, a.here)) some_below)
      go none (nowhere f) = le-ltb n i h ∙ sym (refuted some_below (λ w. f w.0 (omega (arith, w.1, h)) w.2))

-- two tests of the same answers find the same
pub lowest_same : (n : ℕ) (p q : ℕ → Bool) → EachBelow n (λ j. p j ≡ q j) → lowest_or n p ≡ lowest_or n q
unfolding lowest_or
lowest_same n p q e = ap (λ (o : Option ℕ). place_or o n) (lowest_alike p q n e)

-- ---- the first of m numbers

-- none from i on and before x passes, and x does unless it is n
pub record FirstIs (p : ℕ → Bool) (n i x : ℕ) : Type 0 where
  pub after : i ≤ x
  pub up_to : x ≤ n
  pub passes : x < n → p x ≡ true
  none_before : (j : ℕ) → i ≤ j → j < x → p j ≡ false

first_is : (p : ℕ → Bool) (m i : ℕ) → FirstIs p (i + m) i (first_among p m i)
unfolding first_among
first_is p zero i = record { after = omega arith; up_to = omega arith; passes = λ h. absurd (omega arith); none_before = λ j a b. absurd (omega arith) }
first_is p (suc m) i = go (p i) refl (first_is p m (suc i))
  where
    go : {x : ℕ} (t : Bool) → p i ≡ t → FirstIs p (suc i + m) (suc i) x → FirstIs p (i + suc m) i (cond t i x)
    go true e f = record { after = omega arith; up_to = omega arith; passes = λ h. e; none_before = λ j a b. absurd (omega arith) }
    go false e f = record {
      after = omega (arith, f.after);
      up_to = omega (arith, f.up_to);
      passes = λ h. f.passes (omega arith);
      none_before = λ j a b. elim (dec_lt i j) [ yes l ↦ f.none_before j l b | no g ↦ (let z : j ≡ i = omega (arith, a, g) in rw z e) ];
    }

contra : (t u : Bool) → (t ≡ true → u ≡ true) → u ≡ false → t ≡ false
contra true u f e = absurd (true≢false (sym (f refl) ∙ e))
contra false u f e = refl

-- where a test passes only if another does, the first that passes it is found from the first that passes the other
module _ (p q : ℕ → Bool) (f : (i : ℕ) → p i ≡ true → q i ≡ true) where
  skip_step : (m i n : ℕ) → i + suc m ≡ n → (t : Bool) → q i ≡ t → first_among p m (suc i) ≡ first_among p (n - first_among q m (suc i)) (first_among q m (suc i))
      → first_among p (suc m) i ≡ first_among p (n - cond t i (first_among q m (suc i))) (cond t i (first_among q m (suc i)))
  unfolding first_among
  skip_step m i n e true h r = let z : n - i ≡ suc m = omega arith in rw z
  skip_step m i n e false h r = rw (contra (p i) (q i) (f i) h) r

  skip_first : (m i n : ℕ) → i + m ≡ n → first_among p m i ≡ first_among p (n - first_among q m i) (first_among q m i)
  unfolding first_among
  skip_first zero i n e = let z : n - i ≡ 0 = omega arith in rw z
  skip_first (suc m) i n e = skip_step m i n e (q i) refl (skip_first m (suc i) n (omega arith))

  pub skip : (n i : ℕ) → i ≤ n → first_from p n i ≡ first_from p n (first_from q n i)
  unfolding first_from
  skip n i h = skip_first (n - i) i n (omega arith)

-- ---- the first from i on

module _ (p : ℕ → Bool) (n i : ℕ) where
  pub from_more : i < n → p i ≡ false → first_from p n i ≡ first_from p n (i + 1)
  unfolding first_from first_among
  from_more h e = let z : n - i ≡ suc (n - suc i) = omega arith in rw (z, e, add-one)

  pub from_stop : i < n → p i ≡ true → first_from p n i ≡ i
  unfolding first_from first_among
  from_stop h e = let z : n - i ≡ suc (n - suc i) = omega arith in rw (z, e)

  pub from_end : n ≤ i → first_from p n i ≡ i
  unfolding first_from first_among
  from_end h = let z : n - i ≡ 0 = omega arith in rw z

  pub from_is : i ≤ n → FirstIs p n i (first_from p n i)
  unfolding first_from
  from_is h = let z : i + (n - i) ≡ n = omega arith in rw z at (first_is p (n - i) i)

-- from 0 on it is the plain search
pub from_plain : (p : ℕ → Bool) (n : ℕ) → first_from p n 0 ≡ lowest_or n p
from_plain p n =
    let f = from_is p n 0 (omega arith) in
    elim (dec_lt (first_from p n 0) n) [
      | yes h ↦ lowest_here n p (first_from p n 0) h (f.passes h) (λ j b. f.none_before j (omega arith) b)
      | no g ↦ (let z : first_from p n 0 ≡ n = omega (arith, f.up_to, g) in z ∙ lowest_nowhere n p (λ j b. f.none_before j (omega arith) (omega (arith, b, g))))
    ]

-- ---- a table of firsts, filled from the last number to the first

module _ (belongs : ℕ → ℕ → Bool) (places n : ℕ) (table : List ℕ) where
  pub firsts_none : (m : ℕ) → n ≤ m → FilledWith places m table → FirstsFrom belongs places n m table
  firsts_none m h f = record { long = f.long; each = λ k b. f.each k b ∙ sym (from_end (belongs k) n m h) }

  module _ (j : ℕ) (lt : j < n) (c : FirstsFrom belongs places n (j + 1) table) where
    -- a number that belongs nowhere
    pub firsts_out : ((k : ℕ) → belongs k j ≡ false) → FirstsFrom belongs places n j table
    firsts_out f = record { long = c.long; each = λ k b. c.each k b ∙ sym (from_more (belongs k) n j lt (f k)) }

    -- and one that belongs to one place comes before those that stood there
    pub firsts_in : (place : ℕ) → place < places → belongs place j ≡ true → ((k : ℕ) → (k ≡ place → ⊥) → belongs k j ≡ false) → FirstsFrom belongs places n j (set table place j)
    firsts_in place b e f = record {
      long = length-set table place j ∙ c.long;
      each = λ k kb. put table place j k (omega (arith, c.long)) _ (λ q. sym (from_stop (belongs k) n j lt (rw q e))) (λ q. c.each k kb ∙ sym (from_more (belongs k) n j lt (f k q)));
    }
