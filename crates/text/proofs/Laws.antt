-- The laws of what is read at a place: one byte more of a run or a word, and their ends; what is handed on. Assumes nothing.
use mathlib.Core.Path.{◌≡◌, refl, sym, ap}
use mathlib.Core.Bool.{Bool, true, false, cond}
use mathlib.Core.List.{List, [], ◌∷◌, ◌++◌}
use Prim.Native.Nat.{ℕ, ◌+◌, ◌≤◌, ◌<◌}
use native.Mathlib.Numerals.{add-one}
use native.Mathlib.Omega.{arith}
use lib.ListN.{length, drop, get_or, drop_of_length-le, get_or-eq_default}
use lib.Seq.{drop-cons}
use lib.Dec.{eqb}
use borrow.Author.Tests.{eq-eqb, ne_eqb, eqb-true, eqb-false}
use Rattle.std.specs.List.{starts_with}
use Rattle.ground.proofs.Pieces.{Each}
use Rattle.text.specs.Text.{from, or_stand, leading, run_to, starts}
use Rattle.text.specs.declared.Stand.{Stand}
use Rattle.text.specs.declared.Stand.TheVariants.{At, Nothing, Refused}

-- ---- the rail

-- a stand that is no place is handed on
pub handed {ℓ} : {X : Type ℓ} (stand : Stand) (rest : X) (read : ℕ → X) → ((n : ℕ) → stand ≡ At n → ⊥) → rest ≡ from stand rest read
handed (At n) rest read h = absurd (h n refl)
handed Nothing rest read h = refl
handed (Refused why) rest read h = refl

-- where the first of two reads something, or refuses, it is taken
pub taken : {X : Type 0} (stand : Stand) (first second : X) → (stand ≡ Nothing → ⊥) → first ≡ or_stand stand first second
taken (At n) first second h = refl
taken Nothing first second h = absurd (h refl)
taken (Refused why) first second h = refl

-- reading stands at a place
abbrev pub Place : Stand → Type 0
Place stand = from stand ⊥ (λ n. Unit {0})

pub record Reached (t : Stand) : Type 0 where
  pub is : Place t

pub here : (n : ℕ) → Reached (At n)
here n = record { is = tt }

-- what holds of the rest, and of what is read at a place, holds of what is read where reading stands
pub from_of : {X : Type 0} (Q : X → Type 0) (t : Stand) (rest : X) (read : ℕ → X) → Q rest → ((n : ℕ) → t ≡ At n → Q (read n)) → Q (from t rest read)
from_of Q (At n) rest read h k = k n refl
from_of Q Nothing rest read h k = h
from_of Q (Refused why) rest read h k = h

-- what holds of both holds of the first that reads
pub either_of : {X : Type 0} (Q : X → Type 0) (t : Stand) (x y : X) → Q x → Q y → Q (or_stand t x y)
either_of Q (At n) x y f g = f
either_of Q Nothing x y f g = g
either_of Q (Refused why) x y f g = f

-- what holds of both holds of the one that a test picks
pub cond_of : {X : Type 0} (Q : X → Type 0) (b : Bool) (x y : X) → (b ≡ true → Q x) → (b ≡ false → Q y) → Q (cond b x y)
cond_of Q true x y h k = h refl
cond_of Q false x y h k = k refl

-- ---- a byte by its place

-- past the end stands 0
pub past : (s : List ℕ) (i : ℕ) → length s ≤ i → get_or s i 0 ≡ 0
past s i h = get_or-eq_default s 0 h

-- ---- a run
module _ (p : ℕ → Bool) (s : List ℕ) (i : ℕ) where
  pub run_more : i < length s → p (get_or s i 0) ≡ true → leading p (drop i s) ≡ get_or s i 0 ∷ leading p (drop (i + 1) s)
  run_more h e = rw (add-one, drop-cons s i 0, e)

  pub run_stop : i < length s → p (get_or s i 0) ≡ false → leading p (drop i s) ≡ []
  run_stop h e = rw (drop-cons s i 0, e)

  pub run_end : length s ≤ i → leading p (drop i s) ≡ []
  run_end h = rw (drop_of_length-le s h)

  pub run_to_more : i < length s → p (get_or s i 0) ≡ true → run_to p s i ≡ run_to p s (i + 1)
  unfolding run_to
  run_to_more h e = rw (run_more h e) (omega arith)

  pub run_to_stop : i < length s → p (get_or s i 0) ≡ false → run_to p s i ≡ i
  unfolding run_to
  run_to_stop h e = rw (run_stop h e) (omega arith)

  pub run_to_end : length s ≤ i → run_to p s i ≡ i
  unfolding run_to
  run_to_end h = rw (run_end h) (omega arith)

-- each byte of a run passes, and what follows the run is the rest of the text
pub run_each : (p : ℕ → Bool) (l : List ℕ) → Each (λ b. p b ≡ true) (leading p l)
run_each p [] = tt
run_each p (b ∷ l) = cond_of (Each (λ c. p c ≡ true)) (p b) (b ∷ leading p l) [] (λ e. (e, run_each p l)) (λ e. tt)

pub run_split : (p : ℕ → Bool) (l : List ℕ) → leading p l ++ drop (length (leading p l)) l ≡ l
run_split p [] = refl
run_split p (b ∷ l) =
    cond_of (λ (a : List ℕ). a ++ drop (length a) (b ∷ l) ≡ b ∷ l) (p b) (b ∷ leading p l) [] (λ e. ap (λ (z : List ℕ). b ∷ z) (run_split p l)) (λ e. refl)

-- ---- a word
module _ (w s : List ℕ) (i p : ℕ) where
  pub starts_more : i < length w → p < length s → get_or s p 0 ≡ get_or w i 0 → starts (drop i w) (drop p s) ≡ starts (drop (i + 1) w) (drop (p + 1) s)
  starts_more hi hp e = rw (add-one i, add-one p, drop-cons w i 0, drop-cons s p 0, eq-eqb _ _ e)

  pub starts_stop : i < length w → p < length s → (get_or s p 0 ≡ get_or w i 0 → ⊥) → starts (drop i w) (drop p s) ≡ false
  starts_stop hi hp e = rw (drop-cons w i 0, drop-cons s p 0, ne_eqb _ _ e)

  pub starts_short : i < length w → length s ≤ p → starts (drop i w) (drop p s) ≡ false
  starts_short hi hp = rw (drop-cons w i 0, drop_of_length-le s hp)

  pub starts_end : length w ≤ i → starts (drop i w) (drop p s) ≡ true
  starts_end h = rw (drop_of_length-le w h)

-- ---- the library's words for them

pub starts_is : (w s : List ℕ) → starts_with eqb s w ≡ starts w s
starts_is [] s = refl
starts_is (w ∷ ws) [] = refl
starts_is (w ∷ ws) (b ∷ bs) =
    cond_of (λ t. starts_with eqb (b ∷ bs) (w ∷ ws) ≡ t) (eqb b w) (starts ws bs) false
    (λ e. rw (eq-eqb w b (sym (eqb-true b w e))) (starts_is ws bs)) (λ e. rw (ne_eqb w b (λ f. eqb-false b w e (sym f))))
