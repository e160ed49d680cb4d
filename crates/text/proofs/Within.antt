-- No reader goes back, and none leaves the text: the laws of each reader, cited or not. Assumes nothing.
use mathlib.Core.Path.{◌≡◌, sym, ap}
use mathlib.Core.Bool.{Bool, true, true≢false}
use mathlib.Core.List.{List, [], ◌∷◌}
use Prim.Native.Nat.{ℕ, suc, ◌≤◌, ◌<◌, max}
use native.Mathlib.Omega.{arith}
use lib.Dec.{leb, eqb}
use lib.ListN.{length, drop, length-append, length-drop}
use Rattle.text.specs.Text.{from, leading, run_to, starts, is_space, is_alphanum, alphanum_to, no_label, word_at, label_at, ws_on, word_on, byte_on, label_on}
use Rattle.text.specs.declared.Stand.{Stand}
use Rattle.text.specs.declared.Stand.TheVariants.{At, Nothing, Refused}
use Rattle.text.specs.declared.ReadLabel.{ReadLabel}
use Rattle.text.proofs.Laws.{run_split, from_of, cond_of}

-- a place, where reading stands at one, lies between p and the text's end, and is p where p lies past that
abbrev pub Within : List ℕ → ℕ → Stand → Type 0
Within s p stand = from stand (Unit {0}) (λ n. (p ≤ n) × (n ≤ max p (length s)))

-- what is read within q lies within p, where q does
pub earlier : (s : List ℕ) {p q : ℕ} (stand : Stand) → Within s p (At q) → Within s q stand → Within s p stand
earlier s (At n) l h = (omega arith, omega arith)
earlier s Nothing l h = tt
earlier s (Refused why) l h = tt

-- so does what is read where reading stands, if what is read from each place on lies within that place
pub within_of : (s : List ℕ) (p : ℕ) {X : Type 0} (then : X → Stand) (t : Stand) (rest : X) (read : ℕ → X)
    → ((n : ℕ) → Within s n (then (read n))) → Within s p (then rest) → Within s p t → Within s p (then (from t rest read))
within_of s p then t rest read f g h = from_of (λ x. Within s p (then x)) t rest read g (λ n e. earlier s (then (read n)) (rw e at h) (f n))

-- ---- how far a run and a word reach

run_length : (p : ℕ → Bool) (l : List ℕ) → length (leading p l) ≤ length l
run_length p l = omega (arith, simp length-append at (ap length (run_split p l)))

pub run_to_within : (p : ℕ → Bool) (s : List ℕ) (at : ℕ) → Within s at (At (run_to p s at))
unfolding run_to
run_to_within p s at = (omega arith, omega (arith, run_length p (drop at s), length-drop at s))

pub run_to_read : (p : ℕ → Bool) (s : List ℕ) (at : ℕ) → at < run_to p s at → run_to p s at ≤ length s
run_to_read p s at h = omega (arith, run_to_within p s at)

starts_length : (w l : List ℕ) → starts w l ≡ true → length w ≤ length l
starts_length [] l e = omega arith
starts_length (w ∷ ws) [] e = absurd (true≢false (sym e))
starts_length (w ∷ ws) (b ∷ bs) e =
    cond_of (λ (t : Bool). t ≡ true → suc (length ws) ≤ suc (length bs)) (eqb b w) _ _ (λ f g. omega (arith, starts_length ws bs g)) (λ f g. absurd (true≢false (sym g))) e

-- ---- each reader

module _ (s : List ℕ) where
  pub word_at_within : (w : List ℕ) (at : ℕ) → Within s at (word_at s w at)
  unfolding word_at
  word_at_within w at = cond_of (Within s at) (starts w (drop at s)) _ Nothing (λ e. (omega arith, omega (arith, starts_length w (drop at s) e, length-drop at s))) (λ e. tt)

  pub label_at_within : (at : ℕ) → Within s at (label_at s at).then
  unfolding label_at
  label_at_within at = cond_of (λ (l : ReadLabel). Within s at l.then) (leb (alphanum_to s at) at) _ _ (λ e. tt) (λ e. run_to_within is_alphanum s at)

  module _ (p : ℕ) where
    pub ws_within : (t : Stand) → Within s p t → Within s p (ws_on s t)
    unfolding ws_on
    ws_within t h = within_of s p (λ u. u) t t _ (run_to_within is_space s) h h

    pub word_within : (w : List ℕ) (t : Stand) → Within s p t → Within s p (word_on s t w)
    unfolding word_on
    word_within w t h = within_of s p (λ u. u) t t _ (word_at_within w) h h

    pub byte_within : (b : ℕ) (t : Stand) → Within s p t → Within s p (byte_on s t b)
    unfolding byte_on
    byte_within b t h = within_of s p (λ u. u) t t _ (word_at_within (b ∷ [])) h h

    pub label_within : (t : Stand) → Within s p t → Within s p (label_on s t).then
    unfolding label_on
    label_within t h = within_of s p (λ (l : ReadLabel). l.then) t (no_label t) _ label_at_within h h
