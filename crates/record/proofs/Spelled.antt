-- A text is spelled as a label exactly if reading a label takes all of it: what was read is spelled as a label, and a run of letters and
-- digits ends at a byte that is none. Assumes nothing.
use mathlib.Core.Path.{◌≡◌, refl, sym, ap, ◌∙◌}
use mathlib.Core.Logic.{inl, inr}
use mathlib.Core.Bool.{Bool, true, false}
use mathlib.Core.List.{List, [], ◌∷◌, ◌++◌, append-nil}
use Prim.Native.Nat.{ℕ, suc, ◌+◌, ◌-◌, ◌≤◌, ◌<◌}
use native.Mathlib.Omega.{arith}
use lib.Dec.{leb}
use lib.ListN.{length, drop, length-append, drop_of_length-le}
use lib.Seq.{take-length, drop_at, drop-drop}
use borrow.Author.Tests.{lt-leb}
use Rattle.ground.proofs.Pieces.{Each, each_of}
use Rattle.refusal.proofs.Says.{Says, says_and, says_lt, says_eq, says_iff}
use Rattle.text.specs.Text.{is_alphanum, alphanum_to, leading, run_to, label_at, label_on, byte_on, word_at, suffixed_on, dotted_on}
use Rattle.text.specs.declared.Stand.TheVariants.{At}
use Rattle.text.specs.declared.ReadLabel.{ReadLabel}
use Rattle.text.proofs.Laws.{Reached, here, cond_of}
use Rattle.record.specs.Entry.{Label}
use Rattle.record.specs.Sound.{Plain, Spelled, spelled_test}
use Rattle.record.proofs.Found.{Found, label_found, suffixed_found}

-- ---- what is spelled as a label is read

-- a run goes up to the first byte that does not pass
run_ends : (p : ℕ → Bool) (a t : List ℕ) → Each (λ b. p b ≡ true) a → leading p t ≡ [] → leading p (a ++ t) ≡ a
run_ends p [] t h e = e
run_ends p (b ∷ a) t h e = rw (h.0, run_ends p a t h.1 e)

-- letters and digits at a place, with what is none behind them
label_is : (l : List ℕ) (at : ℕ) (a t : List ℕ) → drop at l ≡ a ++ t → Plain a → leading is_alphanum t ≡ []
    → label_on l (At at) ≡ record { start = at; len = length a; then = At (at + length a) }
unfolding label_on label_at run_to
label_is l at a t e p r =
    let n : at + length a - at ≡ length a = omega arith in
    rw (e, run_ends is_alphanum a t (each_of _ a 0 p.each) r, lt-leb (at + length a) at (omega (arith, p.some)), n)

-- the length of what was read is some, and the text's
abbrev Taken : Label → ReadLabel → Type 0
Taken l m = (0 < m.len) × (m.len ≡ length l)

plain_taken : (l : Label) → Plain l → Taken l (label_on l (At 0))
plain_taken l p = rw (label_is l 0 l [] (sym (append-nil l)) p refl) (p.some, refl)

dotted_taken : (l : Label) → Spelled true l → Taken l (dotted_on l (At 0))
unfolding suffixed_on label_on byte_on word_at
dotted_taken l (inl p) =
    let h : length l ≤ 0 + length l = omega arith in
    rw (label_is l 0 l [] (sym (append-nil l)) p refl, drop_of_length-le l h) (p.some, refl)
dotted_taken l (inr (a, b, e, pa, pb)) =
    let n = length a in
    let d : drop (0 + n) l ≡ 46 ∷ b = rw e (drop_at a (46 ∷ b) (0 + n) (omega arith)) in
    let second : label_on l (At (0 + n + 1)) ≡ record { start = 0 + n + 1; len = length b; then = At (0 + n + 1 + length b) }
    = label_is l (0 + n + 1) b [] (sym (drop-drop 1 (0 + n) l) ∙ ap (drop 1) d ∙ sym (append-nil b)) pb refl in
    let long : length l ≡ n + suc (length b) = rw e (length-append a (46 ∷ b)) in
    rw (label_is l 0 a (46 ∷ b) e pa refl, d, second) (omega arith, omega arith)

-- ---- what was read and takes all is spelled as a label

module _ (l : Label) where
  -- what has a length was read
  some_read : let m = label_on l (At 0) in (0 < m.len → Reached m.then) × (0 < (suffixed_on l m).len → Reached m.then)
  unfolding label_on label_at suffixed_on byte_on
  some_read =
      cond_of (λ (m : ReadLabel). (0 < m.len → Reached m.then) × (0 < (suffixed_on l m).len → Reached m.then)) (leb (alphanum_to l 0) 0) _ _
      (λ e. (λ h. absurd (omega arith), λ h. absurd (omega arith))) (λ e. (λ h. here _, λ h. here _))

  whole : (dotted : Bool) (m : ReadLabel) → Found l dotted m → m.len ≡ length l → Spelled dotted l
  whole dotted m f e =
      let z : m.start ≡ 0 = omega (arith, f.inside, e) in
      rw (z, e, take-length l) at f.spelled

  pub says_spelled : (dotted : Bool) → Says (spelled_test dotted l) (Spelled dotted l)
  unfolding spelled_test
  says_spelled true =
      says_iff (λ t. whole true (dotted_on l (At 0)) (suffixed_found l (label_on l (At 0)) (label_found l (At 0) (some_read.1 t.0))) t.1) (dotted_taken l)
      (says_and (says_lt 0 (dotted_on l (At 0)).len) (says_eq (dotted_on l (At 0)).len (length l)))
  says_spelled false =
      says_iff (λ t. whole false (label_on l (At 0)) (label_found l (At 0) (some_read.0 t.0)) t.1) (plain_taken l)
      (says_and (says_lt 0 (label_on l (At 0)).len) (says_eq (label_on l (At 0)).len (length l)))
