-- A form whose first word cannot stand at a place reads nothing there: by its first byte, or as reading stands at no place. Assumes nothing.
use mathlib.Core.Path.{◌≡◌, refl, sym, ◌∙◌}
use mathlib.Core.Bool.{Bool, true, false, not, true≢false}
use mathlib.Core.List.{List, [], ◌∷◌}
use Prim.Native.Nat.{ℕ, zero, suc}
use native.Mathlib.Omega.{arith}
use native.Mathlib.Decide.{dec_le}
use native.Mathlib.Nat.{lt_of_not-le}
use borrow.Author.Tests.{not-true}
use lib.Dec.{eqb}
use lib.ListN.{length, get_or, take, drop, drop_of_length-le}
use lib.Seq.{drop-cons}
use Rattle.ground.specs.Words.{bytes}
use Rattle.ground.proofs.Lists.{and_first, and_second}
use Rattle.refusal.specs.declared.Refusal.{Refusal}
use Rattle.text.specs.Text.{or_stand, is_space, run_to, word_at, word_on, ws_on, byte_on, label_on, suffixed_on}
use Rattle.text.specs.declared.Stand.{Stand}
use Rattle.text.specs.declared.Stand.TheVariants.{At, Nothing, Refused}
use Rattle.text.specs.declared.ReadLabel.{ReadLabel}
use Rattle.text.proofs.Laws.{run_to_stop, run_to_end}
use Rattle.number.specs.Number.{number_on, expr_on}
use Rattle.kinds.specs.Kinds.{new_point, new_circle, fix_component, fix_center, word_of}
use Rattle.record.specs.declared.Record.{Record}
use Rattle.forms.specs.Forms.{Lines, no_line, line_then, or_line, around_on, either_on, pair_on, declare_on, fixed_on, assign_on, more_on, angle_on, amount_on, gap_on, keyword_on, keyword_kinds, first_of, label_forms_on, instruction_on, guessed_on, guess_on, line_on}
use Rattle.forms.specs.Steps.{assigned_on, behind_on, declaration_on, opens, none_begins}
use Rattle.forms.proofs.Words.{no_keyword, no_declaration}

-- ---- choices

pub or_assoc : (a b c : Lines) → or_line (or_line a b) c ≡ or_line a (or_line b c)
or_assoc a b c = go a.then refl
  where
    go : (t : Stand) → a.then ≡ t → or_stand (or_stand t a b).then (or_stand t a b) c ≡ or_stand t a (or_line b c)
    go (At n) e = rw e
    go Nothing e = refl
    go (Refused why) e = rw e

line_or : (rs : List Record) (t : Stand) → or_line (line_then rs t) (no_line Nothing) ≡ line_then rs t
line_or rs (At n) = refl
line_or rs Nothing = refl
line_or rs (Refused why) = refl

-- ---- a word by its first byte

word_not : (w s : List ℕ) (at : ℕ) → opens (get_or s at 0) w ≡ false → word_on s (At at) w ≡ Nothing
unfolding word_on word_at
word_not [] s at e = absurd (true≢false e)
word_not (w ∷ ws) s at e = elim (dec_le (length s) at) [
  | yes h ↦ rw (drop_of_length-le s h)
  | no h ↦ rw (drop-cons s at 0 (lt_of_not-le h), e)
]

-- ---- declarations

pub declared_or : (s : List ℕ) (stand : Stand) (k : ℕ) → or_line (declare_on s stand k) (no_line Nothing) ≡ declare_on s stand k
unfolding declare_on
declared_or s stand k = line_or _ _

pub not_declared : (s : List ℕ) (at b : ℕ) → get_or s at 0 ≡ b → (k : ℕ) → opens b (word_of k) ≡ false → declare_on s (At at) k ≡ no_line Nothing
not_declared s at b e k f = no_declaration s (At at) k (word_not (word_of k) s at (rw e f))

-- ---- keywords

pub skip : (s : List ℕ) (at i : ℕ) (ks : List ℕ) → none_begins (get_or s at 0) (take i ks) ≡ true → first_of s (At at) ks ≡ first_of s (At at) (drop i ks)
unfolding first_of
skip s at zero ks e = refl
skip s at (suc i) [] e = refl
skip s at (suc i) (k ∷ ks) e =
    rw (no_keyword s (At at) k (word_not (word_of k) s at (not-true _ (and_first (not (opens (get_or s at 0) (word_of k))) _ e))))
    (skip s at i ks (and_second (not (opens (get_or s at 0) (word_of k))) _ e))

-- ---- what stands behind a label

no_space : (s : List ℕ) (at : ℕ) → is_space (get_or s at 0) ≡ false → run_to is_space s at ≡ at
no_space s at e = elim (dec_le (length s) at) [
  | yes h ↦ run_to_end is_space s at h
  | no h ↦ run_to_stop is_space s at (lt_of_not-le h) e
]

module _ (s : List ℕ) (at : ℕ) (l : ReadLabel) (next b : ℕ) (e : l.then ≡ At next) (d : get_or s next 0 ≡ b) (o : eqb b 46 ≡ false) where
  fixed_not : (k : ℕ) (between : List ℕ) → opens b between ≡ false → fixed_on s l k between ≡ no_line Nothing
  unfolding fixed_on either_on around_on ws_on word_on byte_on number_on
  fixed_not k between f = rw (e, word_not between s next (rw d f))

  -- no point
  pub no_point : assigned_on s (At at) l ≡ behind_on s (At at) l
  no_point = rw (fixed_not fix_component (bytes ".") o, fixed_not fix_center (bytes ".center.") o)

  bare : suffixed_on s l ≡ l
  unfolding suffixed_on label_on byte_on word_on
  bare = rw (e, word_not (46 ∷ []) s next (rw d o))

  assign_not : is_space b ≡ false → eqb b 61 ≡ false → assign_on s l ≡ no_line Nothing
  unfolding assign_on around_on pair_on ws_on byte_on word_on number_on
  assign_not f g = rw (bare, e, no_space s next (rw d f), word_not (61 ∷ []) s next (rw d g))

  -- neither a point nor a space nor `=`
  pub no_label_form : is_space b ≡ false → eqb b 61 ≡ false → first_of s (At at) keyword_kinds ≡ behind_on s (At at) l
  no_label_form f g = rw (← no_point, assign_not f g)

-- ---- instructions

-- the declarations, then the other forms
pub by_declaration : (s : List ℕ) (stand : Stand) → instruction_on s stand ≡ or_line (declaration_on s (ws_on s stand)) (label_forms_on s (ws_on s stand))
unfolding instruction_on
by_declaration s stand = let at = ws_on s stand in rw (or_assoc (declare_on s at new_point), or_assoc (declare_on s at new_circle))

-- ---- where reading stands at no place

-- a declaration hands on a stand that is no place, and the other forms read nothing where nothing was read
pub forms_nowhere : (s : List ℕ) (t : Stand) → ((n : ℕ) → t ≡ At n → ⊥) → no_line t ≡ or_line (declaration_on s t) (label_forms_on s t)
unfolding declare_on label_forms_on fixed_on assign_on first_of keyword_on either_on around_on pair_on more_on amount_on angle_on gap_on
    suffixed_on ws_on word_on byte_on label_on number_on expr_on
forms_nowhere s (At n) h = absurd (h n refl)
forms_nowhere s Nothing h = refl
forms_nowhere s (Refused why) h = refl

-- a line is none where nothing was read
pub line_nowhere : (s : List ℕ) (guess : Bool) → line_on guess s Nothing ≡ no_line Nothing
unfolding ws_on guess_on guessed_on pair_on suffixed_on label_on byte_on word_on number_on
line_nowhere s false = by_declaration s Nothing ∙ sym (forms_nowhere s Nothing (λ n e. let c : ◌≡◌ {A = ℕ} 0 1 = cc in omega arith))
line_nowhere s true = refl

-- a refusal is handed on by a line
pub line_refused : (s : List ℕ) (guess : Bool) (why : Refusal) → (line_on guess s (Refused why)).then ≡ Refused why
unfolding instruction_on guess_on guessed_on declare_on pair_on suffixed_on label_on byte_on word_on ws_on number_on
line_refused s false why = refl
line_refused s true why = refl
