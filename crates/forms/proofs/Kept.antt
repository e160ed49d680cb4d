-- What spaces, words, bytes, labels and numbers keep of where reading stands, every form keeps: a form is made of them. Assumes nothing.
use mathlib.Core.Path.{◌≡◌, refl}
use mathlib.Core.Bool.{Bool, true, false}
use mathlib.Core.List.{List, [], ◌∷◌}
use Prim.Native.Nat.{ℕ}
use lib.Dec.{eqb, ltb}
use Rattle.ground.specs.Words.{bytes}
use Rattle.ground.proofs.Lists.{and_first, and_second, all}
use Rattle.text.specs.Text.{from, is_space, no_label, ws_on, word_on, byte_on, label_on, suffixed_on, dotted_on}
use Rattle.text.specs.declared.Stand.{Stand}
use Rattle.text.specs.declared.Stand.TheVariants.{Nothing}
use Rattle.text.specs.declared.ReadLabel.{ReadLabel}
use Rattle.text.proofs.Laws.{from_of, either_of, cond_of}
use Rattle.text.proofs.Within.{Within, run_to_within, word_at_within, label_at_within}
use Rattle.number.specs.Number.{no_number, number_on, depth, expr_on}
use Rattle.number.specs.declared.Number.{Number}
use Rattle.number.proofs.Within.{number_at_read, expr_at_read}
use Rattle.kinds.specs.Kinds.{new_point, new_circle, new_arc, fix_component, fix_center, kind_at, word_of, numberless, number, expression}
use Rattle.record.specs.Decode.{is_guess}
use Rattle.record.specs.Sound.{fields_test}
use Rattle.forms.specs.declared.pieces.Amount.{Amount}
use Rattle.forms.specs.declared.pieces.Side.{Side}
use Rattle.forms.specs.Forms.{Lines, no_line, or_line, around_on, either_on, pair_on, declare_on, fixed_on, assign_on, more_on, angle_on, amount_on, gap_on, keyword_on, keyword_kinds, first_of, label_forms_on, instruction_on, guessed_on, guess_on, line_on}

-- each reader keeps P, and P holds where nothing was read
pub record Kept (s : List ℕ) (P : Stand → Type 0) : Type 0 where
  pub nothing : P Nothing
  pub ws : {t : Stand} → P t → P (ws_on s t)
  pub word : {t : Stand} (w : List ℕ) → P t → P (word_on s t w)
  pub byte : {t : Stand} (b : ℕ) → P t → P (byte_on s t b)
  pub label : {t : Stand} → P t → P (label_on s t).then
  pub number : {t : Stand} → P t → P (number_on s t).then
  pub expr : {t : Stand} → P t → P (expr_on s t).then

-- they do so where P is kept by all that is read from a place on, goes on from there and stays in the text
pub kept_of : {s : List ℕ} {P : Stand → Type 0} → P Nothing → ((X : Type 0) (then : X → Stand) (t : Stand) (rest : X) (read : ℕ → X)
    → ((n : ℕ) → Within s n (then (read n))) → P (then rest) → P t → P (then (from t rest read))) → Kept s P
unfolding ws_on word_on byte_on label_on number_on expr_on
kept_of {s} nothing on =
    record {
      nothing = nothing;
      ws = λ {t} h. on Stand (λ u. u) t t _ (run_to_within is_space s) h h;
      word = λ {t} w h. on Stand (λ u. u) t t _ (word_at_within s w) h h;
      byte = λ {t} b h. on Stand (λ u. u) t t _ (word_at_within s (b ∷ [])) h h;
      label = λ {t} h. on ReadLabel (λ l. l.then) t (no_label t) _ (label_at_within s) h h;
      number = λ {t} h. on Number (λ n. n.then) t (no_number t) _ (λ n. (number_at_read s n).within) h h;
      expr = λ {t} h. on Number (λ n. n.then) t (no_number t) _ (λ n. (expr_at_read s depth n).within) h h;
    }

-- a kind that is declared by a plain label alone, as the table has it
abbrev pub Declares : ℕ → Type 0
Declares k = (is_guess k ≡ false) × (fields_test (kind_at k) 0 1 0 0 ≡ true) × ((kind_at k).dotted ≡ false)

-- what holds of each form, and of no line, holds of an instruction; of the keyword forms it may hold by a test of their kinds
module _ (s : List ℕ) (Q : Lines → Type 0) (nothing : Q (no_line Nothing)) where
  or_of : {x y : Lines} → Q x → Q y → Q (or_line x y)
  or_of {x} {y} f g = either_of Q x.then x y f g

  first_of_lem : (t : Stand) (test : ℕ → Bool) → ((k : ℕ) → test k ≡ true → Q (keyword_on s t k)) → (ks : List ℕ) → all test ks ≡ true → Q (first_of s t ks)
  unfolding first_of
  first_of_lem t test f [] e = nothing
  first_of_lem t test f (k ∷ ks) e = or_of (f k (and_first (test k) (all test ks) e)) (first_of_lem t test f ks (and_second (test k) (all test ks) e))

  pub instruction_of : (t : Stand) → let at = ws_on s t in let l = label_on s at in
      ((k : ℕ) → Declares k → Q (declare_on s at k)) → Q (fixed_on s l fix_component (bytes ".")) → Q (fixed_on s l fix_center (bytes ".center.")) → Q (assign_on s l)
      → (test : ℕ → Bool) → all test keyword_kinds ≡ true → ((k : ℕ) → test k ≡ true → Q (keyword_on s at k)) → Q (instruction_on s t)
  unfolding instruction_on label_forms_on
  instruction_of t declared fixed center assigned test e keyword =
      or_of (declared new_point (refl, refl, refl)) (or_of (declared new_circle (refl, refl, refl)) (or_of (declared new_arc (refl, refl, refl))
      (or_of fixed (or_of center (or_of assigned (first_of_lem (ws_on s t) test keyword keyword_kinds e))))))

module _ {s : List ℕ} {P : Stand → Type 0} (k : Kept s P) where
  -- ---- pieces

  pub around_kept : {t : Stand} (b : ℕ) → P t → P (around_on s t b)
  unfolding around_on
  around_kept b h = k.ws (k.byte b (k.ws h))

  pub side_kept : {t : Stand} (a b : List ℕ) → P t → P (either_on s t a b).then
  unfolding either_on
  side_kept {t} a b h = either_of (λ (i : Side). P i.then) (word_on s t a) _ _ (k.word a h) (k.word b h)

  pub pair_kept : {t : Stand} → P t → P (pair_on s t).then
  unfolding pair_on
  pair_kept h = k.byte 41 (k.number (k.ws (k.byte 44 (k.number (k.ws (k.byte 40 h))))))

  pub suffixed_kept : (l : ReadLabel) → P l.then → P (suffixed_on s l).then
  unfolding suffixed_on
  suffixed_kept l h =
      from_of (λ (m : ReadLabel). P m.then) (label_on s (byte_on s l.then 46)).then l _ h (λ n e. rw e at (k.label (k.byte 46 h)))

  pub more_kept : {t : Stand} (on : Bool) → P t → P (more_on s t on).then
  unfolding more_on
  more_kept true h = k.label (around_kept 44 h)
  more_kept false h = h

  pub gap_kept : {t : Stand} (on : Bool) → P t → P (gap_on s t on)
  unfolding gap_on
  gap_kept true h = k.ws h
  gap_kept false h = h

  pub amount_kept : {t : Stand} (sort : ℕ) → P t → P (amount_on s t sort).then
  unfolding amount_on angle_on
  amount_kept {t} sort h =
      let f = around_kept 44 h in
      let Q : Amount → Type 0 = λ n. P n.then in
      cond_of Q (eqb sort numberless) _ _ (λ _. h) (λ _. cond_of Q (eqb sort number) _ _ (λ _. k.number f)
      (λ _. cond_of Q (eqb sort expression) _ _ (λ _. k.expr f) (λ _. side_kept (bytes "deg") (bytes "rad") (k.number f))))

  -- ---- forms, from behind their first word or label on

  pub fixed_kept : (l : ReadLabel) (kind : ℕ) (between : List ℕ) → P (word_on s l.then between) → P (fixed_on s l kind between).then
  unfolding fixed_on
  fixed_kept l kind between h = k.number (around_kept 61 (side_kept (bytes "x") (bytes "y") h))

  pub assign_kept : (l : ReadLabel) → P (around_on s (suffixed_on s l).then 61) → P (assign_on s l).then
  unfolding assign_on
  assign_kept l h = pair_kept h

  pub keyword_kept : (t : Stand) (kind : ℕ) → P (word_on s t (word_of kind)) → P (keyword_on s t kind).then
  unfolding keyword_on
  keyword_kept t kind h =
      k.byte 41 (gap_kept (kind_at kind).gap (amount_kept (kind_at kind).number
      (more_kept (ltb 3 (kind_at kind).labels) (more_kept (ltb 2 (kind_at kind).labels) (more_kept (ltb 1 (kind_at kind).labels)
      (k.label (k.ws (k.byte 40 (k.ws h)))))))))

  -- ---- lines

  pub line_kept : {t : Stand} (guess : Bool) → P t → P (line_on guess s t).then
  unfolding declare_on guess_on guessed_on
  line_kept {t} false h =
      let at = k.ws h in
      let f = k.label at in
      instruction_of s (λ (l : Lines). P l.then) k.nothing t (λ kind e. k.label (k.ws (k.word (word_of kind) at)))
      (fixed_kept _ fix_component (bytes ".") (k.word (bytes ".") f)) (fixed_kept _ fix_center (bytes ".center.") (k.word (bytes ".center.") f))
      (assign_kept _ (around_kept 61 (suffixed_kept _ f))) (λ kind. true) refl (λ kind e. keyword_kept _ kind (k.word (word_of kind) at))
  line_kept {t} true h =
      let l = dotted_on s (ws_on s t) in
      let f = k.ws (k.word (bytes "roughly") (k.ws (suffixed_kept (label_on s (ws_on s t)) (k.label (k.ws h))))) in
      either_of (λ (m : Lines). P m.then) (pair_on s (ws_on s (word_on s (ws_on s l.then) (bytes "roughly")))).then _ _ (pair_kept f) (k.number f)
