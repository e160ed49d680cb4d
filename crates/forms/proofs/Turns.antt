-- The loop over the lines of a section: what is left to read, behind what has been stored. Assumes nothing.
use mathlib.Core.Path.{◌≡◌, refl, sym, ◌∙◌}
use mathlib.Core.Bool.{Bool, true, false, cond}
use mathlib.Core.List.{List, [], ◌∷◌}
use Rattle.std.specs.Prelude.{Option, None, Some}
use Prim.Native.Nat.{ℕ, zero, suc, ◌+◌, ◌-◌, ◌*◌, ◌≤◌, ◌<◌}
use native.Mathlib.Omega.{arith}
use lib.ListN.{length, drop, length-append}
use Rattle.text.specs.Text.{from, or_stand, refused_at, starts, word_at, byte_on, newline_on}
use Rattle.text.specs.declared.Stand.{Stand}
use Rattle.text.specs.declared.Stand.TheVariants.{At, Nothing, Refused}
use Rattle.text.proofs.Laws.{handed}
use Rattle.record.specs.declared.Record.{Record}
use Rattle.forms.specs.declared.Count.{Count}
use Rattle.forms.specs.declared.pieces.Parsed.{Parsed}
use Rattle.forms.specs.Forms.{Lines, no_line, line_on}
use Rattle.forms.specs.Section.{followed_by, rest_of, lines_on, stored, SectionRead}
use Rattle.forms.specs.Steps.{with_second, records_of, meant_line}
use Rattle.forms.proofs.Begin.{line_nowhere, line_refused}
use Rattle.forms.proofs.Storing.{stored_length, stored_append}

-- a line that was read has one record or two
few_records : (l : Parsed) → length (records_of l) ≤ 2
few_records l = go l.second
  where
    go : (second : Option ℕ) → length (with_second l.first second) ≤ 2
    go None = omega arith
    go (Some x) = omega arith

-- ---- what is left to read

-- at most so many lines, the next of which is due at a stand; where it does not read, reading stands at the other
pub left_of : ℕ → Bool → List ℕ → Stand → Stand → Lines
left_of zero g s stand other = no_line other
left_of (suc most) g s stand other =
    let l = line_on g s stand in
    from l.then (no_line (or_stand l.then l.then other)) (λ next. followed_by l.records (rest_of most g s next))

rest_left : (most : ℕ) (g : Bool) (s : List ℕ) (at : ℕ) → rest_of most g s at ≡ left_of most g s (newline_on s (At at)) (At at)
unfolding rest_of left_of
rest_left zero g s at = refl
rest_left (suc most) g s at = refl

lines_left : (g : Bool) (s : List ℕ) (at number : ℕ) → lines_on g s (At at) number ≡ left_of (suc (length s)) g s (At at) (refused_at number at)
unfolding lines_on left_of
lines_left g s at number = go (line_on g s (At at)).then (λ next. followed_by (line_on g s (At at)).records (rest_of (length s) g s next))
  where
    go : (t : Stand) (read : ℕ → Lines)
        → from (or_stand t t (refused_at number at)) (no_line (or_stand t t (refused_at number at))) read ≡ from t (no_line (or_stand t t (refused_at number at))) read
    go (At n) read = refl
    go Nothing read = refl
    go (Refused why) read = refl

-- where the first line is due at no place, there are no lines
lines_nowhere : (g : Bool) (s : List ℕ) (t : Stand) (number : ℕ) → ((n : ℕ) → t ≡ At n → ⊥) → lines_on g s t number ≡ no_line t
unfolding lines_on
lines_nowhere g s (At n) number h = absurd (h n refl)
lines_nowhere g s Nothing number h = rw (line_nowhere s g)
lines_nowhere g s (Refused why) number h = rw (line_refused s g why)

-- where no new line stands behind a line, none is left
none_left : (most : ℕ) (g : Bool) (s : List ℕ) (at : ℕ) → ((i : ℕ) → newline_on s (At at) ≡ At i → ⊥) → left_of most g s (newline_on s (At at)) (At at) ≡ no_line (At at)
unfolding left_of byte_on word_at
none_left most g s at = go (starts (10 ∷ []) (drop at s)) most
  where
    go : (t : Bool) (m : ℕ) → ((i : ℕ) → cond t (At (at + 1)) Nothing ≡ At i → ⊥) → left_of m g s (cond t (At (at + 1)) Nothing) (At at) ≡ no_line (At at)
    go true m h = absurd (h (at + 1) refl)
    go false zero h = refl
    go false (suc m) h = rw (line_nowhere s g)

-- ---- the records of no line, and of one more

pub none_read : (d : List ℕ) (n : ℕ) (then : Stand) → SectionRead d n (no_line then) (record { count = n; then = then }) d
unfolding stored
none_read d n then = record { count_is = omega arith; then_is = refl; buffer = refl }

more_read : {d d' : List ℕ} {n : ℕ} {x : Count} (rs : List Record) (l : Lines)
    → SectionRead (stored d n rs) (n + length rs) l x d' → SectionRead d n (followed_by rs l) x d'
more_read {d} {n = n} rs l r =
    record { count_is = omega (arith, r.count_is, length-append rs l.records); then_is = r.then_is; buffer = r.buffer ∙ sym (stored_append d n rs l.records) }

pub nowhere : (g : Bool) (s d : List ℕ) (n : ℕ) (t : Stand) (number : ℕ) → ((n : ℕ) → t ≡ At n → ⊥)
    → SectionRead d n (lines_on g s t number) (record { count = n; then = t }) d
nowhere g s d n t number h = rw (lines_nowhere g s t number h) (none_read d n t)

-- ---- what holds at the loop's head: k lines were read, n is the next place, the next line is due at a stand, and reading stands at the other
-- without it; who reads the lines that are left has read all

pub record Left (g : Bool) (s d₀ : List ℕ) (start : ℕ) (all : Lines) (d : List ℕ) (n : ℕ) (stand other : Stand) (k : ℕ) : Type 0 where
  pub rest : {x : Count} {d' : List ℕ} → SectionRead d n (left_of (suc (length s) - k) g s stand other) x d' → SectionRead d₀ start all x d'
  pub size : length d ≡ length d₀
  pub few : n ≤ start + 2 * k

pub first : (g : Bool) (s d : List ℕ) (n at number : ℕ) → Left g s d n (lines_on g s (At at) number) d n (At at) (refused_at number at) 0
first g s d n at number =
    let e : suc (length s) - 0 ≡ suc (length s) = omega arith in
    record { rest = λ r. rw (lines_left g s at number) (rw e at r); size = refl; few = omega arith }

module _ {g : Bool} {s d₀ : List ℕ} {start : ℕ} {all : Lines} {d : List ℕ} {n : ℕ} {stand other : Stand} {k : ℕ} (l : Left g s d₀ start all d n stand other k) where
  module _ (line : Parsed) (line_is : meant_line line ≡ line_on g s stand) (h : k ≤ length s) where
    line_left : left_of (suc (length s) - k) g s stand other
        ≡ from line.then (no_line (or_stand line.then line.then other)) (λ next. followed_by (meant_line line).records (rest_of (length s - k) g s next))
    unfolding left_of
    line_left = let one : suc (length s) - k ≡ suc (length s - k) = omega arith in rw (one, ← line_is)

    pub turn : (next : ℕ) → line.then ≡ At next
        → Left g s d₀ start all (stored d n (records_of line)) (n + length (records_of line)) (newline_on s (At next)) (At next) (k + 1)
    turn next e =
        let less : suc (length s) - (k + 1) ≡ length s - k = omega arith in
        record {
          rest = λ r. l.rest (rw (line_left, e, rest_left (length s - k) g s next) (more_read (records_of line) _ (rw less at r)));
          size = stored_length d n (records_of line) ∙ l.size;
          few = omega (arith, few_records line);
        }

    -- no new line stands behind it
    pub last : (next : ℕ) → line.then ≡ At next → ((i : ℕ) → newline_on s (At next) ≡ At i → ⊥)
        → SectionRead d₀ start all (record { count = n + length (records_of line); then = At next }) (stored d n (records_of line))
    last next e o = (turn next e).rest (rw (none_left (suc (length s) - (k + 1)) g s next o) (none_read _ _ _))

    pub halt : ((i : ℕ) → line.then ≡ At i → ⊥) → SectionRead d₀ start all (record { count = n; then = or_stand line.then line.then other }) d
    halt o = l.rest (rw (line_left, ← handed line.then (no_line (or_stand line.then line.then other)) _ o) (none_read _ _ _))

  pub over : length s < k → SectionRead d₀ start all (record { count = n; then = other }) d
  unfolding left_of
  over h = let none : suc (length s) - k ≡ 0 = omega arith in l.rest (rw none (none_read _ _ _))
