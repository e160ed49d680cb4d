-- What a drawing that passes the check is lowered to depends on its labels through their names alone: its rows, its starting values and its layout are
-- those of its lines. Assumes nothing.
use mathlib.Core.Path.{◌≡◌, refl, sym, ap, ◌∙◌}
use mathlib.Core.Bool.{Bool, true, false, ◌&&◌, cond}
use mathlib.Core.List.{List, [], ◌∷◌, ◌++◌, map}
use Prim.Native.Nat.{ℕ, ◌+◌, ◌*◌, ◌<◌}
use native.Mathlib.Omega.{arith}
use lib.Dec.{eqb}
use lib.ListN
use lib.ListN.{length, get_or, length-map}
use Rattle.ground.specs.Lists.{flat}
use Rattle.ground.proofs.Pieces.{Each, each_of, get_or_map}
use Rattle.refusal.specs.First.{passed}
use Rattle.refusal.proofs.Alike.{and_alike}
use Rattle.layout.specs.Slots.{slot_count}
use Rattle.kinds.specs.Kinds.{Rule, Guess, first_rule, last_rule, pair_guess, number_guess}
use Rattle.record.specs.Entry.{Entry, no_entry, entry_at}
use Rattle.kinds.proofs.Table.{guess_label}
use Rattle.names.specs.Labels.{kind_no, within, lowest_or}
use Rattle.names.specs.Cut.{known_parts}
use Rattle.names.specs.Names.{name_for, tells_part, place_by, guesses_part, guess_in}
use Rattle.names.proofs.Laws.{says_within}
use Rattle.names.proofs.First.{lowest_same}
use Rattle.row.specs.Row.{Row}
use Rattle.drawing.specs.Check.{check_of}
use Rattle.lowering.specs.Slots.{layout_of}
use Rattle.lowering.specs.Rows.{row_for, rules_of, rows_of}
use Rattle.lowering.specs.Sketch.{line_for, sketch, line_at, kind_in, layout_in, first_in, first_by, row_by, row_if, rows_by, guesses_by, numbers_by, values_in, Sketched}
use Rattle.lowering.proofs.drawing.Counts.{length_slots}
use Rattle.lowering.proofs.drawing.Fine.{Fine, fine}
use Rattle.lowering.proofs.slots.Guesses.{numbers_of, values_in_lem}
use Rattle.lowering.proofs.rows.Tied.{ids_same}

-- a name tells the part whose place is k
abbrev tells : ℕ → ℕ → Bool
tells k name = tells_part name && eqb (place_by name) k

module _ (es : List Entry) where
  -- ---- lines

  pub length_sketch : length (sketch es) ≡ length es
  unfolding sketch
  length_sketch = length-map es (line_for es)

  pub line_at_lem : (i : ℕ) → line_at (sketch es) i ≡ line_for es (entry_at es i)
  unfolding sketch
  line_at_lem i = ListN.get_or-map (line_for es) es i no_entry

  kinds_are : kind_in (sketch es) ≡ kind_no es
  kinds_are j i = (line_at_lem i j).kind

  pub first_are : first_by (sketch es) ≡ first_in (kind_no es) (length es)
  first_are j = first_in (kinds_are j) (length_sketch j)

  layout_is : layout_of es ≡ layout_in (kind_in (sketch es)) (length (sketch es))
  layout_is j = layout_in (sym kinds_are j) (sym length_sketch j)

  module _ (w : Fine es) where
    -- ---- rows

    rows_same : (next : ℕ) (fs : List Entry) → Each (λ e. Rule e.kind → row_for es next e ≡ row_by (first_in (kind_no es) (length es)) next (line_for es e)) fs
        → map (row_for es next) (rules_of fs) ≡ flat (row_if (first_in (kind_no es) (length es)) next) (map (line_for es) fs)
    unfolding row_if
    rows_same next [] a = refl
    rows_same next (e ∷ fs) a = rw (← rows_same next fs a.1) (go (within first_rule last_rule e.kind) refl)
      where
        go : (b : Bool) → within first_rule last_rule e.kind ≡ b
            → map (row_for es next) (cond b (e ∷ rules_of fs) (rules_of fs)) ≡ cond b (row_by (first_in (kind_no es) (length es)) next (line_for es e) ∷ []) [] ++ map (row_for es next) (rules_of fs)
        go true q = ap (λ (r : Row). r ∷ map (row_for es next) (rules_of fs)) (a.0 ((says_within first_rule last_rule e.kind).so q))
        go false q = refl

    pub rows_by_lem : (next : ℕ) → rows_of es next ≡ flat (row_if (first_in (kind_no es) (length es)) next) (sketch es)
    unfolding rows_of sketch
    rows_by_lem next = rows_same next es (each_of _ es no_entry row_same)
      where
        row_same : (i : ℕ) → i < length es → Rule (kind_no es i) → row_for es next (entry_at es i) ≡ row_by (first_in (kind_no es) (length es)) next (line_for es (entry_at es i))
        row_same i h u j = record { kind = kind_no es i; third = (entry_at es i).third; ids = ids_same es w next i h u j; bits = (entry_at es i).x }

    rows_are : (next : ℕ) → rows_of es next ≡ rows_by next (sketch es)
    unfolding rows_by
    rows_are next = rows_by_lem next ∙ (λ j. flat (row_if (sym first_are j) next) (sketch es))

    -- ---- starting values

    -- a guess has a label, whose name is its line's first
    guesses_same : (k i : ℕ) → i < length es → guesses_by (sketch es) k i ≡ guesses_part es k i
    unfolding guesses_by guesses_part
    guesses_same k i h =
        let one : Guess (kind_no es i) → 0 < length (entry_at es i).labels = λ g. omega (arith, (w.sound i h).count, guess_label (kind_no es i) g) in
        (λ j. within pair_guess number_guess (line_at_lem i j).kind && tells k (get_or (line_at_lem i j).names 0 0))
        ∙ and_alike (within pair_guess number_guess (kind_no es i)) _ _
        (λ e. ap (tells k) (get_or_map (name_for es) (entry_at es i).labels 0 [] 0 (one ((says_within pair_guess number_guess (kind_no es i)).so e))))

    numbers_are : (d part : ℕ) → numbers_by (sketch es) d part ≡ numbers_of es d part
    numbers_are d part =
        let k = d * known_parts + part in
        let same : lowest_or (length (sketch es)) (guesses_by (sketch es) k) ≡ guess_in es k = rw length_sketch (lowest_same (length es) _ _ (guesses_same k)) in
        rw (same, line_at_lem (guess_in es k)) refl

pub sketched : (es : List Entry) → check_of es ≡ passed → Sketched es
sketched es e =
    let w = fine es e in
    record {
      rows = rows_are es w;
      values =
          values_in_lem es w (numbers_by (sketch es)) (λ d part h b. numbers_are es w d part)
          ∙ (λ j. values_in (sym (kinds_are es) j) (numbers_by (sketch es)) (sym (length_sketch es) j));
      layout = layout_is es;
      slot_count = length_slots es ∙ ap slot_count (layout_is es);
    }
