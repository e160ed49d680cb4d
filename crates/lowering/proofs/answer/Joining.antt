-- What the code leaves, said of the drawing: of records that are laid right, with their names and their guesses, slots and rows are those of a drawing
-- that is filled. Assumes nothing.
use mathlib.Core.Path.{◌≡◌, refl, sym, ◌∙◌, subst}
use mathlib.Core.List.{List}
use Prim.Native.Nat.{ℕ, ◌+◌, ◌*◌, ◌<◌}
use native.Mathlib.Omega.{arith}
use lib.ListN.{length, get_or}
use lib.Ieee.{Float}
use Rattle.ground.proofs.UpTo.{get_or_up_to}
use Rattle.layout.specs.declared.Layout.{Layout}
use Rattle.layout.specs.Slots.{empty}
use Rattle.layout.specs.Push.{state, onward}
use Rattle.record.specs.Decode.{count_of}
use Rattle.record.specs.Entry.{Entry, entry_of}
use Rattle.record.specs.Laid.{LaidOut}
use Rattle.names.specs.Labels.{drawn, kind_no}
use Rattle.names.specs.Cut.{known_parts}
use Rattle.names.specs.Names.{names_of, guess_places, guess_in, guesses_of}
use Rattle.names.proofs.Drawn.{drawn_length, drawn_at, drawn_kind}
use Rattle.drawing.specs.Needs.{point, circle}
use Rattle.lowering.specs.Slots.{slots, how_many, layout_of, values_of}
use Rattle.lowering.specs.Lower.{onto}
use Rattle.lowering.specs.Sketch.{many_of}
use Rattle.lowering.specs.Steps.{kinds_of, sketch_in, numbers_in, laid, Counted, SayableIf, firsts_of, Writable, FilledBy, Passing, Filled}
use Rattle.lowering.proofs.drawing.Counts.{length_slots}
use Rattle.lowering.proofs.drawing.Fine.{fine}
use Rattle.lowering.proofs.slots.Guesses.{numbers_of, values_in_lem}
use Rattle.lowering.proofs.slots.Pushes.{laid_is}
use Rattle.lowering.proofs.rows.Bytes.{length_rows}
use Rattle.lowering.proofs.rows.Tied.{sayable}
use Rattle.lowering.proofs.rows.Lines.{line_is, first_is, bytes_are}

module _ (text records names guesses : List ℕ) (lay : LaidOut text records) (names_are : names ≡ names_of (drawn text records)) (guesses_are : guesses ≡ guesses_of (drawn text records)) where
  abbrev es : List Entry
  es = drawn text records

  kinds_are : kinds_of records ≡ kind_no (drawn text records)
  kinds_are j i = sym (drawn_kind text records i) j

  -- the numbers of a guess, by the table
  numbers_are : (d part : ℕ) → d < length es → part < known_parts → numbers_in records guesses d part ≡ numbers_of es d part
  unfolding guesses_of entry_of
  numbers_are d part h b =
      let k = d * known_parts + part in
      let at : get_or guesses k 0 ≡ guess_in es k = rw guesses_are (get_or_up_to guess_places (guess_in es) k 0 (omega (arith, h, b, lay.few, drawn_length text records))) in
      rw (at, drawn_at text records (guess_in es k)) refl

  module _ (next : ℕ) (ids : List ℕ) (values : List Float) (rows : List ℕ) (p : Passing (drawn text records) next ids values rows) where
    -- what the code asks
    pub countable : (P C : ℕ) → P ≡ how_many point (drawn text records) → C ≡ how_many circle (drawn text records) → Counted records P C × Writable (sketch_in records names) next rows
    countable P C eP eC = (
      record { few = lay.few; points_are = eP ∙ same 1; circles_are = eC ∙ same 2 },
      record {
        each = λ i h. subst (SayableIf (firsts_of (sketch_in records names)) next) (sym (line_is text records names lay names_are i h))
            (rw (first_is text records names lay names_are)
            (λ u. sayable es (fine es p.passes) next i (rw (drawn_length text records) h) u p.few p.enough.ids_left));
        room = rw (bytes_are text records names lay names_are (fine es p.passes) next, length_rows es next) p.enough.rows_lent;
      },
    )
      where
        same : (kind : ℕ) → many_of (kind_no es) kind (length es) ≡ many_of (kinds_of records) kind (count_of records)
        same kind j = many_of (sym kinds_are j) kind (drawn_length text records j)

    laid_as : laid (kinds_of records) (numbers_in records guesses) (count_of records) (state empty next ids values)
        ≡ state (layout_of es) (next + length (slots es)) (onto ids (onward next (length (slots es)))) (onto values (values_of es))
    laid_as =
        let n = length_slots es in
        (λ j. laid (kinds_are j) (numbers_in records guesses) (sym (drawn_length text records) j) (state empty next ids values))
        ∙ laid_is (kind_no es) (numbers_in records guesses) (length es) next ids values (omega (arith, p.few)) (omega (arith, n, p.enough.ids_lent)) (omega (arith, n, p.enough.values_lent)) (omega (arith, n, p.enough.ids_left))
        ∙ rw (n, values_in_lem es (fine es p.passes) (numbers_in records guesses) numbers_are) refl

    -- and what it gives
    pub then_filled : (l : Layout) (ids' : List ℕ) (values' : List Float) (rows' : List ℕ) → FilledBy records names guesses next ids values rows l ids' values' rows'
        → Filled (drawn text records) next ids values rows l ids' values' rows'
    then_filled l ids' values' rows' f =
        record { slotted = rw laid_as at f.slotted; rows_are = f.rows_are ∙ rw (bytes_are text records names lay names_are (fine es p.passes) next) refl }
