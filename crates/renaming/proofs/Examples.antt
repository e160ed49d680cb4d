-- The plate of `lowering` by the names of two branches: two names are exchanged and one is new. Both drawings pass, the one is the other renamed, and both
-- are lowered to the same, as the claim says and as the definitions compute; with labels left free, with a part changed, or with a name that is no label
-- it is otherwise. Assumes nothing.
use Rattle.std.specs.Prelude.{Result, Err}
use mathlib.Core.Path.{◌≡◌, refl, ap}
use mathlib.Core.Bool.{cond}
use mathlib.Core.List.{List, [], ◌∷◌, map}
use Prim.Native.Nat.{ℕ, ◌+◌}
use native.Mathlib.Omega.{arith}
use lib.ListN.{length, get_or, replicate, length-map}
use lib.Ieee.{Float, nan}
use Rattle.refusal.specs.declared.Refusal.{Refusal}
use Rattle.drawing.specs.Check.{good_check}
use Rattle.ground.specs.Words.{bytes}
use Rattle.ground.specs.Lists.{flat}
use Rattle.ground.proofs.Pieces.{get_or_map}
use Rattle.refusal.specs.Refusal.{refusal}
use Rattle.refusal.specs.First.{lowest, first}
use Rattle.text.specs.Text.{run_to, word_at, byte_on, label_at, label_on, suffixed_on}
use Rattle.layout.specs.Push.{onward}
use Rattle.record.specs.declared.View.{View}
use Rattle.record.specs.declared.Record.{Record}
use Rattle.record.specs.Record.{encode, encode_all}
use Rattle.record.specs.Decode.{decode}
use Rattle.record.specs.Entry.{Label, Entry, no_entry, entry_of}
use Rattle.record.specs.Sound.{spelled_test, framed_test, sound_test}
use Rattle.record.specs.Formed.{entry, entries, malformed_test}
use Rattle.names.specs.Labels.{same, labelled, lowest_or}
use Rattle.drawing.specs.declared.Checked.{Checked}
use Rattle.drawing.specs.Check as check
use check.{twice, named_at, some_named, guess_at, guessed, wrong_place, wrong_label_test, no_such_part_test, without_guess_test, check_of, count_below, checked_of}
use Rattle.row.specs.Row.{encode_rows}
use Rattle.lowering.specs.declared.Lowered.{Lowered}
use Rattle.lowering.specs.Slots.{slots, guess_of, values_of}
use Rattle.lowering.specs.Rows.{named_ids, rules_of, rows_of}
use Rattle.lowering.specs.Lower.{room_in, lower_of, unless, onto}
use Rattle.lowering.specs.Demand.{Enough}
use Rattle.lowering.proofs.Examples.{plate_with, plate_by, plate, rows_due, numbers, numbers_due}
use Rattle.renaming.specs.Renaming.{Passes, renamed, Renamed, Call, SameLowering}
use Rattle.renaming.proofs.Names.{names_do_not_matter, never_two_to_one}

-- ---- the drawings, by the names of a corner, a vent and a point

abbrev theirs : List Entry
theirs = plate_by "v" "c" "foot7"

-- what our names become
abbrev becomes : Label → Label
becomes l =
    cond (same l (bytes "c")) (bytes "v") (cond (same l (bytes "v")) (bytes "c") (cond (same l (bytes "p")) (bytes "foot7") l))

-- and three that are not ours renamed: a rule names the vent in the place of the corner; the guesses of the corner's ends are exchanged; the point's
-- name is no label
abbrev labels_free : List Entry
labels_free = plate_with "v" "c" "foot7" "c" ".a" ".b"

abbrev part_changed : List Entry
part_changed = plate_with "v" "c" "foot7" "v" ".b" ".a"

abbrev no_label : List Entry
no_label = plate_by "v" "c" "foot 7"

abbrev drawings : List (List Entry)
drawings = plate ∷ theirs ∷ labels_free ∷ part_changed ∷ no_label ∷ []

-- ---- as a text and record bytes: all labels one after another, and each record's views of its own

abbrev joined : List Label → List ℕ
joined = flat (λ l. l)

abbrev views_from : ℕ → List Label → List View
views_from at [] = []
views_from at (l ∷ ls) = record { start = at; len = length l } ∷ views_from (at + length l) ls

abbrev records_from : ℕ → List Entry → List Record
records_from at [] = []
records_from at (e ∷ es) =
    record { kind = e.kind; third = e.third; count = length e.labels; labels = views_from at e.labels; x = e.x; y = e.y }
    ∷ records_from (at + length (joined e.labels)) es

abbrev text_of : List Entry → List ℕ
text_of = flat (λ (e : Entry). joined e.labels)

abbrev records_of : List Entry → List ℕ
records_of es = encode_all (records_from 0 es)

abbrev read_back : List Entry → List Entry
read_back es = entries (text_of es) (records_of es)

-- they are read back
pub read_back_lem : map read_back drawings ≡ drawings
unfolding entries entry framed_test entry_of decode encode encode_all
read_back_lem = refl

-- ---- what the check tells of them

abbrev verdicts : List (Result Checked Refusal)
verdicts =
    good_check 1 1 1 6
    ∷ good_check 1 1 1 6
    ∷ good_check 1 1 1 6
    ∷ good_check 1 1 1 6
    ∷ Err (refusal 30 2)
    ∷ []

pub told : map checked_of drawings ≡ verdicts
unfolding checked_of check_of first lowest count_below malformed_test sound_test spelled_test label_on suffixed_on byte_on label_at run_to word_at labelled twice named_at some_named guess_at guessed wrong_place wrong_label_test no_such_part_test without_guess_test
told = refl

-- each by its place
back_at : (i : ℕ) → get_or (map read_back drawings) i [] ≡ get_or drawings i []
back_at i = ap (λ (ds : List (List Entry)). get_or ds i []) read_back_lem

told_at : (i : ℕ) → get_or (map checked_of drawings) i (good_check 0 0 0 0) ≡ get_or verdicts i (good_check 0 0 0 0)
told_at i = ap (λ (cs : List (Result Checked Refusal)). get_or cs i (good_check 0 0 0 0)) told

pub ours_pass : Passes (read_back plate)
ours_pass = (1, 1, 1, 6, rw (back_at 0) (told_at 0))

pub theirs_pass : Passes (read_back theirs)
theirs_pass = (1, 1, 1, 6, rw (back_at 1) (told_at 1))

-- ---- they differ by names alone

abbrev relabel : (Label → Label) → Entry → Entry
relabel f e = record { kind = e.kind; third = e.third; labels = map (renamed f) e.labels; x = e.x; y = e.y }

pub relabelled : (f : Label → Label) (es : List Entry) → Renamed f es (map (relabel f) es)
relabelled f es = record {
  count_same = length-map es (relabel f);
  each = λ i h. rw (get_or_map (relabel f) es i no_entry no_entry h) (record { kind_same = refl; third_same = refl; x_same = refl; y_same = refl; labels_become = refl });
}

pub other_names : Renamed becomes (read_back plate) (read_back theirs)
other_names = rw (back_at 0, back_at 1) (relabelled becomes plate)

-- ---- both are lowered to the same

-- a call, as the promise has it
module _ (text records : List ℕ) (next : ℕ) (ids : List ℕ) (values : List Float) (rows : List ℕ) (enough : Enough (entries text records) (room_in next ids values rows)) where
  abbrev answered : Result Lowered Refusal
  answered = lower_of (entries text records) (room_in next ids values rows)

  call : Call text records next
  call =
      let es = entries text records in
      record {
        ids = ids;
        values = values;
        rows = rows;
        enough = enough;
        answer = answered;
        ids_after = unless answered ids (onto ids (onward next (length (slots es))));
        values_after = unless answered values (onto values (values_of es));
        rows_after = unless answered rows (onto rows (encode_rows (rows_of es next)));
        promised = record { answer = refl; ids_are = refl; values_are = refl; rows_are = refl };
      }

-- eleven slots and six rules fit in what is lent, just so or with room behind them
pub our_call : Call (text_of plate) (records_of plate) 100
unfolding slots
our_call =
    call (text_of plate) (records_of plate) 100 (replicate 11 0) (replicate 11 nan) (replicate 264 0)
    (rw (back_at 0) (record { ids_left = omega arith; ids_lent = omega arith; values_lent = omega arith; rows_lent = omega arith }))

pub their_call : Call (text_of theirs) (records_of theirs) 100
unfolding slots
their_call =
    call (text_of theirs) (records_of theirs) 100 (replicate 11 7) (replicate 12 nan) (replicate 300 255)
    (rw (back_at 1) (record { ids_left = omega arith; ids_lent = omega arith; values_lent = omega arith; rows_lent = omega arith }))

pub lowered_alike : SameLowering (length (slots (read_back plate))) (length (rules_of (read_back plate))) our_call their_call
lowered_alike =
    names_do_not_matter (text_of plate) (records_of plate) (text_of theirs) (records_of theirs) ours_pass theirs_pass becomes (never_two_to_one _ _ ours_pass theirs_pass becomes other_names) other_names 100 our_call their_call

-- ---- and so it is computed

-- theirs is lowered as the plate is (`examples` of lowering); with labels free it has another row, and with the part changed it starts elsewhere
pub computed : (map (λ (es : List Entry). rows_of es 100) (theirs ∷ labels_free ∷ []) ≡ rows_due 110 ∷ rows_due 103 ∷ [])
    × (map numbers (theirs ∷ part_changed ∷ []) ≡ numbers_due (5 ∷ 6 ∷ 7 ∷ 8 ∷ []) ∷ numbers_due (7 ∷ 8 ∷ 5 ∷ 6 ∷ []) ∷ [])
unfolding slots named_ids rows_of guess_of lowest_or lowest labelled
computed = (refl, refl)
