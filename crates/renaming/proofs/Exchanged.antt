-- docs/FORMAT.md's page, and the same with the names of its point and its circle exchanged: both are good pages, and `rows` prints the same of them.
-- Assumes nothing.
use mathlib.Core.Path.{◌≡◌, refl}
use mathlib.Core.Bool.{true, cond}
use mathlib.Core.List.{List, [], ◌∷◌}
use Prim.Native.Nat.{ℕ}
use Prim.Native.String.{String, ◌++◌}
use lib.Ieee.{to_bits, round, size}
use Rattle.drawing.specs.Check.{good_check}
use Rattle.ground.specs.Words.{bytes}
use Rattle.refusal.specs.First.{lowest, first}
use Rattle.text.specs.Text.{run_to, ws_on, word_at, word_on, byte_on, label_at, label_on, suffixed_on}
use Rattle.decimal.specs.Decimal.{value_of, carried}
use Rattle.number.specs.Number.{step_over, numeral, part_at, end_at, all_digits, no_digit, exponent_at, number_at, number_on, closed, expr_at, expr_on}
use Rattle.record.specs.Record.{record_room}
use Rattle.record.specs.Entry.{Label, Entry, entry_with, entry_of}
use Rattle.record.specs.Sound.{spelled_test, sound_test}
use Rattle.record.specs.Formed.{malformed_test}
use Rattle.forms.specs.Forms.{around_on, either_on, pair_on, declare_on, fixed_on, assign_on, more_on, angle_on, amount_on, gap_on, keyword_on, first_of, label_forms_on, instruction_on, guessed_on, guess_on}
use Rattle.forms.specs.Section.{rest_of, lines_on}
use Rattle.reader.specs.Page.{heading_on, opt_newline_on, problem_of, reading_of, lines_of, good_reading}
use Rattle.names.specs.Labels.{same, labelled}
use Rattle.drawing.specs.Check as check
use check.{twice, named_at, some_named, guess_at, guessed, wrong_place, wrong_label_test, no_such_part_test, without_guess_test, check_of, count_below, checked_of}
use Rattle.answers.specs.Answers.{lowering_of}
use Rattle.answers.proofs.Page.{page_with, page}
use Rattle.renaming.proofs.Examples.{relabelled}
use Rattle.renaming.proofs.Pages.{printed_alike}

abbrev exchanged : List ℕ
exchanged = page_with "c" "p"

-- the lines of such a page, by the names of its point and its circle
abbrev drawn : String → String → List Entry
drawn p c =
    entry_with 1 0 (p ∷ []) 0 0
    ∷ entry_with 4 1 (p ∷ []) 0 0
    ∷ entry_with 2 0 (c ∷ []) 0 0
    ∷ entry_with 15 0 (c ∷ []) 0x4000_0000_0000_0000 0
    ∷ entry_with 24 0 (p ∷ []) 0x3ff0_0000_0000_0000 0x4000_0000_0000_0000
    ∷ entry_with 24 0 ((c ++ ".center") ∷ []) 0 0x3fe0_0000_0000_0000
    ∷ entry_with 25 0 ((c ++ ".radius") ∷ []) 0x3ff0_0000_0000_0000 0
    ∷ []

read : (reading_of true page record_room ≡ good_reading 4 3 125)
    × (lines_of page ≡ drawn "p" "c")
    × (reading_of true exchanged record_room ≡ good_reading 4 3 125)
    × (lines_of exchanged ≡ drawn "c" "p")
unfolding entry_of reading_of problem_of opt_newline_on heading_on lines_on rest_of guess_on guessed_on instruction_on label_forms_on first_of keyword_on gap_on amount_on angle_on more_on assign_on fixed_on declare_on pair_on either_on around_on expr_on expr_at closed number_on number_at exponent_at no_digit all_digits end_at part_at numeral step_over carried value_of suffixed_on label_on label_at byte_on word_on word_at ws_on run_to to_bits round size
read = (refl, refl, refl, refl)

passes : (checked_of (drawn "p" "c") ≡ good_check 1 1 0 2) × (checked_of (drawn "c" "p") ≡ good_check 1 1 0 2)
unfolding checked_of check_of first lowest count_below malformed_test sound_test spelled_test label_on suffixed_on byte_on label_at run_to word_at labelled twice named_at some_named guess_at guessed wrong_place wrong_label_test no_such_part_test without_guess_test
passes = (refl, refl)

pub exchanged_alike : lowering_of page ≡ lowering_of exchanged
exchanged_alike =
    printed_alike page exchanged
    (record { instructions = 4; guesses = 3; end = 125; reads = read.0; passes = (1, 1, 0, 2, rw read.1 passes.0) })
    (record { instructions = 4; guesses = 3; end = 125; reads = read.2; passes = (1, 1, 0, 2, rw read.3 passes.1) })
    becomes (rw (read.1, read.3) (relabelled becomes (drawn "p" "c")))
  where
    becomes : Label → Label
    becomes l = cond (same l (bytes "p")) (bytes "c") (cond (same l (bytes "c")) (bytes "p") l)
