-- docs/FORMAT.md's page and its listing, from the page's bytes, by computation. Assumes nothing.
use mathlib.Core.Path.{◌≡◌, refl}
use mathlib.Core.Bool.{true}
use mathlib.Core.List.{List, [], ◌∷◌}
use Prim.Native.Nat.{ℕ}
use Prim.Native.String.{String, ◌++◌}
use lib.Ieee.{to_bits, round, size}
use Rattle.text.specs.Text.{run_to, ws_on, word_at, word_on, byte_on, label_at, label_on, suffixed_on}
use Rattle.decimal.specs.Decimal.{value_of, carried}
use Rattle.root.specs.Function.{floor_root, nearest_root, scaled_root, finite_root, root_of}
use Rattle.number.specs.Number.{step_over, numeral, part_at, end_at, all_digits, no_digit, exponent_at, number_at, number_on, closed, expr_at, expr_on}
use Rattle.print.specs.Print.{last_digits, hex_of, width_up_to, decimal_of}
use Rattle.record.specs.Entry.{entry_of}
use Rattle.forms.specs.Forms.{around_on, either_on, pair_on, declare_on, fixed_on, assign_on, more_on, angle_on, amount_on, gap_on, keyword_on, first_of, label_forms_on, instruction_on, guessed_on, guess_on}
use Rattle.forms.specs.Section.{rest_of, lines_on}
use Rattle.reader.specs.Page.{heading_on, opt_newline_on, problem_of, reading_of}
use Rattle.rail.specs.Words.{quoted, spaced}
use Rattle.lines.specs.Lines.{first_line, line_of}
use Rattle.answers.specs.Answers.{listing_of}

-- the page, with a new line at the end, by the names of its point and its circle, which are p and c
abbrev pub page_with : String → String → List ℕ
page_with p c =
    quoted (
    "# constraints"
    ∷ ("point " ++ p)
    ∷ (p ++ ".x = 0")
    ∷ ("circle " ++ c)
    ∷ ("radius(" ++ c ++ ", 2)")
    ∷ ""
    ∷ "# guesses"
    ∷ (p ++ " roughly (1, 2)")
    ∷ (c ++ ".center roughly (0, 0.5)")
    ∷ (c ++ ".radius roughly 1")
    ∷ [])

abbrev pub page : List ℕ
page = page_with "p" "c"

-- what is listed of it
pub page_listed :
    listing_of true page
    ≡ quoted (
    "instructions 4 guesses 3 end 125"
    ∷ "1 p"
    ∷ "4 p x 0000000000000000"
    ∷ "2 c"
    ∷ "15 c 4000000000000000"
    ∷ "24 p 3ff0000000000000 4000000000000000"
    ∷ "24 c.center 0000000000000000 3fe0000000000000"
    ∷ "25 c.radius 3ff0000000000000"
    ∷ [])
unfolding listing_of first_line line_of entry_of spaced decimal_of hex_of last_digits width_up_to reading_of problem_of opt_newline_on heading_on lines_on rest_of guess_on guessed_on instruction_on label_forms_on first_of keyword_on gap_on amount_on angle_on more_on assign_on fixed_on declare_on pair_on either_on around_on expr_on expr_at closed number_on number_at exponent_at no_digit all_digits end_at part_at numeral step_over root_of finite_root scaled_root nearest_root floor_root carried value_of suffixed_on label_on label_at byte_on word_on word_at ws_on run_to to_bits round size
page_listed = refl
