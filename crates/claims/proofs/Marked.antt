-- The twelve marked cases of docs/FORMAT.md: each is worked out from the definitions that the reader's promise cites. Assumes nothing.
use mathlib.Core.Path.{◌≡◌, refl}
use mathlib.Core.List.{map}
use lib.Ieee.{to_bits, round, size}
use Rattle.text.specs.Text.{run_to, ws_on, word_at, word_on, byte_on, label_at, label_on, suffixed_on}
use Rattle.decimal.specs.Decimal.{value_of, carried}
use Rattle.root.specs.Function.{floor_root, nearest_root, scaled_root, finite_root, root_of}
use Rattle.number.specs.Number.{step_over, numeral, part_at, end_at, all_digits, no_digit, exponent_at, number_at, number_on, closed, expr_at, expr_on}
use Rattle.record.specs.Entry.{entry_of}
use Rattle.forms.specs.Forms.{around_on, either_on, pair_on, declare_on, fixed_on, assign_on, more_on, angle_on, amount_on, gap_on, keyword_on, first_of, label_forms_on, instruction_on, guessed_on, guess_on}
use Rattle.forms.specs.Section.{rest_of, lines_on}
use Rattle.reader.specs.Page.{heading_on, opt_newline_on, problem_of, reading_of}
use Rattle.claims.specs.Marked.{Case, case_of, cases}

-- the reader makes of each text of the table what the table says
pub marked : map (λ (c : Case). case_of c.text) cases ≡ cases
unfolding entry_of reading_of problem_of opt_newline_on heading_on lines_on rest_of guess_on guessed_on instruction_on label_forms_on first_of keyword_on gap_on amount_on angle_on more_on assign_on fixed_on declare_on pair_on either_on around_on expr_on expr_at closed number_on number_at exponent_at no_digit all_digits end_at part_at numeral step_over root_of finite_root scaled_root nearest_root floor_root carried value_of suffixed_on label_on label_at byte_on word_on word_at ws_on run_to to_bits round size
marked = refl
