-- The two sections of a page, whose records are stored one behind the other. Assumes nothing.
use mathlib.Core.Path.{◌≡◌, sym, ◌∙◌}
use mathlib.Core.Bool.{Bool, true, false}
use mathlib.Core.List.{List}
use Prim.Native.Nat.{ℕ, suc, ◌-◌, ◌*◌, ◌≤◌}
use native.Mathlib.Omega.{arith}
use borrow.Author.Tests.{le-ltb}
use lib.ListN.{length}
use Rattle.ground.specs.Words.{bytes}
use Rattle.text.specs.Text.{due, newline_on, ws_on}
use Rattle.text.specs.declared.Stand.{Stand}
use Rattle.text.specs.declared.Stand.TheVariants.{At}
use Rattle.record.specs.Record.{longest_text}
use Rattle.forms.specs.declared.Count.{Count}
use Rattle.forms.specs.Section.{lines_on, section_on, SectionRead}
use Rattle.forms.proofs.Storing.{stored_append}
use Rattle.forms.proofs.SoundSection.{lines_due}
use Rattle.reader.specs.Page.{heading_on, opt_newline_on, problem_of}
use Rattle.reader.specs.Steps.{Paged}

module _ (s : List ℕ) (short : length s ≤ longest_text) where
  -- a section of a text that is not too long
  section_is : (guesses : Bool) (t : Stand) (number : ℕ) → section_on guesses s t number ≡ lines_on guesses s t number
  unfolding section_on
  section_is guesses t number = rw (le-ltb longest_text (length s) short)

  module _ (h : Stand) (d d₁ : List ℕ) (x : Count) (first : SectionRead d 0 (section_on false s h 4) x d₁) where
    is : SectionRead d 0 (lines_on false s h 4) x d₁
    is = rw (section_is false h 4) at first

    -- it has two records a line at most
    pub few : x.count ≤ 2 * suc (length s)
    few = omega (arith, is.count_is, (lines_due s false h 4).sound.few)

    module _ (g : Stand) (d₂ : List ℕ) (y : Count) (second : SectionRead d₁ x.count (section_on true s g 7) y d₂)
        (h_is : h ≡ due (At 0) (heading_on s (At 0) (bytes "constraints")) 3)
        (g_is : g ≡ due (due x.then (newline_on s (newline_on s x.then)) 5) (heading_on s (ws_on s (due x.then (newline_on s (newline_on s x.then)) 5)) (bytes "guesses")) 6) where
      gs : SectionRead d₁ x.count (lines_on true s g 7) y d₂
      gs = rw (section_is true g 7) at second

      problem_is : problem_of s ≡ record { instructions = (lines_on false s h 4).records; guesses = (lines_on true s g 7).records; then = ws_on s (opt_newline_on s y.then) }
      unfolding problem_of
      problem_is = rw (← h_is, ← is.then_is, ← g_is, ← gs.then_is)

      pub paged : Paged s d x.count (y.count - x.count) (ws_on s (opt_newline_on s y.then)) d₂
      paged =
          record {
            instructions_are = rw problem_is (omega (arith, is.count_is));
            guesses_are = rw problem_is (omega (arith, gs.count_is));
            then_is = rw problem_is;
            buffer = rw problem_is (gs.buffer ∙ rw (is.buffer, is.count_is) (sym (stored_append d 0 (lines_on false s h 4).records (lines_on true s g 7).records)));
          }
