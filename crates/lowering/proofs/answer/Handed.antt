-- The tables that were resolved are the drawing's: so what `fill` asks holds, and what it gives is the drawing, lowered. Assumes nothing.
use Rattle.std.specs.Prelude.{Result}
use mathlib.Core.Path.{◌≡◌, ap, ◌∙◌}
use mathlib.Core.Bool.{Bool}
use mathlib.Core.List.{List}
use Prim.Native.Nat.{ℕ, ◌+◌}
use lib.Ieee.{Float}
use Rattle.std.specs.Prelude.{Option, None}
use Rattle.refusal.specs.declared.Refusal.{Refusal}
use Rattle.layout.specs.declared.Layout.{Layout}
use Rattle.layout.specs.Run.{slots_for}
use Rattle.record.specs.Laid.{LaidOut}
use Rattle.record.specs.Formed.{WellFormed, entries}
use Rattle.record.proofs.Laid.{says_laid_out, formed_laid}
use Rattle.names.specs.Labels.{drawn}
use Rattle.names.specs.Names.{names_of, guesses_of, Resolves}
use Rattle.names.proofs.Drawn.{entries_drawn}
use Rattle.drawing.specs.declared.Checked.{Checked}
use Rattle.drawing.specs.Needs.{point, circle}
use Rattle.drawing.specs.Check.{checked_of, good_check}
use Rattle.drawing.specs.Judged.{judged_of}
use Rattle.drawing.proofs.Judging.{names_so, guesses_so, judged}
use Rattle.lowering.specs.Slots.{how_many}
use Rattle.lowering.specs.Lower.{room_in, Lowers, good_lowering}
use Rattle.lowering.specs.Steps.{lack_told, sketch_in, Counted, Writable, FilledBy}
use Rattle.lowering.proofs.answer.Ends.{counted, well_formed, passing_is, good_ends}
use Rattle.lowering.proofs.answer.Joining.{countable, then_filled}

module _ (text bs was_names was_guesses : List ℕ) {resolved : Bool} {names guesses : List ℕ} (r : Resolves text bs was_names was_guesses resolved names guesses) where
  -- what is judged by them is what the check tells
  pub told : {answer : Result Checked Refusal} → answer ≡ judged_of text bs resolved names guesses → answer ≡ checked_of (entries text bs)
  told e = e ∙ judged text bs was_names was_guesses resolved names guesses r

  module _ {P C A R : ℕ} {answer : Result Checked Refusal} (judges : answer ≡ judged_of text bs resolved names guesses) (is : answer ≡ good_check P C A R) where
    formed : WellFormed text bs
    formed = well_formed text bs (told judges) is

    laid : LaidOut text bs
    laid = formed_laid text bs formed

    names_are : names ≡ names_of (drawn text bs)
    names_are = names_so text bs was_names was_guesses resolved names guesses r ((says_laid_out text bs).back laid)

    guesses_are : guesses ≡ guesses_of (drawn text bs)
    guesses_are = guesses_so text bs was_names was_guesses resolved names guesses r ((says_laid_out text bs).back laid)

    module _ (next : ℕ) (ids : List ℕ) (values : List Float) (rows : List ℕ) {n : ℕ} {lack : Option Refusal} (slots_are : n ≡ slots_for P C A) (lack_is : lack ≡ lack_told (room_in next ids values rows) n R) (nothing : lack ≡ None) where
      pub fill_asks : Counted bs P C × Writable (sketch_in bs names) next rows
      fill_asks =
          let p = counted text bs (told judges) is in
          let same = entries_drawn text bs formed in
          countable text bs names guesses laid names_are guesses_are next ids values rows
          (passing_is text bs (told judges) is next ids values rows slots_are lack_is nothing) P C (p.points ∙ ap (how_many point) same) (p.circles ∙ ap (how_many circle) same)

      pub fill_gives : (l : Layout) (ids' : List ℕ) (values' : List Float) (rows' : List ℕ) → FilledBy bs names guesses next ids values rows l ids' values' rows'
          → Lowers (entries text bs) next ids values rows (good_lowering l (next + n) R) ids' values' rows'
      fill_gives l ids' values' rows' f =
          good_ends text bs (told judges) is next ids values rows slots_are lack_is nothing l ids' values' rows'
          (then_filled text bs names guesses laid names_are guesses_are next ids values rows
          (passing_is text bs (told judges) is next ids values rows slots_are lack_is nothing) l ids' values' rows' f)
