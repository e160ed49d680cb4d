-- Each record of a page is sound over the text, and a page that is read to its end has an instruction and a guess. Assumes nothing.
use mathlib.Core.Bool.{true, false}
use mathlib.Core.List.{List}
use Prim.Native.Nat.{ℕ, suc, ◌+◌, ◌-◌, ◌*◌, ◌≤◌, ◌<◌}
use mathlib.Core.Path.{◌≡◌}
use native.Mathlib.Omega.{arith}
use native.Mathlib.Decide.{dec_lt}
use lib.ListN.{length, get_or, length-append, get_or-append}
use lib.Dec.{leb}
use lib.Seq.{get_or-append-add}
use borrow.Author.Tests.{le-leb, lt-leb}
use Rattle.ground.specs.Words.{bytes}
use Rattle.ground.proofs.Pieces.{Each, each_at}
use Rattle.text.specs.Text.{due, ws_on, newline_on}
use Rattle.text.specs.declared.Stand.TheVariants.{At}
use Rattle.text.proofs.Laws.{Reached, either_of}
use Rattle.record.specs.Decode.{no_record}
use Rattle.forms.specs.Section.{lines_on}
use Rattle.forms.proofs.Stands.{Behind, same, kept_behind, due_behind}
use Rattle.forms.proofs.SoundLines.{Proper}
use Rattle.forms.proofs.SoundSection.{lines_due}
use Rattle.reader.specs.Page.{heading_on, opt_newline_on, problem_of, records_in}

module _ (s : List ℕ) where
  -- they are sound, and two a line at most
  pub instructions_read : Each (Proper s false) (problem_of s).instructions × (length (problem_of s).instructions ≤ 2 * suc (length s))
  unfolding problem_of
  instructions_read = let d = (lines_due s false _ 4).sound in (d.proper, d.few)

  pub guesses_read : Each (Proper s true) (problem_of s).guesses × (length (problem_of s).guesses ≤ 2 * suc (length s))
  unfolding problem_of
  guesses_read = let d = (lines_due s true _ 7).sound in (d.proper, d.few)

  -- a page that is read to its end has an instruction and a guess
  pub some_of_each : Reached (problem_of s).then → (0 < length (problem_of s).instructions) × (0 < length (problem_of s).guesses)
  unfolding problem_of heading_on opt_newline_on
  some_of_each h =
      let top = due (At 0) (heading_on s (At 0) (bytes "constraints")) 3 in
      let is = lines_on false s top 4 in
      let gap = due is.then (newline_on s (newline_on s is.then)) 5 in
      let next = due gap (heading_on s (ws_on s gap) (bytes "guesses")) 6 in
      let gs = lines_on true s next 7 in
      let end = kept_behind s gs.then in
      let k = (end.ws (either_of (Behind gs.then) (newline_on s gs.then) _ _ (end.byte 10 (same gs.then)) (same gs.then))).back h in
      let on = kept_behind s is.then in
      let blank = on.ws (due_behind is.then _ 5 (on.byte 10 (on.byte 10 (same is.then)))) in
      let b = due_behind gap _ 6 (on.byte 10 (on.word (bytes "guesses") (on.ws (on.byte 35 blank)))) in
      let w = lines_due s true next 7 in
      ((lines_due s false top 4).some (b.back (w.behind.back k)), w.some k)

  -- an instruction stands before the count of the instructions, and a guess from there on
  pub record_at : (i : ℕ) → i < length (records_in s) → Proper s (leb (length (problem_of s).instructions) i) (get_or (records_in s) i no_record)
  record_at i h =
      let is = (problem_of s).instructions in
      let gs = (problem_of s).guesses in
      elim (dec_lt i (length is)) [
        | yes a ↦ rw (lt-leb (length is) i a, get_or-append is gs no_record i a) (each_at (Proper s false) is no_record instructions_read.0 i a)
        | no a ↦ (let e : i ≡ length is + (i - length is) = omega (arith, a) in
            rw (le-leb (length is) i (omega (arith, a)), e, get_or-append-add is gs (i - length is) no_record)
            (each_at (Proper s true) gs no_record guesses_read.0 (i - length is) (omega (arith, a, h, length-append is gs))))
      ]
