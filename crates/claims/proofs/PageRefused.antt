-- What the check and lowering refuse of a page, said of its lines: the records that the whole reading writes are the lines of the page, and 30 holds of
-- none of them. Assumes nothing.
use Rattle.std.specs.Prelude.{Err}
use mathlib.Core.Path.{◌≡◌}
use mathlib.Core.Logic.{◌↔◌}
use mathlib.Core.Bool.{true}
use mathlib.Core.List.{List, ◌++◌, map}
use Prim.Native.Nat.{ℕ}
use Rattle.refusal.specs.Refusal.{refusal}
use Rattle.refusal.specs.First.{Nowhere, Told, later}
use Rattle.refusal.proofs.Told.{told_holds, without}
use Rattle.record.specs.Formed.{places, Malformed, entries}
use Rattle.reader.specs.Page.{lines_of, Reads, good_reading}
use Rattle.reader.proofs.WellRead.{written_in, never_30, entries_read}
use Rattle.drawing.specs.Faults.{Fault, malformed, behind30, number_of, Holds}
use Rattle.drawing.specs.Check.{checked_of}
use Rattle.drawing.proofs.Told.{refused_iff}
use Rattle.lowering.specs.Lower.{Room, lack_order, lower_of}
use Rattle.lowering.specs.Refusals.{Cause, fault, lack, cause_number, Causes}
use Rattle.lowering.proofs.Refusals.{lower_refused_iff}

module _ (text buffer : List ℕ) (instructions guesses end : ℕ) (buffer' : List ℕ) (read : Reads true text buffer (good_reading instructions guesses end) buffer') where
  -- the records of the page
  abbrev pub records : List ℕ
  records = written_in instructions guesses buffer'

  pub lines_are : entries text records ≡ lines_of text
  lines_are = entries_read true text buffer instructions guesses end buffer' read

  pub never : Nowhere (Malformed (lines_of text)) (places (lines_of text))
  never = rw lines_are at (never_30 true text buffer instructions guesses end buffer' read)

  -- so 30 is never told of a page
  pub page_never_30 : (place : ℕ) → checked_of (entries text records) ≡ Err (refusal 30 place) → ⊥
  page_never_30 place e = let l = told_holds ((refused_iff (lines_of text) malformed place).0 (rw lines_are at e)) in never place l.inside l.here

  -- the check refuses the page with a fault's number at a line exactly if that is the first of 31 to 35 that holds, at its lowest line
  pub page_refused_iff : (f : Fault) (place : ℕ) → (checked_of (entries text records) ≡ Err (refusal (number_of f) place)) ↔ Told (Holds (lines_of text)) (places (lines_of text)) behind30 f place
  page_refused_iff f place =
      let t = refused_iff (lines_of text) f place in
      rw lines_are (λ e. without (t.0 e) never, λ w. t.1 (later never w))

  -- and lowering refuses it with a number at a place exactly if that is the first of 31 to 38
  pub page_lower_refused_iff : (room : Room) (number place : ℕ) → (lower_of (entries text records) room ≡ Err (refusal number place))
      ↔ ((c : Cause) × (cause_number c ≡ number) × Told (Causes (lines_of text) room) (places (lines_of text)) (map fault behind30 ++ map lack lack_order) c place)
  page_lower_refused_iff room number place =
      let t = lower_refused_iff (lines_of text) room number place in
      rw lines_are (λ e. let w = t.0 e in (w.0, w.1, without w.2 never), λ w. t.1 (w.0, w.1, later never w.2))
