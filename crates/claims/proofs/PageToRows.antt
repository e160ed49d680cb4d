-- From the bytes of a page to its rows: the records that the whole reading writes are the lines of the page, with labels as their text, and 30 holds of
-- none of them; where 31 to 35 hold of none either, lowering gives each rule of the page the ids of the shapes that its line names. Assumes nothing.
use Rattle.std.specs.Prelude.{Result}
use mathlib.Core.Path.{◌≡◌, refl}
use mathlib.Core.Bool.{true}
use mathlib.Core.List.Memᴰ
use mathlib.Core.List.{List}
use Prim.Native.Nat.{ℕ, ◌+◌, ◌*◌}
use lib.ListN.{length}
use lib.Ieee.{Float}
use Rattle.refusal.specs.declared.Refusal.{Refusal}
use Rattle.refusal.specs.First.{Nowhere, NoneHolds}
use Rattle.record.specs.Formed.{places, entries}
use Rattle.reader.specs.Page.{lines_of, Reads, good_reading}
use Rattle.reader.proofs.WellRead.{written_in}
use Rattle.drawing.specs.Needs.{point, circle, arc}
use Rattle.drawing.specs.Faults.{Fault, malformed, declared_twice, wrong_label, no_such_part, guessed_twice, without_guess, behind30, Holds}
use Rattle.drawing.specs.Check.{checked_of, good_check}
use Rattle.drawing.proofs.Told.{passed_iff}
use Rattle.lowering.specs.declared.Lowered.{Lowered}
use Rattle.lowering.specs.Slots.{how_many}
use Rattle.lowering.specs.Lower.{room_in, Lowers}
use Rattle.lowering.specs.Demand.{EnoughFor, rules_before, LowersWell}
use Rattle.lowering.proofs.Demand.{lowers_well}
use Rattle.claims.proofs.PageRefused.{lines_are, never}

module _ (text buffer : List ℕ) (instructions guesses end : ℕ) (buffer' : List ℕ) (read : Reads true text buffer (good_reading instructions guesses end) buffer') where
  -- a page whose lines pass the check, with enough ids left and enough room lent, is lowered well
  pub page_to_rows : (P C A R next : ℕ) (ids : List ℕ) (values : List Float) (rows : List ℕ)
      → checked_of (lines_of text) ≡ good_check P C A R
      → EnoughFor (2 * P + 3 * C + 6 * A) R (room_in next ids values rows)
      → (r : Result Lowered Refusal) (ids' : List ℕ) (values' : List Float) (rows' : List ℕ)
      → Lowers (entries text (written_in instructions guesses buffer')) next ids values rows r ids' values' rows'
      → LowersWell (lines_of text) P C A R next r ids' values' rows'
  page_to_rows P C A R next ids values rows passes enough r ids' values' rows' lowered =
      let lines = lines_are text buffer instructions guesses end buffer' read in
      rw lines at (lowers_well text (written_in instructions guesses buffer') P C A R next ids values rows (rw lines passes) enough r ids' values' rows' lowered)

  -- none of 30 to 35 holds of a page's lines where none of 31 to 35 does
  no_fault : NoneHolds (Holds (lines_of text)) (places (lines_of text)) behind30 → (f : Fault) → Nowhere (Holds (lines_of text) f) (places (lines_of text))
  no_fault none malformed = never text buffer instructions guesses end buffer' read
  no_fault none declared_twice = none declared_twice (Memᴰ.head refl)
  no_fault none wrong_label = none wrong_label (Memᴰ.tail (Memᴰ.head refl))
  no_fault none no_such_part = none no_such_part (Memᴰ.tail (Memᴰ.tail (Memᴰ.head refl)))
  no_fault none guessed_twice = none guessed_twice (Memᴰ.tail (Memᴰ.tail (Memᴰ.tail (Memᴰ.head refl))))
  no_fault none without_guess = none without_guess (Memᴰ.tail (Memᴰ.tail (Memᴰ.tail (Memᴰ.tail (Memᴰ.head refl)))))

  -- so a page none of whose lines has a fault of 31 to 35 is lowered well, by the counts of its shapes and rules
  pub faultless_to_rows : NoneHolds (Holds (lines_of text)) (places (lines_of text)) behind30
      → (next : ℕ) (ids : List ℕ) (values : List Float) (rows : List ℕ)
      → let P = how_many point (lines_of text) in
      let C = how_many circle (lines_of text) in
      let A = how_many arc (lines_of text) in
      let R = rules_before (lines_of text) (length (lines_of text)) in
      EnoughFor (2 * P + 3 * C + 6 * A) R (room_in next ids values rows)
      → (r : Result Lowered Refusal) (ids' : List ℕ) (values' : List Float) (rows' : List ℕ)
      → Lowers (entries text (written_in instructions guesses buffer')) next ids values rows r ids' values' rows'
      → LowersWell (lines_of text) P C A R next r ids' values' rows'
  faultless_to_rows none next ids values rows enough = page_to_rows _ _ _ _ next ids values rows ((passed_iff (lines_of text)).1 (no_fault none)) enough
