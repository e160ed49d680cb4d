-- Every refusal of lowering in one order, 30 to 38 (docs/FORMAT.md, "What comes back"): what is wrong with the drawing, then what is lacking.
use Rattle.std.specs.Prelude.{◌≡◌, List, ◌++◌, map, ℕ}
use Rattle.record.specs.Entry.{Entry}
use Rattle.drawing.specs.Faults.{Fault, order, number_of, Holds}
use Rattle.lowering.specs.Lower.{Room, Lack, lack_order, lack_number, Lacking}

-- a fault of the drawing, or something lacking
pub data Cause : Type 0 where
  fault : Fault → Cause
  lack : Lack → Cause

-- the one order: 30 to 35, then 36 to 38
abbrev pub causes : List Cause
causes = map fault order ++ map lack lack_order

-- docs/FORMAT.md's number
abbrev pub cause_number : Cause → ℕ
cause_number (fault f) = number_of f
cause_number (lack l) = lack_number l

-- it holds at a place: a fault at a record, a lack at 0
abbrev pub Causes : List Entry → Room → Cause → ℕ → Type 0
Causes es room (fault f) i = Holds es f i
Causes es room (lack l) i = (i ≡ 0) × Lacking es room l
