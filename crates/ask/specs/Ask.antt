-- What asking a record for a label or an angle gives back (docs/FORMAT.md, "Record"). The record is judged by itself.
use Rattle.std.specs.Prelude.{cond, ◌&&◌, List, [], ℕ, ltb, eqb, Result, Ok, Err}
use Rattle.std.specs.Float.{binary64}
use Rattle.std.specs.Float.Ieee.{of_bits}
use Rattle.refusal.specs.declared.Refusal.{Refusal}
use Rattle.record.specs.declared.Record.{Record}
use Rattle.ask.specs.declared.Angle.{Angle}
use Rattle.ask.specs.declared.Angle.TheVariants.{Degrees, Radians}
use Rattle.kinds.specs.Kinds.{kind_at, angle}
use Rattle.record.specs.Decode.{decode}
use Rattle.record.specs.Entry.{Label, view_of, named}
use Rattle.record.specs.Sound.{good_test}
use Rattle.record.specs.Formed.{malformed_at}

-- ---- labels, counted from 0

-- the part of the text that label q of a good record names; an empty part for a bad record or label number
unfoldable pub label_of : List ℕ → List ℕ → ℕ → Label
label_of text b q = cond (good_test text b && ltb q (decode b).count) (named text (decode b) q) []

-- where that part starts in the text; an empty part for a bad record or label number starts where the text does
unfoldable pub label_from : List ℕ → List ℕ → ℕ → ℕ
label_from text b q = cond (good_test text b && ltb q (decode b).count) (view_of (decode b) q).start 0

-- ---- angles

-- the third byte of an angle in degrees
abbrev pub degrees : ℕ
degrees = 1

-- the angle of a record's fields: its number as degrees or as radians
abbrev pub angle_in : Record → Angle
angle_in r = cond (eqb r.third degrees) (Degrees (of_bits binary64 r.x)) (Radians (of_bits binary64 r.x))

-- the angle of a good record of the kind that has one; any other record gets 30 at 0
unfoldable pub angle_of : List ℕ → List ℕ → Result Angle Refusal
angle_of text b =
    cond (good_test text b && eqb (kind_at (decode b).kind).number angle) (Ok (angle_in (decode b))) (Err (malformed_at 0))
