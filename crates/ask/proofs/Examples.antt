-- What records answer that are asked: one claim, which the definitions compute. Assumes nothing.
use Rattle.std.specs.Prelude.{Result, Ok, Err}
use mathlib.Core.Path.{◌≡◌, refl}
use mathlib.Core.List.{List, [], ◌∷◌}
use lib.Ieee.{binary64, of_bits}
use Rattle.refusal.specs.declared.Refusal.{Refusal}
use Rattle.ground.specs.Words.{bytes}
use Rattle.text.specs.Text.{run_to, word_at, byte_on, label_at, label_on, suffixed_on}
use Rattle.record.specs.Record.{encode}
use Rattle.record.specs.Decode.{decode}
use Rattle.record.specs.Entry.{Label, entry_of}
use Rattle.record.specs.Sound.{spelled_test, framed_test, sound_test, good_test}
use Rattle.record.specs.Formed.{malformed_at}
use Rattle.record.proofs.Examples.{text, one, point, angle}
use Rattle.ask.specs.declared.Angle.{Angle}
use Rattle.ask.specs.declared.Angle.TheVariants.{Degrees, Radians}
use Rattle.ask.specs.Ask.{label_of, angle_of}

abbrev labels : List Label
labels = label_of text (encode (angle 1)) 1 ∷ label_of text (encode (one 24 0 2 9 5 7)) 0 ∷ label_of text (encode point) 1 ∷ label_of text [] 0 ∷ []

abbrev angles : List (Result Angle Refusal)
angles = angle_of text (encode (angle 1)) ∷ angle_of text (encode (angle 2)) ∷ angle_of text (encode point) ∷ []

pub examples :
    (labels ≡ bytes "cc" ∷ bytes "cc.center" ∷ [] ∷ [] ∷ [])
    × (angles ≡ Ok (Degrees (of_bits binary64 7)) ∷ Ok (Radians (of_bits binary64 7)) ∷ Err (malformed_at 0) ∷ [])
unfolding encode decode entry_of run_to word_at byte_on label_at label_on suffixed_on spelled_test framed_test sound_test good_test label_of angle_of
examples = (refl, refl)
