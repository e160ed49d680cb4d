-- Lists of records with what is told of them: one claim, which the definitions compute. Assumes nothing.
use Rattle.refusal.specs.declared.Refusal.{Refusal}
use Rattle.std.specs.Prelude.{Result}
use mathlib.Core.Path.{◌≡◌, refl}
use mathlib.Core.Option.{Option, none, some}
use mathlib.Core.List.{List, [], ◌∷◌, ◌++◌, map}
use Prim.Native.Nat.{ℕ}
use Rattle.ground.specs.Words.{bytes}
use Rattle.refusal.specs.First.{lowest}
use Rattle.text.specs.Text.{run_to, word_at, byte_on, label_at, label_on, suffixed_on}
use Rattle.record.specs.declared.View.{View}
use Rattle.record.specs.declared.Record.{Record}
use Rattle.record.specs.Record.{encode, encode_all, one_label}
use Rattle.record.specs.Decode.{decode}
use Rattle.record.specs.Entry.{entry_of}
use Rattle.record.specs.Sound.{spelled_test, framed_test, sound_test}
use Rattle.record.specs.Formed.{entry, entries, malformed_test, verdict, formed_of}

-- ---- a text and records over it

abbrev pub text : List ℕ
text = bytes "p cc.center a.b.c"

-- a part of it
abbrev pub view : ℕ → ℕ → View
view start len = record { start = start; len = len }

-- a record with one label
abbrev pub one : ℕ → ℕ → ℕ → ℕ → ℕ → ℕ → Record
one kind third start len x y = one_label kind third (view start len) x y

-- `point p`, and a guess of p
abbrev pub point : Record
point = one 1 0 0 1 0 0

abbrev guess : Record
guess = one 24 0 0 1 5 7

-- an angle over p, cc, p and p
abbrev pub angle : ℕ → Record
angle third =
    record { kind = 10; third = third; count = 4; labels = view 0 1 ∷ view 2 2 ∷ view 0 1 ∷ view 0 1 ∷ []; x = 7; y = 0 }

-- ---- lists

-- what is told of records with some bytes behind them
abbrev told : List Record → List ℕ → Result Unit Refusal
told rs more = formed_of (entries text (encode_all rs ++ more))

abbrev answers : List (Result Unit Refusal)
answers =
    told (point ∷ guess ∷ []) []
    -- a dotted label in a guess, in a declaration, and with two points
    ∷ told (point ∷ one 24 0 2 9 5 7 ∷ []) []
    ∷ told (one 1 0 2 9 0 0 ∷ guess ∷ []) []
    ∷ told (point ∷ one 24 0 12 5 5 7 ∷ []) []
    -- a label that ends outside the text, and an empty one
    ∷ told (point ∷ one 24 0 16 2 5 7 ∷ []) []
    ∷ told (point ∷ one 24 0 0 0 5 7 ∷ []) []
    -- third bytes: deg, one past rad, and one where there is none
    ∷ told (angle 1 ∷ guess ∷ []) []
    ∷ told (angle 3 ∷ guess ∷ []) []
    ∷ told (one 1 1 0 1 0 0 ∷ guess ∷ []) []
    -- numbers: x of a declaration, y of a scalar guess
    ∷ told (one 1 0 0 1 9 0 ∷ guess ∷ []) []
    ∷ told (point ∷ one 25 0 0 1 9 7 ∷ []) []
    -- no such kind
    ∷ told (point ∷ one 26 0 0 1 0 0 ∷ []) []
    -- no record, a guess first, no guess, an instruction after a guess, a piece at the end
    ∷ told [] []
    ∷ told (guess ∷ []) []
    ∷ told (point ∷ point ∷ []) []
    ∷ told (point ∷ guess ∷ point ∷ []) []
    ∷ told (point ∷ guess ∷ []) (69 ∷ [])
    ∷ []

-- the place that each is refused at, if it is
abbrev expected : List (Option ℕ)
expected =
    none ∷ none ∷ some 0 ∷ some 1 ∷ some 1 ∷ some 1 ∷ none ∷ some 0 ∷ some 0 ∷ some 0 ∷ some 1 ∷ some 1 ∷ some 0 ∷ some 0 ∷ some 2 ∷ some 2 ∷ some 2 ∷ []

-- ---- the claim

pub examples : answers ≡ map verdict expected
unfolding encode encode_all decode entry_of run_to word_at byte_on label_at label_on suffixed_on spelled_test framed_test sound_test entry entries malformed_test lowest formed_of
examples = refl
