-- A few entries with their names and guesses: one claim, which the definitions compute. Assumes nothing.
use mathlib.Core.Path.{◌≡◌, refl}
use mathlib.Core.List.{List, [], ◌∷◌}
use Prim.Native.Nat.{ℕ}
use Prim.Native.String.{String}
use Rattle.ground.specs.Words.{bytes}
use Rattle.refusal.specs.First.{lowest}
use Rattle.record.specs.Entry.{Entry, entry_with}
use Rattle.names.specs.Labels.{labelled, lowest_or}
use Rattle.names.specs.Chains.{hash_from, hash_of}
use Rattle.names.specs.Names.{name_for, name_in, guesses_part, guess_in}

abbrev one : ℕ → String → Entry
one kind l = entry_with kind 0 (l ∷ []) 0 0

-- `aU` and `b0` have one hash; `p` is declared twice, and guessed twice
abbrev page : List Entry
page =
    one 1 "p"
    ∷ one 2 "aU"
    ∷ one 3 "b0"
    ∷ one 1 "p"
    ∷ one 20 "b0"
    ∷ one 18 "aU.center"
    ∷ one 24 "p"
    ∷ one 24 "b0.x"
    ∷ one 25 "aU.radius"
    ∷ one 24 "q"
    ∷ one 24 "p"
    ∷ one 24 "b0.a"
    ∷ one 24 "b0.b"
    ∷ []

abbrev answers : List ℕ
answers =
    hash_of (bytes "aU")
    ∷ hash_of (bytes "b0")
    -- a hash goes up to the first point
    ∷ hash_of (bytes "b0.x")
    -- names: of a declaration, of a second one, and of a rule's label
    ∷ name_in page 0
    ∷ name_in page 4
    ∷ name_in page 8
    ∷ name_in page 12
    ∷ name_in page 16
    -- a part that is known, one that is another, a label that nobody declares, and a place without a label
    ∷ name_in page 20
    ∷ name_in page 28
    ∷ name_in page 36
    ∷ name_in page 21
    -- an arc's ends
    ∷ name_in page 44
    ∷ name_in page 48
    -- guesses: of a point, of a radius, of an arc's ends, and of what nobody guesses
    ∷ guess_in page 0
    ∷ guess_in page 7
    ∷ guess_in page 13
    ∷ guess_in page 14
    ∷ guess_in page 6
    ∷ guess_in page 10
    ∷ []

pub examples : answers ≡ 602 ∷ 602 ∷ 602 ∷ 8 ∷ 48 ∷ 88 ∷ 8 ∷ 88 ∷ 49 ∷ 93 ∷ 0 ∷ 0 ∷ 91 ∷ 92 ∷ 6 ∷ 8 ∷ 11 ∷ 12 ∷ 13 ∷ 13 ∷ []
unfolding labelled lowest_or lowest hash_from name_for name_in guesses_part
examples = refl
