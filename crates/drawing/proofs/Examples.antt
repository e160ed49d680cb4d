-- Drawings with what is told of them: one claim, which the definitions compute. Assumes nothing.
use Rattle.std.specs.Prelude.{Result, Err}
use mathlib.Core.Path.{◌≡◌, refl}
use mathlib.Core.List.{List, [], ◌∷◌, ◌++◌, map}
use Prim.Native.Nat.{ℕ}
use Prim.Native.String.{String}
use Rattle.refusal.specs.declared.Refusal.{Refusal}
use Rattle.drawing.specs.Check.{good_check}
use Rattle.refusal.specs.First.{lowest, first}
use Rattle.text.specs.Text.{run_to, word_at, byte_on, label_at, label_on, suffixed_on}
use Rattle.record.specs.Entry.{Entry, entry_with}
use Rattle.record.specs.Sound.{spelled_test, sound_test}
use Rattle.record.specs.Formed.{malformed_test}
use Rattle.names.specs.Labels.{labelled}
use Rattle.drawing.specs.declared.Checked.{Checked}
use Rattle.refusal.specs.Refusal.{refusal}
use Rattle.drawing.specs.Check as check
use check.{twice, named_at, some_named, guess_at, guessed, wrong_place, wrong_label_test, no_such_part_test, without_guess_test, check_of, count_below, checked_of}

-- ---- entries

abbrev one : ℕ → String → Entry
one kind l = entry_with kind 0 (l ∷ []) 0 0

abbrev two : ℕ → String → String → Entry
two kind a b = entry_with kind 0 (a ∷ b ∷ []) 0 0

-- `l.x = 0`
abbrev fix : ℕ → String → Entry
fix kind l = entry_with kind 1 (l ∷ []) 0 0

-- the page of docs/FORMAT.md without its last line, and whole
abbrev start : List Entry
start = one 1 "p" ∷ fix 4 "p" ∷ one 2 "c" ∷ one 15 "c" ∷ one 24 "p" ∷ one 24 "c.center" ∷ []

abbrev page : List Entry
page = start ++ one 25 "c.radius" ∷ []

-- an arc with its guesses
abbrev bow : List Entry → List Entry
bow rules = one 3 "a" ∷ rules ++ one 24 "a.a" ∷ one 24 "a.b" ∷ one 24 "a.center" ∷ []

-- ---- what is told

abbrev refuses : ℕ → ℕ → Result Checked Refusal
refuses number place = Err (refusal number place)

-- a drawing, and what is told of it
abbrev Case : Type 0
Case = List Entry × Result Checked Refusal

abbrev cases : List Case
cases =
    (page, good_check 1 1 0 2)
    -- an arc, and its center fixed both ways
    ∷ (bow (fix 4 "a.center" ∷ fix 18 "a" ∷ one 20 "a" ∷ []), good_check 0 0 1 3)
    -- a rule before the declaration
    ∷ (fix 4 "p" ∷ one 1 "p" ∷ one 24 "p" ∷ [], good_check 1 0 0 1)
    -- 30: nothing, no guess, an instruction after a guess; and before 31
    ∷ ([], refuses 30 0)
    ∷ (one 1 "p" ∷ [], refuses 30 1)
    ∷ (page ++ one 1 "q" ∷ [], refuses 30 7)
    ∷ (one 1 "p" ∷ one 1 "p" ∷ [], refuses 30 2)
    -- 31: of whatever kinds, at the later record; and before 32
    ∷ (one 3 "c" ∷ page, refuses 31 3)
    ∷ (two 22 "p" "z" ∷ one 1 "p" ∷ page, refuses 31 2)
    -- 32: an unknown label, a circle for a point, an arc's rule on a circle, a circle's on an arc, the center of a point, another part than the center
    ∷ (two 22 "p" "z" ∷ page, refuses 32 0)
    ∷ (two 22 "p" "c" ∷ page, refuses 32 0)
    ∷ (one 17 "c" ∷ page, refuses 32 0)
    ∷ (bow (one 15 "a" ∷ []), refuses 32 1)
    ∷ (fix 4 "p.center" ∷ page, refuses 32 0)
    ∷ (bow (fix 4 "a.a" ∷ []), refuses 32 1)
    ∷ (fix 18 "p" ∷ page, refuses 32 0)
    -- and before 33
    ∷ (two 22 "p" "z" ∷ page ++ one 24 "z" ∷ [], refuses 32 0)
    -- 33: an undeclared shape, a point guessed by a number, a radius by a pair; and before 34
    ∷ (page ++ one 24 "z" ∷ [], refuses 33 7)
    ∷ (page ++ one 25 "p" ∷ [], refuses 33 7)
    ∷ (start ++ one 24 "c.radius" ∷ [], refuses 33 6)
    ∷ (page ++ one 24 "p" ∷ one 24 "z" ∷ [], refuses 33 8)
    -- 34: at the later record; and before 35
    ∷ (page ++ one 24 "p" ∷ [], refuses 34 7)
    ∷ (start ++ one 24 "p" ∷ [], refuses 34 6)
    -- 35: at the declaring record
    ∷ (start, refuses 35 2)
    ∷ (one 1 "q" ∷ page, refuses 35 0)
    ∷ []

pub told : map (λ (c : Case). checked_of c.0) cases ≡ map (λ (c : Case). c.1) cases
unfolding checked_of check_of first lowest count_below malformed_test sound_test spelled_test label_on suffixed_on byte_on label_at run_to word_at labelled twice named_at some_named guess_at guessed wrong_place wrong_label_test no_such_part_test without_guess_test
told = refl
