-- The entries of records, without a look at their form, and which of them has a label: the plain search.
use Rattle.std.specs.Prelude.{Bool, true, false, ◌&&◌, List, [], ◌∷◌, ℕ, leb, eqb}
use Rattle.std.proofs.Math.Option.{Option, none, some}
use Rattle.ground.specs.Lists.{up_to}
use Rattle.refusal.specs.First.{lowest}
use Rattle.record.specs.Decode.{count_of, decode_at}
use Rattle.record.specs.Entry.{Label, Entry, entry_at, label_no, entry_of}

-- ---- entries

-- the fields of each whole record, its labels as their text
unfoldable pub drawn : List ℕ → List ℕ → List Entry
drawn text bs = up_to (count_of bs) (λ i. entry_of text (decode_at bs i))

-- the kind of entry i
abbrev pub kind_no : List Entry → ℕ → ℕ
kind_no es i = (entry_at es i).kind

-- the first label of entry i
abbrev pub name_no : List Entry → ℕ → Label
name_no es i = label_no (entry_at es i) 0

-- ---- labels

-- two labels are the same
abbrev pub same : Label → Label → Bool
same [] [] = true
same [] (b ∷ t) = false
same (a ∷ s) [] = false
same (a ∷ s) (b ∷ t) = eqb a b && same s t

-- a kind from low to high
abbrev pub within : ℕ → ℕ → ℕ → Bool
within low high kind = leb low kind && leb kind high

-- entry j is of a kind from low to high, and its first label is l
unfoldable pub labelled : List Entry → ℕ → ℕ → Label → ℕ → Bool
labelled es low high l j = within low high (kind_no es j) && same (name_no es j) l

-- ---- the plain search

-- the place that was found, or n
abbrev pub place_or : Option ℕ → ℕ → ℕ
place_or (some i) n = i
place_or none n = n

-- the lowest number below n that passes the test, or n
unfoldable pub lowest_or : ℕ → (ℕ → Bool) → ℕ
lowest_or n p = place_or (lowest n p) n
