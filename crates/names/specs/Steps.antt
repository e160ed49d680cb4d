-- The tables while they are filled. It mirrors the code and need not be read.
use Rattle.std.specs.Prelude.{◌≡◌, Bool, ◌&&◌, List, ℕ, ◌*◌, ◌≤◌, ◌<◌, leb, eqb, length, get_or}
use Rattle.kinds.specs.Kinds.{pair_guess, label_places}
use Rattle.record.specs.Record.{most_records}
use Rattle.record.specs.Decode.{count_of, decode_at}
use Rattle.record.specs.Entry.{Entry}
use Rattle.names.specs.Chains.{FirstsFrom}
use Rattle.names.specs.Names.{record_by, tells_part, name_places, name_in, guess_places, place_by}

-- a table of m places with one number at each
pub record FilledWith (m v : ℕ) (xs : List ℕ) : Type 0 where
  pub long : length xs ≡ m
  pub each : (k : ℕ) → k < m → get_or xs k 0 ≡ v

-- the first m places of the table of names are filled, and the rest holds 0
pub record NamedUpTo (es : List Entry) (m : ℕ) (names : List ℕ) : Type 0 where
  pub long : length names ≡ name_places
  pub done : (k : ℕ) → k < m → get_or names k 0 ≡ name_in es k
  pub rest : (k : ℕ) → m ≤ k → k < name_places → get_or names k 0 ≡ 0

-- each name of a table tells a record that can be there
abbrev pub Inside : List ℕ → Type 0
Inside names = (k : ℕ) → record_by (get_or names k 0) < most_records

-- the name of record i's first label, by the table of names
abbrev pub first_name : List ℕ → ℕ → ℕ
first_name names i = get_or names (i * label_places) 0

-- record i is, by its kind and the table of names, a guess of the part whose place is k
unfoldable pub noted : List ℕ → List ℕ → ℕ → ℕ → Bool
noted bs names k i = (leb pair_guess (decode_at bs i).kind && tells_part (first_name names i)) && eqb (place_by (first_name names i)) k

-- the table of guesses holds for each part the lowest record from m on that guesses it
abbrev pub NotedFrom : List ℕ → List ℕ → ℕ → List ℕ → Type 0
NotedFrom bs names = FirstsFrom (noted bs names) guess_places (count_of bs)
