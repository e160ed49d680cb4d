-- What a well formed list of records is, and where a list is not (docs/FORMAT.md, "Well formed"): its entries, in words, and as a test.
use Rattle.std.specs.Prelude.{◌≡◌, Bool, not, ◌&&◌, ◌||◌, cond, List, [], ◌∷◌, ◌++◌, ℕ, suc, ◌%◌, ◌≤◌, ◌<◌, leb, ltb, eqb, length, Result, Ok, Err}
use Rattle.std.proofs.Math.Option.{Option, none, some}
use Rattle.ground.specs.Lists.{up_to}
use Rattle.refusal.specs.First.{SomeBelow, EachBelow, any_below, lowest}
use Rattle.refusal.specs.declared.Refusal.{Refusal}
use Rattle.record.specs.Record.{record_bytes, most_records, longest_text, first_guess}
use Rattle.record.specs.Decode.{is_guess, decode, count_of, record_of}
use Rattle.record.specs.Entry.{Entry, no_entry, entry_at, entry_of}
use Rattle.record.specs.Sound.{Sound, Good, framed_test, sound_test}

-- the number of the refusal
abbrev pub malformed : ℕ
malformed = 30

-- 30 at a place
abbrev pub malformed_at : ℕ → Refusal
malformed_at i = record { number = malformed; place = i }

-- ---- a list that is well formed, as docs/FORMAT.md has it

-- record i of a list is a guess
abbrev pub GuessOf : List ℕ → ℕ → Type 0
GuessOf bs i = first_guess ≤ (decode (record_of bs i)).kind

-- instructions up to the first guess, at least one of each, and no instruction after a guess
pub record Parted (bs : List ℕ) : Type 0 where
  pub guesses : ℕ
  pub some_instruction : 0 < guesses
  pub some_guess : guesses < count_of bs
  pub before : EachBelow guesses (λ i. GuessOf bs i → ⊥)
  pub behind : (i : ℕ) → guesses ≤ i → i < count_of bs → GuessOf bs i

-- text and list within their limits, whole records, each of which is of one sort, and instructions before guesses
pub record ListOf (Each : List ℕ → Type 0) (text bs : List ℕ) : Type 0 where
  pub short : length text ≤ longest_text
  pub few : count_of bs ≤ most_records
  pub whole : length bs % record_bytes ≡ 0
  pub each : EachBelow (count_of bs) (λ i. Each (record_of bs i))
  pub parted : Parted bs

-- a list of good records
abbrev pub WellFormed : List ℕ → List ℕ → Type 0
WellFormed text bs = ListOf (Good text) text bs

-- ---- the entries of a list

-- the entry of a record's bytes
unfoldable pub entry : List ℕ → List ℕ → Entry
entry text b = cond (framed_test (length text) b) (entry_of text (decode b)) no_entry

-- a piece of a record at the end is no record, and neither is anything where text or list is too long
unfoldable pub entries : List ℕ → List ℕ → List Entry
entries text bs =
    cond (leb (length text) longest_text && leb (count_of bs) most_records)
    (up_to (count_of bs) (λ i. entry text (record_of bs i)) ++ cond (eqb (length bs % record_bytes) 0) [] (no_entry ∷ []))
    (no_entry ∷ [])

-- ---- where a list is at fault. A place is an entry, or the one after the last

-- an entry is a guess
abbrev pub GuessEntry : Entry → Type 0
GuessEntry e = first_guess ≤ e.kind

-- the list is at fault at place i
pub data Malformed (es : List Entry) (i : ℕ) : Type 0 where
  -- no record, or one that is not sound
  unsound : i < length es → (Sound (entry_at es i) → ⊥) → Malformed es i
  -- an instruction is due
  guess_first : i < length es → i ≡ 0 → GuessEntry (entry_at es i) → Malformed es i
  -- an instruction after a guess
  after_guess : i < length es → (GuessEntry (entry_at es i) → ⊥) → SomeBelow i (λ j. GuessEntry (entry_at es j)) → Malformed es i
  -- a guess is due
  no_guess : i ≡ length es → (SomeBelow i (λ j. GuessEntry (entry_at es j)) → ⊥) → Malformed es i

-- how many places there are
abbrev pub places : List Entry → ℕ
places es = suc (length es)

-- ---- the same, as a test

-- an entry below n is a guess
abbrev pub any_guess : List Entry → ℕ → Bool
any_guess es n = any_below n (λ j. is_guess (entry_at es j).kind)

-- an entry that is not sound or not in its place, by whether it is the first and whether a guess stands before it
abbrev pub fault_test : Entry → Bool → Bool → Bool
fault_test e at_first behind_guess =
    not (sound_test e) || ((at_first && is_guess e.kind) || (not (is_guess e.kind) && behind_guess))

-- the same by the kind of a record, with 0 for one that is not sound, and by its place
abbrev pub misplaced : ℕ → ℕ → Bool → Bool
misplaced kind i behind_guess = eqb kind 0 || ((eqb i 0 && is_guess kind) || (not (is_guess kind) && behind_guess))

-- the list is at fault at place i
unfoldable pub malformed_test : List Entry → ℕ → Bool
malformed_test es i =
    (ltb i (length es) && fault_test (entry_at es i) (eqb i 0) (any_guess es i)) || (eqb i (length es) && not (any_guess es i))

-- ---- what is told: the lowest place at fault

-- 30 at a place, or nothing
abbrev pub verdict : Option ℕ → Result Unit Refusal
verdict (some i) = Err (malformed_at i)
verdict none = Ok tt

-- what is told of a list
unfoldable pub formed_of : List Entry → Result Unit Refusal
formed_of es = verdict (lowest (places es) (malformed_test es))
