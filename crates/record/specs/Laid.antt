-- A list of records that is well formed but, perhaps, for the spelling of labels that no declaration has: in words, and as a test. Names
-- are resolved of such a list. The same test, in full, is that of a well formed list (proved).
use Rattle.refusal.specs.declared.Refusal.{Refusal}
use Rattle.std.specs.Prelude.{◌≡◌, Bool, true, false, not, ◌&&◌, ◌||◌, cond, List, ℕ, suc, ◌%◌, ◌≤◌, leb, ltb, eqb, length, Result}
use Rattle.std.specs.Result.{is_ok}
use Rattle.refusal.specs.First.{any_below, all_below, lowest}
use Rattle.record.specs.declared.Record.{Record}
use Rattle.kinds.specs.Kinds.{new_arc, kind_at, numberless, pair, Known}
use Rattle.record.specs.Record.{record_bytes, most_records, longest_text}
use Rattle.record.specs.Decode.{is_guess, decode, count_of, record_of}
use Rattle.record.specs.Entry.{named}
use Rattle.record.specs.Sound.{Plain, Framed, Third, spelled_test, framed_test, fields_test}
use Rattle.record.specs.Formed.{ListOf, misplaced, verdict}

-- ---- in words

-- the bytes of a record over a text that is good but, perhaps, for the spelling of its labels, if it is no declaration
pub record LaidRecord (text b : List ℕ) : Type 0 where
  pub framed : Framed text b
  pub known : Known (decode b).kind
  pub third : Third (decode b).kind (decode b).third
  pub count : (decode b).count ≡ (kind_at (decode b).kind).labels
  pub no_x : (kind_at (decode b).kind).number ≡ numberless → (decode b).x ≡ 0
  pub no_y : ((kind_at (decode b).kind).number ≡ pair → ⊥) → (decode b).y ≡ 0
  -- the label of a declaration is a plain one
  pub plain : (decode b).kind ≤ new_arc → Plain (named text (decode b) 0)

-- a list of records that are laid out
abbrev pub LaidOut : List ℕ → List ℕ → Type 0
LaidOut text bs = ListOf (LaidRecord text) text bs

-- ---- a record, as a test

-- each label of a record is spelled as one
abbrev pub spelled_all : List ℕ → Record → Bool → Bool
spelled_all text r dotted = all_below r.count (λ q. spelled_test dotted (named text r q))

-- the labels that are looked at: in full all of them, in a text that is not too long, and else that of a declaration
abbrev pub label_test : Bool → List ℕ → Record → Bool
label_test true text r = leb (length text) longest_text && spelled_all text r (kind_at r.kind).dotted
label_test false text r = not (leb r.kind new_arc) || spelled_test false (named text r 0)

-- the bytes are a good record's; not in full, they are but for the spelling of labels that no declaration has
abbrev pub record_test : Bool → List ℕ → List ℕ → Bool
record_test full text b =
    let r = decode b in
    (framed_test (length text) b && fields_test (kind_at r.kind) r.third r.count r.x r.y) && label_test full text r

-- the kind of such a record, and 0 of any other bytes
unfoldable pub kind_told : Bool → List ℕ → List ℕ → ℕ
kind_told full text b = cond (record_test full text b) (decode b).kind 0

-- ---- a list, as a test

-- one of the first i records of a list is a guess
abbrev pub guess_by : Bool → List ℕ → List ℕ → ℕ → Bool
guess_by full text bs i = any_below i (λ j. is_guess (kind_told full text (record_of bs j)))

-- the text and the list are within their limits
abbrev pub in_limits : List ℕ → List ℕ → Bool
in_limits text bs = leb (length text) longest_text && leb (count_of bs) most_records

-- a list is not at fault at place i: a record is in its place, and behind the last one there is no piece, and there was a guess
unfoldable pub fine_by : Bool → List ℕ → List ℕ → ℕ → Bool
fine_by full text bs i =
    in_limits text bs
    && cond (ltb i (count_of bs)) (not (misplaced (kind_told full text (record_of bs i)) i (guess_by full text bs i)))
    (eqb (length bs % record_bytes) 0 && guess_by full text bs i)

-- what is told of a list: the lowest place at fault
unfoldable pub formed_by : Bool → List ℕ → List ℕ → Result Unit Refusal
formed_by full text bs = verdict (lowest (suc (count_of bs)) (λ i. not (fine_by full text bs i)))

-- a list is not at fault at any place, by the kinds of its records
unfoldable pub laid_out : List ℕ → List ℕ → Bool
laid_out text bs = is_ok (formed_by false text bs)
