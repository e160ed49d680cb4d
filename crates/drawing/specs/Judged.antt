-- The check by whatever tables are lent. Where they are the drawing's own, it tells what the check tells (proved).
use Rattle.std.specs.Prelude.{Bool, not, ◌||◌, cond, List, ℕ, ltb, Result, Ok, Err}
use Rattle.refusal.specs.declared.Refusal.{Refusal}
use Rattle.refusal.specs.Refusal.{refusal}
use Rattle.refusal.specs.First.{Answer, passed, refused, first}
use Rattle.kinds.specs.Kinds.{new_point, new_circle, new_arc, first_rule, last_rule}
use Rattle.record.specs.Record.{most_records}
use Rattle.record.specs.Decode.{count_of, decode_at}
use Rattle.record.specs.Formed.{entries, formed_of}
use Rattle.drawing.specs.declared.Checked.{Checked}
use Rattle.drawing.specs.Faults.{Fault, malformed, behind30, number_of}
use Rattle.drawing.specs.Check.{count_below, good_check}
use Rattle.drawing.specs.Numbers.{test_by, lent_numbers}

-- 30 of a list that is not well formed, and else another refusal
abbrev pub thirty_or : Result Unit Refusal → Refusal → Result Checked Refusal
thirty_or (Err r) other = Err r
thirty_or (Ok tt) other = Err other

-- how many records are of a kind from low to high
abbrev pub count_in : List ℕ → ℕ → ℕ → ℕ
count_in bs low high = count_below (λ i. (decode_at bs i).kind) low high (count_of bs)

-- what is told of records where this was found
abbrev pub tells_of : List ℕ → List ℕ → Answer Fault → Result Checked Refusal
tells_of text bs passed = good_check (count_in bs new_point new_point) (count_in bs new_circle new_circle) (count_in bs new_arc new_arc) (count_in bs first_rule last_rule)
tells_of text bs (refused f i) = thirty_or (formed_of (entries text bs)) (refusal (number_of f) i)

-- what is told of records and tables: 30 where they were not resolved or are too many, and else the first fault that they show
unfoldable pub judged_of : List ℕ → List ℕ → Bool → List ℕ → List ℕ → Result Checked Refusal
judged_of text bs resolved names guesses =
    tells_of text bs
    (cond (not resolved || ltb most_records (count_of bs)) (refused malformed 0) (first behind30 (test_by (lent_numbers bs names guesses)) (count_of bs)))
