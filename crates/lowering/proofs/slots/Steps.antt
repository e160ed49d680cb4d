-- What the steps of the code come to: a push that is taken or refused, the pushes of a kind, and the stages. Assumes nothing.
use mathlib.Core.Path.{◌≡◌, refl, ◌∙◌, ap}
use mathlib.Core.List.{List, [], ◌∷◌, ◌++◌, map-append}
use Prim.Native.Nat.{ℕ, ◌+◌}
use native.Mathlib.Numerals.{add-one}
use lib.Ieee.{Float}
use Rattle.layout.specs.declared.Layout.{Layout}
use Rattle.layout.specs.declared.Pushed.{Pushed}
use Rattle.std.specs.Prelude.{Result, Ok, Err}
use Rattle.std.specs.Result.{result_unwrap_or}
use Rattle.refusal.specs.declared.Refusal.{Refusal}
use Rattle.layout.specs.Slots as layout
use Rattle.layout.specs.Refusals.{reason_number, done_told}
use Rattle.layout.specs.Push.{State, state, after, Push, told_in, filled, stepped, done_of}
use Rattle.layout.specs.Run.{Act, done, act, run}
use Rattle.refusal.proofs.Once.{answered_pair}
use Rattle.lowering.specs.Sketch.{of_kind}
use Rattle.lowering.specs.Steps.{laid_in, one_of, pushed_of, stage, laid, Slotted}

-- ---- runs

pub run_append : (xs ys : List Act) (s : State) → run (xs ++ ys) s ≡ run ys (run xs s)
unfolding run
run_append [] ys s = refl
run_append (a ∷ xs) ys s = run_append xs ys (act a s)

-- ---- a push

-- the layout and the next id after a push, with the slices after it, are the state after it
pub push_state : (shape : layout.Figure) (last : Pushed) (ids : List ℕ) (values : List Float) (r : Result Pushed Refusal) (ids' : List ℕ) (values' : List Float)
    → Push shape (laid_in last ids values) r ids' values' → laid_in (result_unwrap_or r last) ids' values' ≡ after shape (laid_in last ids values)
push_state shape last ids values r ids' values' p =
    let s = laid_in last ids values in
    let k = layout.kind_of shape in
    let vs = layout.components shape in
    rw (p.answer, p.ids_are, p.values_are)
    (answered_pair reason_number (λ (q : Result Pushed Refusal) (t : State). laid_in (result_unwrap_or q last) t.ids t.values ≡ t) Err (λ r. s) (told_in k s) _ (filled k vs s) (λ r. refl) (λ c. refl))

-- pushes of some lines, and of one more
pub pushes_turn : (kinds : ℕ → ℕ) (numbers : ℕ → ℕ → ℕ × ℕ) (kind : ℕ) (first now then : State) (i : ℕ) → now ≡ pushed_of numbers kind (of_kind kinds kind i) first
    → then ≡ pushed_of numbers kind (one_of kinds kind i) now → then ≡ pushed_of numbers kind (of_kind kinds kind (i + 1)) first
unfolding of_kind
pushes_turn kinds numbers kind first now then i e f = f ∙ rw (e, add-one) (simp (map-append, run_append))

-- ---- stages

-- a step
pub staged : (now then : State) → now ≡ then → state (result_unwrap_or (done_of now.layout) now.layout) now.next now.ids now.values ≡ act done then
unfolding done_of
staged now then e =
    let l = now.layout in
    rw (answered_pair reason_number (λ (q : Result Layout Refusal) (m : Layout). result_unwrap_or q l ≡ m) Err (λ r. l) (done_told l) (Ok (stepped l)) (stepped l) (λ r. refl) (λ c. refl))
    (ap (act done) e)

-- three of them
pub slotted : (kinds : ℕ → ℕ) (numbers : ℕ → ℕ → ℕ × ℕ) (n : ℕ) (first a b c : State)
    → a ≡ stage kinds numbers n 1 first → b ≡ stage kinds numbers n 2 a → c ≡ stage kinds numbers n 3 b
    → Slotted (laid kinds numbers n first) c.layout c.ids c.values
unfolding laid
slotted kinds numbers n first a b c ea eb ec = rw (← ea, ← eb, ← ec) (record { layout_is = refl; ids_are = refl; values_are = refl })
