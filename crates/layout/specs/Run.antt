-- Runs of pushes and `done`s from an empty layout, and what is claimed of them.
use Rattle.std.specs.Prelude.{ℕ, ◌+◌, ◌*◌, ◌≤◌, ◌<◌, ◌≡◌, cond, List, [], ◌∷◌, ◌++◌, map, length, drop, get_or, eqb, Float}
use Rattle.std.specs.Float.{nan}
use Rattle.refusal.specs.First.{answered}
use Rattle.layout.specs.declared.Stage.TheVariants.{Done}
use Rattle.layout.specs.declared.ShapeKind.{ShapeKind}
use Rattle.layout.specs.declared.ShapeKind.TheVariants as K
use Rattle.layout.specs.declared.Point.{Point}
use Rattle.layout.specs.declared.Circle.{Circle}
use Rattle.layout.specs.declared.Arc.{Arc}
use Rattle.layout.specs.Slots.{Figure, point, circle, arc, kind_of, components, size_of, shapes_in, slot_count, most_shapes, ids_end, stage_due}
use Rattle.layout.specs.Refusals.{reason_number, done_told}
use Rattle.layout.specs.Push.{State, state, told_in, after, stepped}

-- ---- runs

-- a push of a shape, or `done`
pub data Act : Type 0 where
  push : Figure → Act
  done : Act

-- the state after an act: a refused one changes nothing
abbrev pub act : Act → State → State
act (push shape) s = after shape s
act done s = state (answered reason_number (λ r. s.layout) (done_told s.layout) (stepped s.layout)) s.next s.ids s.values

-- the shapes that an act adds: none where it is refused
abbrev pub takes : Act → State → List Figure
takes (push shape) s = answered reason_number (λ r. []) (told_in (kind_of shape) s) (shape ∷ [])
takes done s = []

-- the state after a run
unfoldable pub run : List Act → State → State
run [] s = s
run (a ∷ acts) s = run acts (act a s)

-- the shapes that a run adds, in order
unfoldable pub taken : List Act → State → List Figure
taken [] s = []
taken (a ∷ acts) s = takes a s ++ taken acts (act a s)

-- ---- what a run leaves

-- the components of all shapes, in order
abbrev pub all_components : List Figure → List Float
all_components [] = []
all_components (shape ∷ shapes) = components shape ++ all_components shapes

-- how many of the shapes are of a kind
abbrev pub how_many_of : ShapeKind → List Figure → ℕ
how_many_of k [] = 0
how_many_of k (shape ∷ shapes) = cond (eqb (stage_due k) (stage_due (kind_of shape))) 1 0 + how_many_of k shapes

-- no id stands at two of the first n slots
abbrev pub Distinct : ℕ → List ℕ → Type 0
Distinct n ids = (i j : ℕ) → i < n → j < n → get_or ids i 0 ≡ get_or ids j 0 → i ≡ j

-- what the state is after shapes were pushed: each slot holds its id and its component, and the rest is untouched
pub record Laid (first : State) (shapes : List Figure) (last : State) : Type 0 where
  pub counts : (k : ShapeKind) → shapes_in k last.layout ≡ how_many_of k shapes
  pub slots : slot_count last.layout ≡ length (all_components shapes)
  pub next_is : last.next ≡ first.next + slot_count last.layout
  pub id_at : (i : ℕ) → i < slot_count last.layout → get_or last.ids i 0 ≡ first.next + i
  pub distinct : Distinct (slot_count last.layout) last.ids
  pub value_at : (i : ℕ) → i < slot_count last.layout → get_or last.values i nan ≡ get_or (all_components shapes) i nan
  pub ids_rest : drop (slot_count last.layout) last.ids ≡ drop (slot_count last.layout) first.ids
  pub values_rest : drop (slot_count last.layout) last.values ≡ drop (slot_count last.layout) first.values
  pub ids_length : length last.ids ≡ length first.ids
  pub values_length : length last.values ≡ length first.values

-- ---- P points, C circles and A arcs

-- points, then circles, then arcs
abbrev pub shapes_of : List Point → List Circle → List Arc → List Figure
shapes_of ps cs xs = map point ps ++ (map circle cs ++ map arc xs)

-- the run that pushes them, with `done` after each kind
abbrev pub run_of : List Point → List Circle → List Arc → List Act
run_of ps cs xs = map push (map point ps) ++ (done ∷ (map push (map circle cs) ++ (done ∷ (map push (map arc xs) ++ (done ∷ [])))))

-- their slots
abbrev pub slots_for : ℕ → ℕ → ℕ → ℕ
slots_for p c a = p * size_of K.Point + c * size_of K.Circle + a * size_of K.Arc

-- there is room, and there are ids enough
pub record RunRoom (first : State) (p c a : ℕ) : Type 0 where
  pub points : p ≤ most_shapes
  pub circles : c ≤ most_shapes
  pub arcs : a ≤ most_shapes
  pub in_ids : slots_for p c a ≤ length first.ids
  pub in_values : slots_for p c a ≤ length first.values
  pub left : first.next + slots_for p c a ≤ ids_end

-- all are accepted and counted, and laid out in that order
pub record AllIn (first : State) (ps : List Point) (cs : List Circle) (xs : List Arc) : Type 0 where
  pub all_taken : taken (run_of ps cs xs) first ≡ shapes_of ps cs xs
  pub layout_is : (run (run_of ps cs xs) first).layout ≡ record { points = length ps; circles = length cs; arcs = length xs; stage = Done }
  pub all_laid : Laid first (shapes_of ps cs xs) (run (run_of ps cs xs) first)
