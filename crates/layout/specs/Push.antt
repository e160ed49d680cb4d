-- What the pushes and `done` answer, and what the lent slices and the lent counter hold after them.
use Rattle.std.specs.Prelude.{ℕ, zero, suc, ◌+◌, ◌≡◌, List, [], ◌∷◌, ◌++◌, length, take, drop, Float, Result, Ok, Err}
use Rattle.refusal.specs.declared.Refusal.{Refusal}
use Rattle.refusal.specs.First.{Answer, answered}
use Rattle.layout.specs.declared.Stage.{Stage}
use Rattle.layout.specs.declared.Stage.TheVariants.{Points, Circles, Arcs, Done}
use Rattle.layout.specs.declared.ShapeKind.{ShapeKind}
use Rattle.layout.specs.declared.Layout.{Layout}
use Rattle.layout.specs.declared.Counter.{Counter}
use Rattle.layout.specs.declared.Pushed.{Pushed}
use Rattle.layout.specs.Slots.{Figure, kind_of, components, slot_count, with_one}
use Rattle.layout.specs.Refusals.{Reason, reason_number, push_told, done_told}

-- a layout, the next id, and the two slices
pub record State : Type 0 where
  pub layout : Layout
  pub next : ℕ
  pub ids : List ℕ
  pub values : List Float

-- the same, put together
abbrev pub state : Layout → ℕ → List ℕ → List Float → State
state l next ids values = record { layout = l; next = next; ids = ids; values = values }

-- a list with s in the place of what stands from a place on
abbrev pub over : {A : Type 0} → List A → ℕ → List A → List A
over d at s = take at d ++ s ++ drop (at + length s) d

-- n ids from next on, rising by one
abbrev pub onward : ℕ → ℕ → List ℕ
onward next zero = []
onward next (suc n) = next ∷ onward (suc next) n

-- what is told of a push in a state
abbrev pub told_in : ShapeKind → State → Answer Reason
told_in k s = push_told k s.layout s.next (length s.ids) (length s.values)

-- the state after a good push of a shape of a kind, by its components
abbrev pub filled : ShapeKind → List Float → State → State
filled k vs s = record {
  layout = with_one k s.layout;
  next = s.next + length vs;
  ids = over s.ids (slot_count s.layout) (onward s.next (length vs));
  values = over s.values (slot_count s.layout) vs;
}

-- the state after a push: a refused one changes nothing
abbrev pub pushed : ShapeKind → List Float → State → State
pushed k vs s = answered reason_number (λ r. s) (told_in k s) (filled k vs s)

-- a push of a shape of a kind by its components: its answer and the two slices after it
pub record Fills (k : ShapeKind) (vs : List Float) (s : State) (r : Result Pushed Refusal) (ids : List ℕ) (values : List Float) : Type 0 where
  pub answer : r ≡ answered reason_number Err (told_in k s) (Ok (record { layout = (filled k vs s).layout; next = (filled k vs s).next }))
  pub ids_are : ids ≡ (pushed k vs s).ids
  pub values_are : values ≡ (pushed k vs s).values

-- a push of a shape
abbrev pub Push : Figure → State → Result Pushed Refusal → List ℕ → List Float → Type 0
Push shape = Fills (kind_of shape) (components shape)

-- the state after a push of a shape
abbrev pub after : Figure → State → State
after shape = pushed (kind_of shape) (components shape)

-- a push with the counter lent: the push at the counter's number, and the counter after it
pub record PushLent (shape : Figure) (l : Layout) (c : Counter) (ids : List ℕ) (values : List Float) (r : Result Pushed Refusal) (c' : Counter) (ids' : List ℕ) (values' : List Float) : Type 0 where
  pub push : Push shape (state l c.next ids values) r ids' values'
  pub counter_is : c' ≡ record { next = (after shape (state l c.next ids values)).next }

-- the stage after a stage
abbrev pub stage_after : Stage → Stage
stage_after Points = Circles
stage_after Circles = Arcs
stage_after Arcs = Done
stage_after Done = Done

-- the layout at the next stage
abbrev pub stepped : Layout → Layout
stepped l = record { points = l.points; circles = l.circles; arcs = l.arcs; stage = stage_after l.stage }

-- what `done` answers
unfoldable pub done_of : Layout → Result Layout Refusal
done_of l = answered reason_number Err (done_told l) (Ok (stepped l))
