-- What mirrors the code and need not be read: counts for which its sums fit, the next id by a push's answer, its reasons, and the stage that
-- is stepped to.
use Rattle.std.specs.Prelude.{ℕ, ◌≤◌, Option, Some, None, Result, Ok, Err}
use Rattle.layout.specs.declared.ShapeKind.TheVariants as K
use Rattle.layout.specs.declared.Stage.{Stage}
use Rattle.layout.specs.declared.Stage.TheVariants.{Points, Circles, Arcs, Done}
use Rattle.layout.specs.declared.Layout.{Layout}
use Rattle.layout.specs.declared.Pushed.{Pushed}
use Rattle.refusal.specs.declared.Refusal.{Refusal}
use Rattle.layout.specs.declared.check.Reason as code
use Rattle.layout.specs.declared.check.Reason.TheVariants as R
use Rattle.layout.specs.Slots.{most_shapes, size_of}
use Rattle.layout.specs.Refusals.{Reason, cannot_be, wrong_stage, full, short, few_ids, no_shape}

-- no count is over the most
pub record Small (l : Layout) : Type 0 where
  pub points : l.points ≤ most_shapes
  pub circles : l.circles ≤ most_shapes
  pub arcs : l.arcs ≤ most_shapes

-- the most slots of a shape
abbrev pub most_size : ℕ
most_size = size_of K.Arc

-- the next id after a push's answer
abbrev pub next_after : Result Pushed Refusal → ℕ → ℕ
next_after (Ok p) next = p.next
next_after (Err r) next = next

-- the next stage, if there is one
abbrev pub next_stage : Stage → Option Stage
next_stage Points = Some Circles
next_stage Circles = Some Arcs
next_stage Arcs = Some Done
next_stage Done = None

-- a reason of the code
abbrev pub reason_of : code.Reason → Reason
reason_of R.CannotBe = cannot_be
reason_of R.WrongStage = wrong_stage
reason_of R.Full = full
reason_of R.Short = short
reason_of R.FewIds = few_ids
reason_of R.NoShape = no_shape
