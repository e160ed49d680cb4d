-- What is claimed of the layout: of its two lookups of arcs, of runs of pushes, and of the readout.
use Rattle.std.specs.Prelude.{ℕ, ◌≤◌, ◌<◌, ◌≡◌, false, ◌⊎◌, ◌↔◌, List, length, Float, Ok, Err}
use Rattle.layout.specs.declared.Layout.{Layout}
use Rattle.refusal.specs.declared.Refusal.{Refusal}
use Rattle.layout.specs.declared.Point.{Point}
use Rattle.layout.specs.declared.Circle.{Circle}
use Rattle.layout.specs.declared.Arc.{Arc}
use Rattle.layout.specs.Slots.{Figure, slot_count, empty}
use Rattle.layout.specs.Refusals.{impossible}
use Rattle.layout.specs.Push.{State, state, Push, after}
use Rattle.layout.specs.Look.{arc_ids, arc_slot_ids}
use Rattle.layout.specs.Run.{Act, run, taken, Distinct, Laid, run_of, RunRoom, AllIn}
use Rattle.layout.specs.Parts.{Component, Has, ReadsBack, ReadBack}

-- with ids all distinct, the two lookups agree on every arc exactly if there are no circles or no arcs
abbrev pub ArcsAgree : Type 0
ArcsAgree =
    (l : Layout) (ids : List ℕ) → impossible l ≡ false → slot_count l ≤ length ids → Distinct (slot_count l) ids
    → ((i : ℕ) → i < l.arcs → arc_ids l ids i ≡ arc_slot_ids l ids i) ↔ ((l.circles ≡ 0) ⊎ (l.arcs ≡ 0))

-- a push that is answered with a layout and the next id: they and the slices are the state after the push
abbrev pub GoodPush : Type 0
GoodPush =
    (shape : Figure) (s : State) (l : Layout) (next : ℕ) (ids : List ℕ) (values : List Float) → Push shape s (Ok (record { layout = l; next = next })) ids values → state l next ids values ≡ after shape s

-- a push that is refused changes nothing
abbrev pub RefusedPush : Type 0
RefusedPush = (shape : Figure) (s : State) (r : Refusal) (ids : List ℕ) (values : List Float) → Push shape s (Err r) ids values → (ids ≡ s.ids) × (values ≡ s.values) × (s ≡ after shape s)

-- after any run from an empty layout, the shapes that were accepted are laid out, and the others changed nothing
abbrev pub AnyRun : Type 0
AnyRun =
    (next : ℕ) (ids : List ℕ) (values : List Float) (acts : List Act)
    → Laid (state empty next ids values) (taken acts (state empty next ids values)) (run acts (state empty next ids values))

-- P points, C circles and A arcs with room and ids enough are all accepted
abbrev pub AllAccepted : Type 0
AllAccepted =
    (next : ℕ) (ids : List ℕ) (values : List Float) (ps : List Point) (cs : List Circle) (xs : List Arc)
    → RunRoom (state empty next ids values) (length ps) (length cs) (length xs) → AllIn (state empty next ids values) ps cs xs

-- and are read out by their numbers as they were pushed
abbrev pub AllReadBack : Type 0
AllReadBack =
    (next : ℕ) (ids : List ℕ) (values : List Float) (ps : List Point) (cs : List Circle) (xs : List Arc)
    → RunRoom (state empty next ids values) (length ps) (length cs) (length xs) → ReadBack (run (run_of ps cs xs) (state empty next ids values)) ps cs xs

-- a value put in a slot is read out as that component of that shape and no other
abbrev pub OneSlotOnePart : Type 0
OneSlotOnePart = (l : Layout) (values : List Float) → impossible l ≡ false → slot_count l ≤ length values → (p : Component) (x : Float) → Has l p → ReadsBack l values p x
