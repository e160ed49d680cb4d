-- The shapes that are pushed record by record are those of each kind in turn: one record more adds its shape at the end. With room and ids enough
-- the layout takes them all, and the slots hold their components. Assumes nothing.
use mathlib.Core.Path.{◌≡◌, refl, sym, ◌∙◌}
use mathlib.Core.List.{List, ◌++◌, map, map-map}
use Prim.Native.Nat.{ℕ, ◌+◌, ◌≤◌}
use native.Mathlib.Omega.{arith}
use lib.ListN.{length, length-map}
use lib.Ieee.{Float}
use Rattle.layout.specs.declared.Point.{Point}
use Rattle.layout.specs.declared.Circle.{Circle}
use Rattle.layout.specs.declared.Arc.{Arc}
use Rattle.layout.specs.Slots as layout
use Rattle.layout.specs.Push.{State, state, onward}
use Rattle.layout.specs.Run.{run, shapes_of, run_of, RunRoom}
use Rattle.layout.proofs.Onward.{length_onward}
use Rattle.layout.proofs.Runs.{kept}
use Rattle.layout.proofs.Claims.{all_accepted}
use Rattle.kinds.specs.Kinds.{new_point, new_circle, new_arc}
use Rattle.drawing.proofs.Laws.{count_le}
use Rattle.lowering.specs.Lower.{onto}
use Rattle.lowering.specs.Sketch.{many_of, layout_in, pair_of, circle_of, arc_of, of_kind, figures_in, values_in}
use Rattle.lowering.specs.Steps.{laid}
use Rattle.lowering.proofs.drawing.Counts.{count_of_kind}
use Rattle.lowering.proofs.slots.Steps.{run_append}

-- the slots of n lines
abbrev slots_in : (ℕ → ℕ) → ℕ → ℕ
slots_in kinds n = layout.slot_count (layout_in kinds n)

module _ (kinds : ℕ → ℕ) (numbers : ℕ → ℕ → ℕ × ℕ) (n : ℕ) where
  -- ---- all shapes

  abbrev points : List Point
  points = map (λ d. pair_of (numbers d) 0) (of_kind kinds new_point n)

  abbrev circles : List Circle
  circles = map (λ d. circle_of (numbers d)) (of_kind kinds new_circle n)

  abbrev arcs : List Arc
  arcs = map (λ d. arc_of (numbers d)) (of_kind kinds new_arc n)

  shapes_are : shapes_of points circles arcs ≡ figures_in kinds numbers n new_point ++ (figures_in kinds numbers n new_circle ++ figures_in kinds numbers n new_arc)
  shapes_are = rw (map-map layout.point, map-map layout.circle, map-map layout.arc) refl

  -- the pushes are a run of points, circles and arcs
  laid_run : (st : State) → laid kinds numbers n st ≡ run (run_of points circles arcs) st
  unfolding laid run
  laid_run st = sym (rw (map-map layout.point, map-map layout.circle, map-map layout.arc) (simp run_append))

  -- ---- with room for them

  module _ (next : ℕ) (ids : List ℕ) (values : List Float) (few : n ≤ layout.most_shapes) (in_ids : slots_in kinds n ≤ length ids)
      (in_values : slots_in kinds n ≤ length values) (left : next + slots_in kinds n ≤ layout.ids_end) where
    abbrev first : State
    first = state layout.empty next ids values

    few_of : (kind : ℕ) → many_of kinds kind n ≤ layout.most_shapes
    few_of kind = omega (arith, count_le kinds kind kind n)

    room : RunRoom first (length points) (length circles) (length arcs)
    room =
        simp (length-map, count_of_kind)
        (record { points = few_of new_point; circles = few_of new_circle; arcs = few_of new_arc; in_ids = in_ids; in_values = in_values; left = left })

    -- the layout, with ids and components in its slots
    pub laid_is : laid kinds numbers n (state layout.empty next ids values)
        ≡ state (layout_in kinds n) (next + slots_in kinds n) (onto ids (onward next (slots_in kinds n))) (onto values (values_in kinds numbers n))
    laid_is =
        let accepted = all_accepted next ids values points circles arcs room in
        let layout_is : (run (run_of points circles arcs) first).layout ≡ layout_in kinds n = accepted.layout_is ∙ simp (length-map, count_of_kind) in
        let k = rw (accepted.all_taken, shapes_are) at (kept next ids values (run_of points circles arcs)) in
        let m : length (values_in kinds numbers n) ≡ slots_in kinds n = rw layout_is at k.slots in
        let ids_are : (run (run_of points circles arcs) first).ids ≡ onto ids (onward next (slots_in kinds n)) = k.ids_are ∙ rw (m, length_onward) refl in
        laid_run first ∙ (λ i. state (layout_is i) ((rw m at k.next_is) i) (ids_are i) (k.values_are i))
