-- With ids all distinct, the two lookups of an arc agree on every arc exactly if there are no circles or no arcs: with both, the first arc's first slots differ.
-- Assumes nothing.
use mathlib.Core.Path.{◌≡◌, ap}
use mathlib.Core.Bool.{false}
use mathlib.Core.Logic.{◌⊎◌, inl, inr}
use mathlib.Core.List.{List}
use Prim.Native.Nat.{ℕ, ◌+◌, ◌*◌, ◌≤◌, ◌<◌}
use native.Mathlib.Nat.{eq-zero-or-pos}
use native.Mathlib.Omega.{arith}
use lib.ListN.{length}
use Rattle.layout.specs.declared.ShapeKind.TheVariants.{Arc}
use Rattle.layout.specs.declared.Layout.{Layout}
use Rattle.layout.specs.declared.ArcVars.{ArcVars}
use Rattle.std.specs.Prelude.{Ok}
use Rattle.layout.specs.Slots.{slot_count, slot_of}
use Rattle.layout.specs.Refusals.{reason_number, impossible}
use Rattle.layout.specs.Look.{look_answer, looked, arc_ids, arc_slot_ids, arc_vars}
use Rattle.layout.specs.Run.{Distinct}
use Rattle.refusal.proofs.Once.{answered_passed}
use Rattle.layout.proofs.Laws.{look_passes}

module _ (l : Layout) (ids : List ℕ) (possible : impossible l ≡ false) (long : slot_count l ≤ length ids) where
  found : (i at : ℕ) → i < l.arcs → look_answer Arc l (length ids) i (arc_vars ids at) ≡ Ok (arc_vars ids at)
  found i at h = answered_passed reason_number _ _ _ (look_passes Arc l (length ids) i possible long h)

  pub agree : (l.circles ≡ 0) ⊎ (l.arcs ≡ 0) → (i : ℕ) → i < l.arcs → arc_ids l ids i ≡ arc_slot_ids l ids i
  unfolding arc_ids looked
  agree (inl e) i h = let same : l.points * 2 + i * 6 ≡ slot_of Arc l i = omega arith in ap (λ (at : ℕ). look_answer Arc l (length ids) i (arc_vars ids at)) same
  agree (inr e) i h = absurd (omega arith)

  pub circles_or_arcs : Distinct (slot_count l) ids → ((i : ℕ) → i < l.arcs → arc_ids l ids i ≡ arc_slot_ids l ids i) → (l.circles ≡ 0) ⊎ (l.arcs ≡ 0)
  unfolding arc_ids looked
  circles_or_arcs distinct same = elim (eq-zero-or-pos l.arcs) [
    | inl e ↦ inr e
    | inr h ↦ (
        let first : arc_vars ids (l.points * 2 + 0 * 6) ≡ arc_vars ids (slot_of Arc l 0) = cc (same 0 h, found 0 (l.points * 2 + 0 * 6) h, found 0 (slot_of Arc l 0) h) in
        let slots : l.points * 2 + 0 * 6 ≡ slot_of Arc l 0 = distinct _ _ (omega arith) (omega arith) (ap (λ (v : ArcVars). v.start.x) first) in
        inl (omega arith)
        )
  ]
