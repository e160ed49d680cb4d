-- The ids that a rule's names stand for are those of the slots that its labels name, and they are given ones: the name of each label tells the shape
-- and the slots that are worked out for it. Assumes nothing.
use mathlib.Core.Path.{◌≡◌, refl, ◌∙◌}
use mathlib.Core.List.{List, [], ◌∷◌, map}
use Prim.Native.Nat.{ℕ, suc, ◌+◌, ◌≤◌, ◌<◌, suc-le-suc}
use native.Mathlib.Nat.{zero-lt-suc}
use native.Mathlib.Omega.{arith}
use lib.ListN.{length, get_or, length-map}
use Rattle.ground.specs.Lists.{flat, up_to}
use Rattle.ground.proofs.Pieces.{get_or_map}
use Rattle.layout.specs.Slots.{ids_end}
use Rattle.record.specs.Record.{most_records}
use Rattle.kinds.specs.Kinds.{Rule}
use Rattle.record.specs.Entry.{Entry, entry_at}
use Rattle.names.specs.Labels.{kind_no}
use Rattle.names.specs.Names.{name_for}
use Rattle.drawing.specs.Needs.{Shape, point, circle, arc}
use Rattle.lowering.specs.Slots.{slots, first_slot}
use Rattle.lowering.specs.Rows.{named_ids}
use Rattle.lowering.specs.Demand.{Declares}
use Rattle.lowering.specs.Sketch.{first_in, span_at, ids_by}
use Rattle.lowering.specs.Steps.{Sayable}
use Rattle.lowering.proofs.drawing.Fine.{Fine}
use Rattle.lowering.proofs.rows.Labels.{WorkedOut, span_of, worked_out, ids_are, reach, ids_few}

-- by the places of a list
flat_places : {A B : Type 0} (f : A → List B) (g : ℕ → List B) (d : A) (xs : List A) (h : ℕ → ℕ) → ((q : ℕ) → q < length xs → f (get_or xs q d) ≡ g (h q)) → flat f xs ≡ flat g (up_to (length xs) h)
flat_places f g d [] h e = refl
flat_places f g d (x ∷ xs) h e = rw (e 0 (zero-lt-suc (length xs)), flat_places f g d xs (λ k. h (suc k)) (λ q b. e (suc q) (suc-le-suc b))) refl

-- the first slot of a declared shape
first_is : (es : List Entry) (d : ℕ) (s : Shape) → Declares es d s → first_in (kind_no es) (length es) d ≡ first_slot s es d
unfolding first_in
first_is es d point own = rw own.kind_is refl
first_is es d circle own = rw own.kind_is refl
first_is es d arc own = rw own.kind_is refl

module _ (es : List Entry) (w : Fine es) (next i : ℕ) (h : i < length es) (u : Rule (kind_no es i)) where
  abbrev e : Entry
  e = entry_at es i

  module _ (q : ℕ) (g : q < length e.labels) where
    work : WorkedOut es e q (span_of es e q)
    work = worked_out es w i h u q g

    span_is : span_at e.kind e.third (map (name_for es) e.labels) q ≡ span_of es e q
    span_is = rw (get_or_map (name_for es) e.labels q [] 0 g) refl

  pub ids_same : flat (named_ids es next (entry_at es i)) (entry_at es i).labels ≡ ids_by (first_in (kind_no es) (length es)) next (kind_no es i) (entry_at es i).third (map (name_for es) (entry_at es i).labels)
  unfolding ids_by
  ids_same =
      rw (length-map e.labels (name_for es))
      (flat_places (named_ids es next e) _ [] e.labels (λ q. q)
      (λ q g. ids_are (work q g) next ∙ rw (span_is q g, first_is es (span_of es e q).shape (work q g).shape (work q g).declared) refl))

  pub sayable : length es ≤ most_records → next + length (slots es) ≤ ids_end
      → Sayable (first_in (kind_no es) (length es)) next (kind_no es i) (entry_at es i).third (map (name_for es) (entry_at es i).labels)
  sayable few left = record {
    each = λ q b.
        let g : q < length e.labels = rw (length-map e.labels (name_for es)) at b in
        let k = work q g in
        rw (span_is q g)
        (record {
          inside = omega (arith, few, k.declared.inside);
          fits = rw (first_is es (span_of es e q).shape k.shape k.declared) (omega (arith, left, reach k));
        });
    few = rw (← ids_same) (ids_few es w i h u next);
  }
