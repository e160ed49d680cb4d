-- The numbers that a shape's parts start at, by the places of its parts: the lowest guess of a part is the lowest with that label. So shapes by
-- their numbers hold the starting values. Assumes nothing.
use mathlib.Core.Path.{◌≡◌, refl}
use mathlib.Core.Bool.{Bool, true, false, cond}
use mathlib.Core.List.{List, [], ◌∷◌, ◌++◌, map, map-append, append-nil}
use Prim.Native.Nat.{ℕ, zero, suc, ◌+◌, ◌*◌, ◌≤◌, ◌<◌}
use native.Mathlib.Omega.{arith}
use native.Mathlib.Nat.{le_refl}
use lib.Dec.{eqb}
use lib.ListN.{length, take}
use lib.Seq.{take-length}
use borrow.Author.Tests.{eqb-true}
use lib.Ieee.{binary64, of_bits}
use Rattle.ground.specs.Words.{bytes}
use Rattle.ground.specs.Lists.{flat}
use Rattle.ground.proofs.Pieces.{flat_append, picks_suc}
use Rattle.layout.specs.Slots.{components}
use Rattle.layout.specs.Run.{all_components}
use Rattle.layout.proofs.Runs.{all_append}
use Rattle.record.specs.Entry.{Label, Entry, no_entry, entry_at}
use Rattle.names.specs.Labels.{kind_no, name_no}
use Rattle.names.specs.Cut.{stem, known_parts, part_no}
use Rattle.names.specs.Names.{guess_in}
use Rattle.names.proofs.Laws.{within_one}
use Rattle.names.proofs.Names.{guess_at_lem}
use Rattle.drawing.specs.Needs.{Shape, point, circle, arc, declaring}
use Rattle.lowering.specs.Slots.{slot, x_axis, y_axis, no_axis, slots_of_shape, slots_of, slots, guess_of, start_of, values_of}
use Rattle.lowering.specs.Demand.{Declares}
use Rattle.lowering.specs.Sketch.{figure_of, of_kind, figures_in, values_in}
use Rattle.lowering.proofs.drawing.Counts.{labels_pick}
use Rattle.lowering.proofs.drawing.Fine.{Fine, declaration, clear}

-- the numbers of the lowest guess of a part of the shape that record d declares
abbrev pub numbers_of : List Entry → ℕ → ℕ → ℕ × ℕ
numbers_of es d part = let g = entry_at es (guess_in es (d * known_parts + part)) in (g.x, g.y)

module _ (es : List Entry) (w : Fine es) (numbers : ℕ → ℕ → ℕ × ℕ) (are : (d part : ℕ) → d < length es → part < known_parts → numbers d part ≡ numbers_of es d part) where
  start_is : (d : ℕ) (s : Shape) → Declares es d s → (suffix : Label) (axis : ℕ) → stem suffix ≡ [] → part_no suffix < known_parts
      → start_of es (slot (name_no es d) suffix axis) ≡ of_bits binary64 (cond (eqb axis y_axis) (numbers d (part_no suffix)).1 (numbers d (part_no suffix)).0)
  unfolding guess_of
  start_is d s own suffix axis begins one =
      rw (are d (part_no suffix) own.inside one, guess_at_lem es (clear es w) d suffix own.inside (declaration s (kind_no es d) own.kind_is) (record { begins = begins; one = one })) refl

  pair_is : (d : ℕ) (s : Shape) → Declares es d s → (suffix : Label) → stem suffix ≡ [] → part_no suffix < known_parts
      → map (start_of es) (slot (name_no es d) suffix x_axis ∷ slot (name_no es d) suffix y_axis ∷ [])
      ≡ of_bits binary64 (numbers d (part_no suffix)).0 ∷ of_bits binary64 (numbers d (part_no suffix)).1 ∷ []
  pair_is d s own suffix begins one = λ j. start_is d s own suffix x_axis begins one j ∷ start_is d s own suffix y_axis begins one j ∷ []

  figure_is : (d : ℕ) (s : Shape) → Declares es d s → map (start_of es) (slots_of_shape s (name_no es d)) ≡ components (figure_of (numbers d) (declaring s))
  figure_is d point own = pair_is d point own [] refl (omega arith)
  figure_is d circle own = λ j. pair_is d circle own (bytes ".center") refl (omega arith) j ++ (start_is d circle own (bytes ".radius") no_axis refl (omega arith) j ∷ [])
  figure_is d arc own = λ j.
      pair_is d arc own (bytes ".a") refl (omega arith) j
      ++ (pair_is d arc own (bytes ".b") refl (omega arith) j ++ pair_is d arc own (bytes ".center") refl (omega arith) j)

  -- the shapes of a kind among the first n
  of_first : (s : Shape) (n : ℕ) → n ≤ length es → map (start_of es) (slots_of s (take n es)) ≡ all_components (figures_in (kind_no es) numbers n (declaring s))
  unfolding of_kind
  of_first s zero h = refl
  of_first s (suc n) h =
      rw (picks_suc _ _ _ (labels_pick s) es n no_entry h, flat_append, map-append, of_first s n (omega arith), within_one (declaring s) (kind_no es n))
      (rw (map-append, all_append, go (eqb (kind_no es n) (declaring s)) refl) refl)
    where
      go : (b : Bool) → eqb (kind_no es n) (declaring s) ≡ b
          → map (start_of es) (flat (slots_of_shape s) (cond b (name_no es n ∷ []) [])) ≡ all_components (map (λ d. figure_of (numbers d) (declaring s)) (cond b (n ∷ []) []))
      go true e = rw (append-nil, append-nil, figure_is n s (record { inside = h; kind_is = eqb-true (kind_no es n) (declaring s) e })) refl
      go false e = refl

  of_shape : (s : Shape) → map (start_of es) (slots_of s es) ≡ all_components (figures_in (kind_no es) numbers (length es) (declaring s))
  of_shape s = rw take-length at (of_first s (length es) (le_refl (length es)))

  pub values_in_lem : values_of es ≡ values_in (kind_no es) numbers (length es)
  unfolding values_of slots
  values_in_lem = simp (map-append, all_append, of_shape point, of_shape circle, of_shape arc)
