-- Each part of a layout has a slot of its own, so a value put there is read out as that part and no other; and what was pushed is read out, shape by shape.
-- Assumes nothing.
use mathlib.Core.Path.{◌≡◌, refl, sym, ◌∙◌, ap}
use mathlib.Core.Bool.{false}
use mathlib.Core.List.{List, [], ◌∷◌, ◌++◌, append_assoc, map}
use Prim.Native.Nat.{ℕ, zero, suc, ◌+◌, ◌*◌, ◌≤◌, ◌<◌}
use borrow.Author.Rules.{rules}
use native.Mathlib.Omega.{arith}
use native.Mathlib.Nat.{suc-mul, zero-mul, add-zero}
use lib.ListN.{length, drop, get_or, set, length-set, length-append}
use lib.Seq.{get_or-set_same, get_or-set_other, get_or_at, get_or-append-add}
use lib.Ieee.{Float, nan}
use Rattle.std.specs.Prelude.{Ok}
use borrow.Author.Count.{below_none, below_more}
use Rattle.layout.specs.declared.ShapeKind.{ShapeKind}
use Rattle.layout.specs.declared.ShapeKind.TheVariants as K
use Rattle.layout.specs.declared.Stage.TheVariants.{Done}
use Rattle.layout.specs.declared.Layout.{Layout}
use Rattle.layout.specs.declared.Point.{Point}
use Rattle.layout.specs.declared.Circle.{Circle}
use Rattle.layout.specs.declared.Arc.{Arc}
use Rattle.layout.specs.Slots.{Figure, point, circle, arc, kind_of, components, size_of, shapes_in, slot_count, kind_start, slot_of, empty}
use Rattle.layout.specs.Refusals.{reason_number, impossible}
use Rattle.layout.specs.Push.{State, state}
use Rattle.layout.specs.Look.{looked}
use Rattle.layout.specs.Run.{run, all_components, shapes_of, run_of, RunRoom, AllIn}
use Rattle.layout.specs.Parts.{Component, Has, slot_for, shape_at, ReadsShape, ReadsBack, ReadBack}
use Rattle.refusal.proofs.Once.{answered_passed}
use Rattle.layout.proofs.Laws.{can_be, slot_inside, look_passes}
use Rattle.layout.proofs.Runs.{components_length, all_append, kept}
use Rattle.layout.proofs.Accepted.{all_in}

-- ---- a part and its slot

-- component j of the shape from a slot on stands j slots further
abbrev pub At : ShapeKind → List Float → ℕ → ℕ → Type 0
At k values at j = get_or (components (shape_at k values at)) j nan ≡ get_or values (at + j) nan

pub part_at : (k : ShapeKind) (values : List Float) (at j : ℕ) → j < size_of k → At k values at j
part_at K.Point values at = let more = below_more (At K.Point values at) in more 1 (more 0 (below_none (At K.Point values at)) (rw add-zero)) refl
part_at K.Circle values at = let more = below_more (At K.Circle values at) in more 2 (more 1 (more 0 (below_none (At K.Circle values at)) (rw add-zero)) refl) refl
part_at K.Arc values at =
    let more = below_more (At K.Arc values at) in
    more 5 (more 4 (more 3 (more 2 (more 1 (more 0 (below_none (At K.Arc values at)) (rw add-zero)) refl) refl) refl) refl) refl

abbrev part : ShapeKind → ℕ → ℕ → Component
part k i j = record { kind = k; shape = i; place = j }

-- two parts with one slot are one part
one_part : (l : Layout) (k k' : ShapeKind) (i i' j j' : ℕ) → Has l (part k i j) → Has l (part k' i' j') → slot_for l (part k i j) ≡ slot_for l (part k' i' j') → part k i j ≡ part k' i' j'
one_part l K.Point K.Point i i' j j' h h' e = let a : i ≡ i' = omega arith in let b : j ≡ j' = omega arith in rw (a, b)
one_part l K.Point K.Circle i i' j j' h h' e = absurd (omega arith)
one_part l K.Point K.Arc i i' j j' h h' e = absurd (omega arith)
one_part l K.Circle K.Point i i' j j' h h' e = absurd (omega arith)
one_part l K.Circle K.Circle i i' j j' h h' e = let a : i ≡ i' = omega arith in let b : j ≡ j' = omega arith in rw (a, b)
one_part l K.Circle K.Arc i i' j j' h h' e = absurd (omega arith)
one_part l K.Arc K.Point i i' j j' h h' e = absurd (omega arith)
one_part l K.Arc K.Circle i i' j j' h h' e = absurd (omega arith)
one_part l K.Arc K.Arc i i' j j' h h' e = let a : i ≡ i' = omega arith in let b : j ≡ j' = omega arith in rw (a, b)

-- a shape that is counted is read out
module _ (l : Layout) (values : List Float) (possible : impossible l ≡ false) (long : slot_count l ≤ length values) where
  pub reads : (k : ShapeKind) (i : ℕ) → i < shapes_in k l → ReadsShape k l values i
  unfolding looked
  reads K.Point i h = answered_passed reason_number _ _ _ (look_passes K.Point l (length values) i possible long h)
  reads K.Circle i h = answered_passed reason_number _ _ _ (look_passes K.Circle l (length values) i possible long h)
  reads K.Arc i h = answered_passed reason_number _ _ _ (look_passes K.Arc l (length values) i possible long h)

module _ (l : Layout) (values : List Float) (possible : impossible l ≡ false) (long : slot_count l ≤ length values) where
  pub read_out : (p : Component) (x : Float) → Has l p → ReadsBack l values p x
  read_out p x h =
      let inside : slot_for l p < slot_count l = omega (arith, slot_inside p.kind l p.shape h.0, h.1) in
      let values' = set values (slot_for l p) x in
      record {
        inside = inside;
        reads = reads l values' possible (rw length-set long);
        own = part_at p.kind values' (slot_of p.kind l p.shape) p.place h.1 ∙ get_or-set_same values (slot_for l p) x nan (omega arith);
        others = λ q g other.
            part_at q.kind values' (slot_of q.kind l q.shape) q.place g.1
            ∙ get_or-set_other values (slot_for l p) (slot_for l q) x nan (λ e. other (one_part l q.kind p.kind q.shape p.shape q.place p.place g h e))
            ∙ sym (part_at q.kind values (slot_of q.kind l q.shape) q.place g.1);
      }

-- ---- shapes that stand one after the other

-- a shape is read out where its components stand
shape_there : (shape : Figure) (front rest : List Float) → shape_at (kind_of shape) (front ++ (components shape ++ rest)) (length front) ≡ shape
shape_there (point p) front rest = simp (get_or_at, get_or-append-add)
shape_there (circle c) front rest = simp (get_or_at, get_or-append-add)
shape_there (arc a) front rest = simp (get_or_at, get_or-append-add)

module _ {X : Type 0} (make : X → Figure) (k : ShapeKind) (is : (x : X) → kind_of (make x) ≡ k) where
  size_of_lem : (x : X) → length (components (make x)) ≡ size_of k
  size_of_lem x = components_length (make x) ∙ ap size_of (is x)

  all_length : (xs : List X) → length (all_components (map make xs)) ≡ length xs * size_of k
  all_length [] = sym (zero-mul (size_of k))
  all_length (x ∷ xs) = length-append (components (make x)) (all_components (map make xs)) ∙ rw (size_of_lem x, all_length xs, suc-mul (length xs) (size_of k)) (omega arith)

  -- shape i of those that stand between a front and a rest
  shape_read : (xs : List X) (front rest : List Float) (other : X) (i : ℕ) → i < length xs
      → shape_at k (front ++ (all_components (map make xs) ++ rest)) (length front + i * size_of k) ≡ make (get_or xs i other)
  shape_read [] front rest other i h = absurd (omega arith)
  shape_read (x ∷ xs) front rest other zero h = rw (zero-mul, add-zero, append_assoc, ← is x) (shape_there (make x) front (all_components (map make xs) ++ rest))
  shape_read (x ∷ xs) front rest other (suc i) h =
      let at : length front + suc i * size_of k ≡ length (front ++ components (make x)) + i * size_of k = rw (length-append, size_of_lem x, suc-mul) (omega arith) in
      rw (at, append_assoc (components (make x)) (all_components (map make xs)) rest, ← append_assoc front (components (make x)) (all_components (map make xs) ++ rest))
      (shape_read xs (front ++ components (make x)) rest other i (omega arith))

-- ---- what was pushed is read out
module _ (next : ℕ) (ids : List ℕ) (values : List Float) (ps : List Point) (cs : List Circle) (xs : List Arc) (room : RunRoom (state empty next ids values) (length ps) (length cs) (length xs)) where
  abbrev last : State
  last = run (run_of ps cs xs) (state empty next ids values)

  abbrev l : Layout
  l = last.layout

  known : AllIn (state empty next ids values) ps cs xs
  known = all_in next ids values ps cs xs room

  counted : (k : ShapeKind) → shapes_in k l ≡ shapes_in k (record { points = length ps; circles = length cs; arcs = length xs; stage = Done })
  counted k = ap (shapes_in k) known.layout_is

  possible : impossible l ≡ false
  possible = rw known.layout_is (can_be _ (search rules))

  long : slot_count l ≤ length last.values
  long = omega (arith, counted K.Point, counted K.Circle, counted K.Arc, room.in_values, known.all_laid.values_length)

  -- the components of each kind, one after the other, and the rest as it was
  stored : last.values ≡ all_components (map point ps)
      ++ (all_components (map circle cs) ++ (all_components (map arc xs) ++ drop (length (all_components (shapes_of ps cs xs))) values))
  stored =
      rw known.all_taken at (kept next ids values (run_of ps cs xs)).values_are
      ∙ rw (all_append (map point ps) (map circle cs ++ map arc xs), all_append (map circle cs) (map arc xs)) (simp append_assoc)

  -- shape i of those of a kind, between a front and a rest
  read_one : {X : Type 0} (make : X → Figure) (k : ShapeKind) → ((x : X) → kind_of (make x) ≡ k) → (front rest : List Float) (ys : List X)
      → last.values ≡ front ++ (all_components (map make ys) ++ rest) → length front ≡ kind_start k l → length ys ≡ shapes_in k l
      → (i : ℕ) (other : X) → i < length ys → ReadsShape k l last.values i × (shape_at k last.values (slot_of k l i) ≡ make (get_or ys i other))
  read_one make k is front rest ys e f n i other h =
      (reads l last.values possible long k i (omega arith), rw (e, ← f) (shape_read make k is ys front rest other i h))

  pub read_back : ReadBack last ps cs xs
  read_back =
      let n = all_length point K.Point (λ p. refl) ps in
      let m = all_length circle K.Circle (λ c. refl) cs in
      let s = length-append (all_components (map point ps)) (all_components (map circle cs)) in
      record {
        points = λ i other h. let r = read_one point K.Point (λ p. refl) [] _ ps stored refl (sym (counted K.Point)) i other h in r.0 ∙ ap Ok (cc r.1);
        circles = λ i other h.
            let r = read_one circle K.Circle (λ c. refl) (all_components (map point ps)) _ cs stored (omega (arith, counted K.Point)) (sym (counted K.Circle)) i other h in
            r.0 ∙ ap Ok (cc r.1);
        arcs = λ i other h.
            let r = read_one arc K.Arc (λ a. refl) (all_components (map point ps) ++ all_components (map circle cs)) _ xs (rw (← append_assoc) at stored)
            (omega (arith, counted K.Point, counted K.Circle)) (sym (counted K.Arc)) i other h in
            r.0 ∙ ap Ok (cc r.1);
      }
