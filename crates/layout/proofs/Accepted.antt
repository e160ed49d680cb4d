-- Points, circles and arcs with room and ids enough are all accepted: kind by kind, each push leaves room for those after it.
-- Assumes nothing.
use mathlib.Core.Path.{◌≡◌, refl, ◌∙◌, ap}
use Prim.Native.Nat.{ℕ, suc, ◌+◌, ◌*◌, ◌≤◌, ◌<◌}
use borrow.Author.Rules.{rules}
use native.Mathlib.Omega.{arith}
use native.Mathlib.Nat.{suc-mul, zero-add, add-zero, add_assoc}
use native.Mathlib.Numerals.{one-add}
use mathlib.Core.List.{List, [], ◌∷◌, ◌++◌, append_assoc, append-nil, map}
use lib.ListN.{length, length-map}
use lib.Ieee.{Float}
use Rattle.layout.specs.declared.ShapeKind.{ShapeKind}
use Rattle.layout.specs.declared.ShapeKind.TheVariants as K
use Rattle.layout.specs.declared.Layout.{Layout}
use Rattle.layout.specs.declared.Point.{Point}
use Rattle.layout.specs.declared.Circle.{Circle}
use Rattle.layout.specs.declared.Arc.{Arc}
use Rattle.layout.specs.Slots.{Figure, point, circle, arc, kind_of, components, size_of, shapes_in, slot_count, with_one, empty, most_shapes, ids_end, stage_number, stage_due}
use Rattle.layout.specs.Refusals.{reason_number, done_told}
use Rattle.layout.specs.Push.{State, state, told_in, filled, stepped}
use Rattle.layout.specs.Run.{Act, push, done, act, run, taken, run_of, RunRoom, AllIn}
use Rattle.refusal.specs.First.{passed, answered}
use Rattle.refusal.proofs.Once.{answered_passed}
use Rattle.layout.proofs.Laws.{by_kind, Can, can_be, Fits, fits_passes, done_passes}
use Rattle.layout.proofs.Runs.{Kept, kept_filled, kept_act, kept_laid, kept_empty}

-- the layout with n more of a kind
abbrev more : ShapeKind → ℕ → Layout → Layout
more K.Point n l = record { points = l.points + n; circles = l.circles; arcs = l.arcs; stage = l.stage }
more K.Circle n l = record { points = l.points; circles = l.circles + n; arcs = l.arcs; stage = l.stage }
more K.Arc n l = record { points = l.points; circles = l.circles; arcs = l.arcs + n; stage = l.stage }

more_none : (k : ShapeKind) (l : Layout) → l ≡ more k 0 l
more_none k l = by_kind (λ k. l ≡ more k 0 l) (rw add-zero) (rw add-zero) (rw add-zero) k

more_one : (k : ShapeKind) (n : ℕ) (l : Layout) → more k n (with_one k l) ≡ more k (suc n) l
more_one k n l = by_kind (λ k. more k n (with_one k l) ≡ more k (suc n) l) (rw (add_assoc, one-add)) (rw (add_assoc, one-add)) (rw (add_assoc, one-add)) k

module _ (first : State) where
  -- n more of a kind have room
  record Free (k : ShapeKind) (n : ℕ) (l : Layout) : Type 0 where
    be : Can l
    due : stage_number l.stage ≡ stage_due k
    not_last : stage_number l.stage < 3
    room : shapes_in k l + n ≤ most_shapes
    in_ids : slot_count l + n * size_of k ≤ length first.ids
    in_values : slot_count l + n * size_of k ≤ length first.values
    left : first.next + (slot_count l + n * size_of k) ≤ ids_end

  free_fits : (k : ShapeKind) (n : ℕ) (xs : List Figure) (s : State) → Kept first xs s → Free k (suc n) s.layout → Fits k s.layout s.next (length s.ids) (length s.values)
  free_fits k n xs s h f = let e = suc-mul n (size_of k) in search rules

  free_more : (k : ShapeKind) (n : ℕ) (l : Layout) → Free k (suc n) l → Free k n (with_one k l)
  free_more k n l = by_kind (λ k. Free k (suc n) l → Free k n (with_one k l)) (λ f. search rules) (λ f. search rules) (λ f. search rules) k

  -- shapes of a kind, and `done` after them, with whatever follows
  record Leg (k : ShapeKind) (shapes ys : List Figure) (s : State) : Type 0 where
    last : State
    layout_is : last.layout ≡ stepped (more k (length shapes) s.layout)
    keeps : Kept first (ys ++ shapes) last
    took : (rest : List Act) → taken (map push shapes ++ (done ∷ rest)) s ≡ shapes ++ taken rest last
    went : (rest : List Act) → run (map push shapes ++ (done ∷ rest)) s ≡ run rest last

  module _ {X : Type 0} (make : X → Figure) (k : ShapeKind) (is : (x : X) → kind_of (make x) ≡ k) where
    leg : (xs : List X) (ys : List Figure) (s : State) → Kept first ys s → Free k (length xs) s.layout → Leg k (map make xs) ys s
    unfolding run taken answered
    leg [] ys s h f =
        record {
          last = act done s;
          layout_is = answered_passed reason_number (λ r. s.layout) (done_told s.layout) (stepped s.layout) (done_passes _ (can_be _ f.be) (λ e. omega (arith, f.not_last))) ∙ ap stepped (more_none k s.layout);
          keeps = kept_act first done ys s h;
          took = λ rest. refl;
          went = λ rest. refl;
        }
    leg (x ∷ xs) ys s h f =
        let e = is x in
        let t = free_fits k (length xs) ys s h f in
        let c : told_in (kind_of (make x)) s ≡ passed = rw e (fits_passes _ _ _ _ _ (can_be _ f.be) t) in
        let s' = filled (kind_of (make x)) (components (make x)) s in
        let next = leg xs (ys ++ (make x ∷ [])) s' (kept_filled first (make x) ys s h (rw e t)) (rw e (free_more k (length xs) s.layout f)) in
        record {
          last = next.last;
          layout_is = next.layout_is ∙ rw e (ap stepped (more_one k (length (map make xs)) s.layout));
          keeps = rw append_assoc at next.keeps;
          took = λ rest. rw c (ap (λ (z : List Figure). make x ∷ z) (next.took rest));
          went = λ rest. ap (run (map push (map make xs) ++ (done ∷ rest))) (answered_passed reason_number (λ r. s) (told_in (kind_of (make x)) s) _ c) ∙ next.went rest;
        }

module _ (next : ℕ) (ids : List ℕ) (values : List Float) (ps : List Point) (cs : List Circle) (xs : List Arc) (room : RunRoom (state empty next ids values) (length ps) (length cs) (length xs)) where
  abbrev first : State
  first = state empty next ids values

  after_points : Leg first K.Point (map point ps) [] first
  after_points = leg first point K.Point (λ p. refl) ps [] first (kept_empty next ids values) (search rules)

  after_circles : Leg first K.Circle (map circle cs) (map point ps) after_points.last
  after_circles =
      let n = length-map ps point in
      leg first circle K.Circle (λ c. refl) cs (map point ps) after_points.last after_points.keeps (rw after_points.layout_is (search rules))

  after_arcs : Leg first K.Arc (map arc xs) (map point ps ++ map circle cs) after_circles.last
  after_arcs =
      let n = length-map ps point in
      let m = length-map cs circle in
      leg first arc K.Arc (λ a. refl) xs (map point ps ++ map circle cs) after_circles.last after_circles.keeps
      (rw (after_circles.layout_is, after_points.layout_is) (search rules))

  ends : run (run_of ps cs xs) first ≡ after_arcs.last
  unfolding run
  ends = after_points.went _ ∙ after_circles.went _ ∙ after_arcs.went []

  pub all_in : AllIn first ps cs xs
  unfolding taken
  all_in = record {
    all_taken = after_points.took _ ∙ ap (λ (z : List Figure). map point ps ++ z) (after_circles.took _ ∙ ap (λ (z : List Figure). map circle cs ++ z) (after_arcs.took [] ∙ append-nil (map arc xs)));
    layout_is = ap (λ (s : State). s.layout) ends ∙ after_arcs.layout_is ∙ rw (after_circles.layout_is, after_points.layout_is, length-map ps point, length-map cs circle, length-map xs arc) (simp zero-add);
    all_laid = rw ends (kept_laid first _ _ (rw append_assoc at after_arcs.keeps));
  }
