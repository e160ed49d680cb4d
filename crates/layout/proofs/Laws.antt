-- The tests of a layout, case by case, for a shape of any kind. Assumes nothing.
use mathlib.Core.Path.{◌≡◌, refl, ap, ◌∙◌}
use mathlib.Core.Bool.{Bool, true, false, not, ◌&&◌, ◌||◌, and-false}
use Prim.Native.Nat.{ℕ, zero, suc, ◌+◌, ◌-◌, ◌≤◌, ◌<◌}
use native.Mathlib.Omega.{arith}
use mathlib.Core.List.{List, ◌∷◌, ◌++◌}
use lib.ListN.{length}
use lib.Ieee.{Float}
use lib.Dec.{ltb, eqb}
use Rattle.std.specs.Prelude.{Result, Ok, Err}
use borrow.Author.Tests.{le-ltb, lt-leb, eq-eqb, ne_eqb, ltb-false, leb-false, eqb-true, not-false}
use Rattle.layout.specs.declared.ShapeKind.{ShapeKind}
use Rattle.layout.specs.declared.ShapeKind.TheVariants.{Point, Circle, Arc}
use Rattle.layout.specs.declared.Layout.{Layout}
use Rattle.layout.specs.Slots.{size_of, shapes_in, with_one, slot_count, slot_of, stage_number, stage_due, most_shapes, ids_end}
use Rattle.layout.specs.Steps.{Small, next_after}
use Rattle.layout.specs.declared.Pushed.{Pushed}
use Rattle.refusal.specs.declared.Refusal.{Refusal}
use Rattle.refusal.specs.First.{passed, answered}
use Rattle.refusal.specs.Refusal.{refusal}
use Rattle.refusal.proofs.Once.{Clear, clear_passes, passed_clear, answered_first, answered_pair}
use Rattle.layout.specs.Push.{State, over, onward, told_in, filled, pushed, Fills, done_of}
use Rattle.layout.specs.Refusals.{Reason, reason_number, push_order, done_order, look_order, Rising, impossible, bars_push, bars_done, bars_look, push_told, done_told, look_told}
use Rattle.layout.proofs.Placed.{as_refused, placed}

-- what holds of each kind holds of any
pub by_kind : (P : ShapeKind → Type 0) → P Point → P Circle → P Arc → (k : ShapeKind) → P k
by_kind P p c a Point = p
by_kind P p c a Circle = c
by_kind P p c a Arc = a

-- ---- a layout that can be

neither : (a b : Bool) → (a || b) ≡ false → (a ≡ false) × (b ≡ false)
neither true b e = (cc, cc)
neither false b e = (refl, e)

never_early : (m stage due : ℕ) → (0 < m → due ≤ stage) → (ltb 0 m && ltb stage due) ≡ false
never_early zero stage due h = refl
never_early (suc m) stage due h = rw (le-ltb stage due (h (omega arith))) (and-false (ltb 0 (suc m)))

-- the tests of 20, as facts
pub record Can (l : Layout) : Type 0 where
  pub counts : Small l
  pub circles_late : 0 < l.circles → 1 ≤ stage_number l.stage
  pub arcs_late : 0 < l.arcs → 2 ≤ stage_number l.stage

pub can_be : (l : Layout) → Can l → impossible l ≡ false
unfolding impossible
can_be l h =
    rw (le-ltb _ _ h.counts.points, le-ltb _ _ h.counts.circles, le-ltb _ _ h.counts.arcs, never_early _ _ 1 h.circles_late, never_early _ _ 2 h.arcs_late)

pub small : (l : Layout) → impossible l ≡ false → Small l
unfolding impossible
small l e =
    let two = neither _ _ (neither _ _ (neither _ _ e).0).0 in
    let one = neither _ _ two.0 in
    record { points = ltb-false _ _ one.0; circles = ltb-false _ _ one.1; arcs = ltb-false _ _ two.1 }

pub count_small : (k : ShapeKind) (l : Layout) → Small l → shapes_in k l ≤ most_shapes
count_small k l s = by_kind (λ k. shapes_in k l ≤ most_shapes) s.points s.circles s.arcs k

-- the refusal that tells a reason
abbrev told : Reason → Refusal
told r = refusal (reason_number r) 0

-- ---- a push

-- the first of the tests that passes is told
pub push_first : (k : ShapeKind) (l : Layout) (next ids values : ℕ) (before : List Reason) (r : Reason) (after : List Reason) → push_order ≡ before ++ (r ∷ after)
    → Clear before (bars_push k l next ids values) → bars_push k l next ids values r ≡ true
    → ◌≡◌ {A = Result ℕ Refusal} (Err (told r)) (answered reason_number Err (push_told k l next ids values) (Ok (slot_count l)))
unfolding push_told
push_first k l next ids values before r after o c t = rw o (answered_first reason_number Err _ (bars_push k l next ids values) before r after c t)

-- what is known where a shape is taken
pub record Fits (k : ShapeKind) (l : Layout) (next ids values : ℕ) : Type 0 where
  pub counts : Small l
  pub due : stage_number l.stage ≡ stage_due k
  pub room : shapes_in k l < most_shapes
  pub in_ids : slot_count l + size_of k ≤ ids
  pub in_values : slot_count l + size_of k ≤ values
  pub left : size_of k ≤ ids_end - next

pub fits : (k : ShapeKind) (l : Layout) (next ids values : ℕ) → push_told k l next ids values ≡ passed → Fits k l next ids values
unfolding push_told
fits k l next ids values e =
    let c = passed_clear (bars_push k l next ids values) push_order e in
    let long = neither (ltb ids (slot_count l + size_of k)) (ltb values (slot_count l + size_of k)) c.1.1.1.0 in
    let due : stage_number l.stage ≡ stage_due k = eqb-true _ _ (not-false _ c.1.0) in
    omega (arith, small l c.0, leb-false, ltb-false)

-- where no test passes a push is taken
pub push_passes : (k : ShapeKind) (l : Layout) (next ids values : ℕ) → Clear push_order (bars_push k l next ids values) → push_told k l next ids values ≡ passed
unfolding push_told
push_passes k l next ids values c = clear_passes (bars_push k l next ids values) push_order c

pub fits_passes : (k : ShapeKind) (l : Layout) (next ids values : ℕ) → impossible l ≡ false → Fits k l next ids values → push_told k l next ids values ≡ passed
fits_passes k l next ids values e f =
    let at_stage : not (eqb (stage_number l.stage) (stage_due k)) ≡ false = rw (eq-eqb _ _ f.due) in
    push_passes k l next ids values
    (e, (at_stage, (lt-leb _ _ f.room, (rw (le-ltb _ _ f.in_ids, le-ltb _ _ f.in_values), (le-ltb _ _ f.left, tt)))))

module _ (k : ShapeKind) (vs : List Float) (s : State) (place : Result ℕ Refusal) (asked : place ≡ answered reason_number Err (told_in k s) (Ok (slot_count s.layout))) where
  -- a refusal of the place is one of the push, which changes nothing
  pub push_refused : (r : Refusal) → place ≡ Err r → Fills k vs s (Err r) s.ids s.values
  push_refused r e =
      let same : s ≡ pushed k vs s = as_refused _ _ _ asked (λ r. s) (filled k vs s) r e in
      record { answer = as_refused _ _ _ asked _ _ r e; ids_are = ap (λ (z : State). z.ids) same; values_are = ap (λ (z : State). z.values) same }

  -- at the place the ids and the components are laid over the slices: n of each
  pub push_filled : (at n : ℕ) → place ≡ Ok at → n ≡ length vs → (l : Layout) (ids : List ℕ) (values : List Float)
      → l ≡ with_one k s.layout → ids ≡ over s.ids at (onward s.next n) → values ≡ over s.values at vs
      → Fills k vs s (Ok (record { layout = l; next = s.next + n })) ids values
  unfolding answered
  push_filled at n e long l ids values l-is ids-is values-is =
      let here = placed (told_in k s) (slot_count s.layout) place asked at e in
      record { answer = cc; ids_are = cc; values_are = cc }

-- the next id that an answer says is the state's
pub next_is : (k : ShapeKind) (vs : List Float) (s : State) (r : Result Pushed Refusal) (ids : List ℕ) (values : List Float) → Fills k vs s r ids values → next_after r s.next ≡ (pushed k vs s).next
next_is k vs s r ids values f =
    ap (λ (z : Result Pushed Refusal). next_after z s.next) f.answer
    ∙ answered_pair reason_number (λ (z : Result Pushed Refusal) (t : State). next_after z s.next ≡ t.next) _ _ (told_in k s) _ _ (λ r. refl) (λ c. refl)

-- that of a good answer, and that of the state, which a refusal leaves
pub good_next : (k : ShapeKind) (vs : List Float) (s : State) (p : Pushed) (ids : List ℕ) (values : List Float) → Fills k vs s (Ok p) ids values → p.next ≡ (pushed k vs s).next
good_next k vs s p = next_is k vs s (Ok p)

pub refused_next : (k : ShapeKind) (vs : List Float) (s : State) (r : Refusal) (ids : List ℕ) (values : List Float) → Fills k vs s (Err r) ids values → s.next ≡ (pushed k vs s).next
refused_next k vs s r = next_is k vs s (Err r)

-- ---- `done`

-- the first of the tests that passes is told
pub done_first : (l : Layout) (before : List Reason) (r : Reason) (after : List Reason) → done_order ≡ before ++ (r ∷ after)
    → Clear before (bars_done l) → bars_done l r ≡ true → Err (told r) ≡ done_of l
unfolding done_of done_told
done_first l before r after o c t = rw o (answered_first reason_number Err _ (bars_done l) before r after c t)

pub done_passes : (l : Layout) → impossible l ≡ false → (stage_number l.stage ≡ 3 → ⊥) → done_told l ≡ passed
unfolding done_told
done_passes l e n = clear_passes (bars_done l) done_order (e, (ne_eqb _ _ n, tt))

-- ---- a lookup

-- the first of the tests that passes is told
pub look_first : (k : ShapeKind) (l : Layout) (len i : ℕ) (before : List Reason) (r : Reason) (after : List Reason) → look_order ≡ before ++ (r ∷ after)
    → Clear before (bars_look k l len i) → bars_look k l len i r ≡ true → ◌≡◌ {A = Result ℕ Refusal} (Err (told r)) (answered reason_number Err (look_told k l len i) (Ok (slot_of k l i)))
unfolding look_told
look_first k l len i before r after o c t = rw o (answered_first reason_number Err _ (bars_look k l len i) before r after c t)

-- the slots of a shape that is counted lie among the layout's
pub slot_inside : (k : ShapeKind) (l : Layout) (i : ℕ) → i < shapes_in k l → slot_of k l i + size_of k ≤ slot_count l
slot_inside k l i = by_kind (λ k. i < shapes_in k l → slot_of k l i + size_of k ≤ slot_count l) (λ h. omega arith) (λ h. omega arith) (λ h. omega arith) k

-- what is known where a shape is found
pub record Found (k : ShapeKind) (l : Layout) (len i : ℕ) : Type 0 where
  pub counts : Small l
  pub long : slot_count l ≤ len
  pub counted : i < shapes_in k l
  pub inside : slot_of k l i + size_of k ≤ len

pub found : (k : ShapeKind) (l : Layout) (len i : ℕ) → look_told k l len i ≡ passed → Found k l len i
unfolding look_told
found k l len i e =
    let c = passed_clear (bars_look k l len i) look_order e in
    omega (arith, small l c.0, ltb-false, leb-false, slot_inside k l i (leb-false _ _ c.1.1.0))

-- where a shape is found, its slots lie in the slice
pub look_inside : (k : ShapeKind) (l : Layout) (len i : ℕ) (place : Result ℕ Refusal) → place ≡ answered reason_number Err (look_told k l len i) (Ok (slot_of k l i)) → (at : ℕ) → place ≡ Ok at → at + size_of k ≤ len
look_inside k l len i place asked at e = let p = placed _ _ _ asked at e in omega (arith, found k l len i p.1)

pub look_passes : (k : ShapeKind) (l : Layout) (len i : ℕ) → impossible l ≡ false → slot_count l ≤ len → i < shapes_in k l → look_told k l len i ≡ passed
unfolding look_told
look_passes k l len i e h n = clear_passes (bars_look k l len i) look_order (e, (le-ltb _ _ h, (lt-leb _ _ n, tt)))

-- ---- each order is that of the numbers

pub push_rising : Rising 0 push_order
push_rising = omega arith

pub done_rising : Rising 0 done_order
done_rising = omega arith

pub look_rising : Rising 0 look_order
look_rising = omega arith
