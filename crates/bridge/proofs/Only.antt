-- The promise of each function, as its source states it, determines its code, the numbers told, and what each lent thing holds at last: the library's own promise
-- determines the answer, and the answer determines the rest. Assumes nothing.
use mathlib.Core.Path.{◌≡◌, ◌∙◌, ap}
use mathlib.Core.Bool.{Bool}
use mathlib.Core.List.{List}
use Prim.Native.Nat.{ℕ}
use lib.Ieee.{Float}
use borrow.Fn.Kinds.{ended_of}
use Rattle.ground.proofs.Determined.{Settled, by_equation}
use Rattle.reader.specs.Page.{Reads}
use Rattle.layout.specs.declared.ShapeKind.{ShapeKind}
use Rattle.layout.specs.Push.{State, Fills}
use Rattle.bridge.specs.declared.told.Told.{Told}
use Rattle.bridge.specs.Told.{Tells, reading_told, pushed_told}
use Rattle.bridge.proofs.pages.hunposeto_read.Kinds as read_kinds
use Rattle.bridge.proofs.pages.hunposeto_read.Reads as read
use Rattle.bridge.proofs.pages.hunposeto_read_whole.Kinds as read_whole_kinds
use Rattle.bridge.proofs.pages.hunposeto_read_whole.Reads as read_whole
use Rattle.bridge.proofs.pages.hunposeto_label.Kinds as label_kinds
use Rattle.bridge.proofs.pages.hunposeto_label.Reads as label
use Rattle.bridge.proofs.pages.hunposeto_angle.Kinds as angle_kinds
use Rattle.bridge.proofs.pages.hunposeto_angle.Reads as angle
use Rattle.bridge.proofs.pages.hunposeto_check.Kinds as check_kinds
use Rattle.bridge.proofs.pages.hunposeto_check.Reads as check
use Rattle.bridge.proofs.pages.hunposeto_lower.Kinds as lower_kinds
use Rattle.bridge.proofs.pages.hunposeto_lower.Reads as lower
use Rattle.bridge.proofs.shapes.hunposeto_push_point.Kinds as push_point_kinds
use Rattle.bridge.proofs.shapes.hunposeto_push_point.Reads as push_point
use Rattle.bridge.proofs.shapes.hunposeto_push_circle.Kinds as push_circle_kinds
use Rattle.bridge.proofs.shapes.hunposeto_push_circle.Reads as push_circle
use Rattle.bridge.proofs.shapes.hunposeto_push_arc.Kinds as push_arc_kinds
use Rattle.bridge.proofs.shapes.hunposeto_push_arc.Reads as push_arc
use Rattle.bridge.proofs.shapes.hunposeto_done.Kinds as done_kinds
use Rattle.bridge.proofs.shapes.hunposeto_done.Reads as done
use Rattle.bridge.proofs.shapes.hunposeto_point_ids.Kinds as point_ids_kinds
use Rattle.bridge.proofs.shapes.hunposeto_point_ids.Reads as point_ids
use Rattle.bridge.proofs.shapes.hunposeto_circle_ids.Kinds as circle_ids_kinds
use Rattle.bridge.proofs.shapes.hunposeto_circle_ids.Reads as circle_ids
use Rattle.bridge.proofs.shapes.hunposeto_arc_ids.Kinds as arc_ids_kinds
use Rattle.bridge.proofs.shapes.hunposeto_arc_ids.Reads as arc_ids
use Rattle.bridge.proofs.shapes.hunposeto_arc_slot_ids.Kinds as arc_slot_ids_kinds
use Rattle.bridge.proofs.shapes.hunposeto_arc_slot_ids.Reads as arc_slot_ids
use Rattle.bridge.proofs.shapes.hunposeto_point.Kinds as point_kinds
use Rattle.bridge.proofs.shapes.hunposeto_point.Reads as point
use Rattle.bridge.proofs.shapes.hunposeto_circle.Kinds as circle_kinds
use Rattle.bridge.proofs.shapes.hunposeto_circle.Reads as circle
use Rattle.bridge.proofs.shapes.hunposeto_arc.Kinds as arc_kinds
use Rattle.bridge.proofs.shapes.hunposeto_arc.Reads as arc

-- ---- what is told

-- two answers that are one tell the same code and numbers
same_told : {A : Type 0} {P Q : A → Type 0} {t : A → Told} {c d : ℕ} {m n : List ℕ} (p : Tells P t c m) (q : Tells Q t d n) → p.answer ≡ q.answer → (c ≡ d) × (m ≡ n)
same_told {t = t} p q e =
    let same = by_equation (p.is ∙ ap t e) q.is in
    (ap (λ r. r.code) same, ap (λ r. r.parts) same)

-- an answer by an equation
equal_told : {A : Type 0} {z : A} {told : A → Told} {c d : ℕ} {m n : List ℕ} → Tells (λ x. x ≡ z) told c m → Tells (λ x. x ≡ z) told d n → (c ≡ d) × (m ≡ n)
equal_told p q = same_told p q (by_equation p.promised q.promised)

-- ---- functions that change the six numbers alone

pub label_only : Settled (ended_of 3 label_kinds.ps label_kinds.r) label.Post
label_only κs a x y v w p q = let both = equal_told p q in (both.0, λ j. (tt, (tt, (tt, (both.1 j, tt)))))

pub angle_only : Settled (ended_of 3 angle_kinds.ps angle_kinds.r) angle.Post
angle_only κs a x y v w p q = let both = equal_told p q in (both.0, λ j. (tt, (tt, (both.1 j, tt))))

pub check_only : Settled (ended_of 3 check_kinds.ps check_kinds.r) check.Post
check_only κs a x y v w p q = let both = equal_told p q in (both.0, λ j. (tt, (tt, (both.1 j, tt))))

pub done_only : Settled (ended_of 1 done_kinds.ps done_kinds.r) done.Post
done_only κs a x y v w p q = let both = equal_told p q in (both.0, λ j. (tt, (tt, (tt, (tt, (both.1 j, tt))))))

pub point_ids_only : Settled (ended_of 2 point_ids_kinds.ps point_ids_kinds.r) point_ids.Post
point_ids_only κs a x y v w p q = let both = equal_told p q in (both.0, λ j. (tt, (tt, (tt, (tt, (tt, (tt, (both.1 j, tt))))))))

pub circle_ids_only : Settled (ended_of 2 circle_ids_kinds.ps circle_ids_kinds.r) circle_ids.Post
circle_ids_only κs a x y v w p q = let both = equal_told p q in (both.0, λ j. (tt, (tt, (tt, (tt, (tt, (tt, (both.1 j, tt))))))))

pub arc_ids_only : Settled (ended_of 2 arc_ids_kinds.ps arc_ids_kinds.r) arc_ids.Post
arc_ids_only κs a x y v w p q = let both = equal_told p q in (both.0, λ j. (tt, (tt, (tt, (tt, (tt, (tt, (both.1 j, tt))))))))

pub arc_slot_ids_only : Settled (ended_of 2 arc_slot_ids_kinds.ps arc_slot_ids_kinds.r) arc_slot_ids.Post
arc_slot_ids_only κs a x y v w p q = let both = equal_told p q in (both.0, λ j. (tt, (tt, (tt, (tt, (tt, (tt, (both.1 j, tt))))))))

pub point_only : Settled (ended_of 2 point_kinds.ps point_kinds.r) point.Post
point_only κs a x y v w p q = let both = equal_told p q in (both.0, λ j. (tt, (tt, (tt, (tt, (tt, (tt, (both.1 j, tt))))))))

pub circle_only : Settled (ended_of 2 circle_kinds.ps circle_kinds.r) circle.Post
circle_only κs a x y v w p q = let both = equal_told p q in (both.0, λ j. (tt, (tt, (tt, (tt, (tt, (tt, (both.1 j, tt))))))))

pub arc_only : Settled (ended_of 2 arc_kinds.ps arc_kinds.r) arc.Post
arc_only κs a x y v w p q = let both = equal_told p q in (both.0, λ j. (tt, (tt, (tt, (tt, (tt, (tt, (both.1 j, tt))))))))

-- ---- readings

reads_told : {whole : Bool} {s d d' d'' m n : List ℕ} {c c' : ℕ} → Tells (λ x. Reads whole s d x d') reading_told c m → Tells (λ x. Reads whole s d x d'') reading_told c' n
    → (c ≡ c') × (d' ≡ d'') × (m ≡ n)
reads_told p q =
    let both = same_told p q (by_equation p.promised.told q.promised.told) in
    (both.0, by_equation p.promised.buffer q.promised.buffer, both.1)

pub read_only : Settled (ended_of 3 read_kinds.ps read_kinds.r) read.Post
read_only κs a x y v w p q = let all = reads_told p q in (all.0, λ j. (tt, (all.1 j, (all.2 j, tt))))

pub read_whole_only : Settled (ended_of 3 read_whole_kinds.ps read_whole_kinds.r) read_whole.Post
read_whole_only κs a x y v w p q = let all = reads_told p q in (all.0, λ j. (tt, (all.1 j, (all.2 j, tt))))

-- ---- lowering

pub lower_only : Settled (ended_of 6 lower_kinds.ps lower_kinds.r) lower.Post
lower_only κs a x y v w p q =
    let both = same_told p q (by_equation p.promised.answer q.promised.answer) in
    let ids = by_equation p.promised.ids_are q.promised.ids_are in
    let values = by_equation p.promised.values_are q.promised.values_are in
    let rows = by_equation p.promised.rows_are q.promised.rows_are in
    (both.0, λ j. (tt, (tt, (tt, (ids j, (values j, (rows j, (both.1 j, tt))))))))

-- ---- pushes

push_told : {k : ShapeKind} {vs : List Float} {s : State} {c d : ℕ} {ids ids' : List ℕ} {values values' : List Float} {m n : List ℕ}
    → Tells (λ x. Fills k vs s x ids values) pushed_told c m → Tells (λ x. Fills k vs s x ids' values') pushed_told d n → (c ≡ d) × (ids ≡ ids') × (values ≡ values') × (m ≡ n)
push_told p q =
    let both = same_told p q (by_equation p.promised.answer q.promised.answer) in
    (both.0, by_equation p.promised.ids_are q.promised.ids_are, by_equation p.promised.values_are q.promised.values_are, both.1)

pub push_point_only : Settled (ended_of 3 push_point_kinds.ps push_point_kinds.r) push_point.Post
push_point_only κs a x y v w p q = let e = push_told p q in (e.0, λ j. (tt, (tt, (tt, (tt, (tt, (e.1 j, (e.2 j, (tt, (tt, (e.3 j, tt)))))))))))

pub push_circle_only : Settled (ended_of 3 push_circle_kinds.ps push_circle_kinds.r) push_circle.Post
push_circle_only κs a x y v w p q = let e = push_told p q in (e.0, λ j. (tt, (tt, (tt, (tt, (tt, (e.1 j, (e.2 j, (tt, (tt, (tt, (e.3 j, tt))))))))))))

pub push_arc_only : Settled (ended_of 3 push_arc_kinds.ps push_arc_kinds.r) push_arc.Post
push_arc_only κs a x y v w p q = let e = push_told p q in (e.0, λ j. (tt, (tt, (tt, (tt, (tt, (e.1 j, (e.2 j, (tt, (tt, (tt, (tt, (tt, (tt, (e.3 j, tt)))))))))))))))
