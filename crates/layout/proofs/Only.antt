-- The promise of each public function, as its source states it, determines its answer and what each lent thing holds at last: each is an equation with what the entry values give.
-- Assumes nothing.
use mathlib.Core.Path.{◌≡◌, refl}
use mathlib.Core.List.{List}
use Prim.Native.Nat.{ℕ}
use lib.Ieee.{Float}
use borrow.Fn.Kinds.{ended_of}
use denote.RattleType.{RattleType}
use denote.Triple.Clauses.{Ended}
use denote.Param.Laws.{Laws, IsCopy}
use denote.Struct.Field.{u32-field, f64-field}
use mir.Syntax.{Dict}
use Rattle.std.specs.Prelude.{Result}
use Rattle.std.specs.declared.clone.Clone as clone
use Rattle.refusal.specs.declared.Refusal.{Refusal}
use Rattle.ground.proofs.Determined.{Determined, by_equation, Promise, Settled, Says}
use Rattle.layout.specs.declared.ShapeKind.{ShapeKind}
use Rattle.layout.specs.declared.Layout.{Layout}
use Rattle.layout.specs.declared.Counter.{Counter}
use Rattle.layout.specs.declared.Pushed.{Pushed}
use Rattle.layout.specs.declared.shape.Shape as shape
use Rattle.layout.specs.declared.shape.InSlots as in_slots
use Rattle.layout.specs.Slots.{Figure, point, circle, arc}
use Rattle.layout.specs.Push.{State, Fills, PushLent}
use Rattle.layout.proofs.Layout.new.Kinds as new_kinds
use Rattle.layout.proofs.Layout.new.Reads as new
use Rattle.layout.proofs.Layout.done.Kinds as done_kinds
use Rattle.layout.proofs.Layout.done.Reads as done
use Rattle.layout.proofs.Layout.look.Kinds as look_kinds
use Rattle.layout.proofs.Layout.look.Reads as look
use Rattle.layout.proofs.Layout.arc_ids.Kinds as arc_ids_kinds
use Rattle.layout.proofs.Layout.arc_ids.Reads as arc_ids
use Rattle.layout.proofs.Layout.push.Kinds as push_kinds
use Rattle.layout.proofs.Layout.push.Reads as push
use Rattle.layout.proofs.Stage.number.Kinds as number_kinds
use Rattle.layout.proofs.Stage.number.Reads as number
use Rattle.layout.proofs.Stage.numbered.Kinds as numbered_kinds
use Rattle.layout.proofs.Stage.numbered.Reads as numbered
use Rattle.layout.specs.contracts.lent.push as lent_push
use Rattle.layout.specs.contracts.Point.{the_row as point_row}
use Rattle.layout.specs.contracts.PointVars.{the_row as point_vars_row}
use Rattle.layout.specs.contracts.shape.PointShape.TheImpl as point_shape
use Rattle.layout.specs.contracts.shape.PointInSlotsF64.TheImpl as point_slots
use Rattle.layout.specs.contracts.vars.PointVarsInSlotsU32.TheImpl as point_vars_slots
use Rattle.layout.specs.contracts.Circle.{the_row as circle_row}
use Rattle.layout.specs.contracts.CircleVars.{the_row as circle_vars_row}
use Rattle.layout.specs.contracts.shape.CircleShape.TheImpl as circle_shape
use Rattle.layout.specs.contracts.shape.CircleInSlotsF64.TheImpl as circle_slots
use Rattle.layout.specs.contracts.vars.CircleVarsInSlotsU32.TheImpl as circle_vars_slots
use Rattle.layout.specs.contracts.Arc.{the_row as arc_row}
use Rattle.layout.specs.contracts.ArcVars.{the_row as arc_vars_row}
use Rattle.layout.specs.contracts.shape.ArcShape.TheImpl as arc_shape
use Rattle.layout.specs.contracts.shape.ArcInSlotsF64.TheImpl as arc_slots
use Rattle.layout.specs.contracts.vars.ArcVarsInSlotsU32.TheImpl as arc_vars_slots

-- ---- functions that change nothing

pub new_only : Determined 0 new_kinds.ps new_kinds.r new.Post
new_only κs a x y e f p q = by_equation p q

pub done_only : Determined 0 done_kinds.ps done_kinds.r done.Post
done_only κs a x y e f p q = by_equation p q

pub stage_number_only : Determined 0 number_kinds.ps number_kinds.r number.Post
stage_number_only κs a x y e f p q = by_equation p q

pub stage_numbered_only : Determined 0 numbered_kinds.ps numbered_kinds.r numbered.Post
stage_numbered_only κs a x y e f p q = by_equation p q

pub arc_ids_only : Determined 1 arc_ids_kinds.ps arc_ids_kinds.r arc_ids.Post
arc_ids_only κs a x y e f p q = by_equation p q

-- ---- lookups and readouts, of whatever stands in slots

-- the promise of `look`, of a T in slots of an X, settles its answer
abbrev pub LookDetermined : (X T : RattleType) → in_slots.Ghosts T.Denot X.Denot → Dict → Type 2
LookDetermined X T slots dict =
    (x_laws : Laws X) (t_laws : Laws T) (t_copy : IsCopy T) (clone : clone.Ghosts T.Denot) (clone_dict : Dict)
    → Determined 3 (look_kinds.ps X T x_laws t_laws t_copy) (look_kinds.r X T x_laws t_laws t_copy) (look.Post X T x_laws t_laws t_copy slots dict clone clone_dict)

pub look_only : (X T : RattleType) (slots : in_slots.Ghosts T.Denot X.Denot) (dict : Dict) → LookDetermined X T slots dict
look_only X T slots dict x_laws t_laws t_copy clone clone_dict κs a x y e f p q = by_equation p q

pub point_ids_only : LookDetermined u32-field.row point_vars_row point_vars_slots.ghosts point_vars_slots.dict
point_ids_only = look_only u32-field.row point_vars_row point_vars_slots.ghosts point_vars_slots.dict

pub circle_ids_only : LookDetermined u32-field.row circle_vars_row circle_vars_slots.ghosts circle_vars_slots.dict
circle_ids_only = look_only u32-field.row circle_vars_row circle_vars_slots.ghosts circle_vars_slots.dict

pub arc_slot_ids_only : LookDetermined u32-field.row arc_vars_row arc_vars_slots.ghosts arc_vars_slots.dict
arc_slot_ids_only = look_only u32-field.row arc_vars_row arc_vars_slots.ghosts arc_vars_slots.dict

pub read_point_only : LookDetermined f64-field.row point_row point_slots.ghosts point_slots.dict
read_point_only = look_only f64-field.row point_row point_slots.ghosts point_slots.dict

pub read_circle_only : LookDetermined f64-field.row circle_row circle_slots.ghosts circle_slots.dict
read_circle_only = look_only f64-field.row circle_row circle_slots.ghosts circle_slots.dict

pub read_arc_only : LookDetermined f64-field.row arc_row arc_slots.ghosts arc_slots.dict
read_arc_only = look_only f64-field.row arc_row arc_slots.ghosts arc_slots.dict

-- ---- pushes, of any shape

-- what the two slices hold at last, among the five parameters
abbrev slices : List ℕ → List Float → Unit {0} × (Unit {0} × (List ℕ × (List Float × (Unit {0} × Unit {0}))))
slices ids values = (tt, (tt, (ids, (values, (tt, tt)))))

fills_only : {k : ShapeKind} {vs : List Float} {s : State} {x y : Result Pushed Refusal} {i i' : List ℕ} {v v' : List Float}
    → Fills k vs s x i v → Fills k vs s y i' v' → (x ≡ y) × (slices i v ≡ slices i' v')
fills_only p q = (cc, cc)

-- the promise of `push`, of an S, settles its answer and both slices
abbrev pub PushSettled : (S : RattleType) → shape.Ghosts S.Denot → Dict → in_slots.Ghosts S.Denot Float → Dict → Type 2
PushSettled S shape shape_dict slots slots_dict =
    (laws : Laws S) (copy : IsCopy S) (clone : clone.Ghosts S.Denot) (clone_dict : Dict)
    → Settled (ended_of 3 (push_kinds.ps S laws copy) (push_kinds.r S laws copy)) (push.Post S laws copy shape shape_dict slots slots_dict clone clone_dict)

pub push_only : (S : RattleType) (shape : shape.Ghosts S.Denot) (shape_dict : Dict) (slots : in_slots.Ghosts S.Denot Float) (slots_dict : Dict) → PushSettled S shape shape_dict slots slots_dict
push_only S shape shape_dict slots slots_dict laws copy clone clone_dict κs a x y v w p q = fills_only p q

pub push_point_only : PushSettled point_row point_shape.ghosts point_shape.dict point_slots.ghosts point_slots.dict
push_point_only = push_only point_row point_shape.ghosts point_shape.dict point_slots.ghosts point_slots.dict

pub push_circle_only : PushSettled circle_row circle_shape.ghosts circle_shape.dict circle_slots.ghosts circle_slots.dict
push_circle_only = push_only circle_row circle_shape.ghosts circle_shape.dict circle_slots.ghosts circle_slots.dict

pub push_arc_only : PushSettled arc_row arc_shape.ghosts arc_shape.dict arc_slots.ghosts arc_slots.dict
push_arc_only = push_only arc_row arc_shape.ghosts arc_shape.dict arc_slots.ghosts arc_slots.dict

-- ids put one after another
-- ---- pushes with the counter lent: what the source says, and that it determines all

-- what the counter and the two slices hold at last, among the five parameters
abbrev counted : Counter → List ℕ → List Float → Unit {0} × (Counter × (List ℕ × (List Float × (Unit {0} × Unit {0}))))
counted c ids values = (tt, (c, (ids, (values, (tt, tt)))))

lent_only : {shape : Figure} {l : Layout} {c d d' : Counter} {ids i i' : List ℕ} {values v v' : List Float} {x y : Result Pushed Refusal}
    → PushLent shape l c ids values x d i v → PushLent shape l c ids values y d' i' v' → (x ≡ y) × (counted d i v ≡ counted d' i' v')
lent_only p q = (cc, cc)

module _ (S : RattleType) (shape : shape.Ghosts S.Denot) (shape_dict : Dict) (slots : in_slots.Ghosts S.Denot Float) (slots_dict : Dict) (clone : clone.Ghosts S.Denot) (clone_dict : Dict) where
  abbrev pub lent_push_promise : Promise (lent_push.ended S shape shape_dict slots slots_dict clone clone_dict)
  lent_push_promise κs a x e = PushLent (shape.figure a.1.1.1.1.0) a.0 a.1.0.now a.1.1.0.now a.1.1.1.0.now x e.1.0.now e.1.1.0.now e.1.1.1.0.now

  pub lent_push_says : Says (lent_push.ended S shape shape_dict slots slots_dict clone clone_dict) lent_push_promise (λ M 𝓤 𝓛. lent_push.clauses S shape shape_dict slots slots_dict clone clone_dict 𝓛)
  lent_push_says M 𝓤 𝓛 memory run κs a g x e = refl

  pub lent_push_only : Settled (lent_push.ended S shape shape_dict slots slots_dict clone clone_dict) lent_push_promise
  lent_push_only κs a x y v w p q = lent_only p q

module _ (clone : clone.Ghosts point_row.Denot) (clone_dict : Dict) where
  abbrev pub lent_point : Ended
  lent_point = lent_push.ended point_row point_shape.ghosts point_shape.dict point_slots.ghosts point_slots.dict clone clone_dict

  abbrev pub lent_point_promise : Promise lent_point
  lent_point_promise κs a x e = PushLent (point a.1.1.1.1.0) a.0 a.1.0.now a.1.1.0.now a.1.1.1.0.now x e.1.0.now e.1.1.0.now e.1.1.1.0.now

  pub lent_point_says : Says lent_point lent_point_promise (λ M 𝓤 𝓛. lent_push.clauses point_row point_shape.ghosts point_shape.dict point_slots.ghosts point_slots.dict clone clone_dict 𝓛)
  lent_point_says M 𝓤 𝓛 memory run κs a g x e = refl

  pub lent_point_only : Settled lent_point lent_point_promise
  lent_point_only κs a x y v w p q = lent_only p q

module _ (clone : clone.Ghosts circle_row.Denot) (clone_dict : Dict) where
  abbrev pub lent_circle : Ended
  lent_circle = lent_push.ended circle_row circle_shape.ghosts circle_shape.dict circle_slots.ghosts circle_slots.dict clone clone_dict

  abbrev pub lent_circle_promise : Promise lent_circle
  lent_circle_promise κs a x e = PushLent (circle a.1.1.1.1.0) a.0 a.1.0.now a.1.1.0.now a.1.1.1.0.now x e.1.0.now e.1.1.0.now e.1.1.1.0.now

  pub lent_circle_says : Says lent_circle lent_circle_promise (λ M 𝓤 𝓛. lent_push.clauses circle_row circle_shape.ghosts circle_shape.dict circle_slots.ghosts circle_slots.dict clone clone_dict 𝓛)
  lent_circle_says M 𝓤 𝓛 memory run κs a g x e = refl

  pub lent_circle_only : Settled lent_circle lent_circle_promise
  lent_circle_only κs a x y v w p q = lent_only p q

module _ (clone : clone.Ghosts arc_row.Denot) (clone_dict : Dict) where
  abbrev pub lent_arc : Ended
  lent_arc = lent_push.ended arc_row arc_shape.ghosts arc_shape.dict arc_slots.ghosts arc_slots.dict clone clone_dict

  abbrev pub lent_arc_promise : Promise lent_arc
  lent_arc_promise κs a x e = PushLent (arc a.1.1.1.1.0) a.0 a.1.0.now a.1.1.0.now a.1.1.1.0.now x e.1.0.now e.1.1.0.now e.1.1.1.0.now

  pub lent_arc_says : Says lent_arc lent_arc_promise (λ M 𝓤 𝓛. lent_push.clauses arc_row arc_shape.ghosts arc_shape.dict arc_slots.ghosts arc_slots.dict clone clone_dict 𝓛)
  lent_arc_says M 𝓤 𝓛 memory run κs a g x e = refl

  pub lent_arc_only : Settled lent_arc lent_arc_promise
  lent_arc_only κs a x y v w p q = lent_only p q
