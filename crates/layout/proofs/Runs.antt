-- After any run from an empty layout the slots hold the counter's numbers in order and the components of the shapes that were taken, and nothing past them has changed.
-- A push that is taken lays its ids and components right after the slots so far; one that is refused changes nothing. Assumes nothing.
use mathlib.Core.Path.{◌≡◌, refl, sym, ◌∙◌, ap}
use Prim.Native.Nat.{ℕ, ◌+◌, ◌<◌}
use borrow.Author.Rules.{rules}
use native.Mathlib.Omega.{arith}
use mathlib.Core.List.{List, [], ◌∷◌, ◌++◌, append_assoc, append-nil}
use lib.ListN.{length, drop, get_or, length-append, length-take, length-drop, get_or-append}
use lib.Seq.{drop_at}
use lib.Ieee.{Float, nan}
use Rattle.layout.specs.declared.ShapeKind.{ShapeKind}
use Rattle.layout.specs.declared.ShapeKind.TheVariants as K
use Rattle.layout.specs.declared.Layout.{Layout}
use Rattle.layout.specs.Slots.{Figure, point, circle, arc, kind_of, components, size_of, shapes_in, slot_count, with_one, empty}
use Rattle.layout.specs.Refusals.{reason_number, done_told}
use Rattle.layout.specs.Push.{State, state, onward, told_in, filled, stepped}
use Rattle.layout.specs.Run.{Act, push, done, act, takes, run, taken, all_components, how_many_of, Laid}
use Rattle.layout.proofs.Onward.{length_onward, get_or_onward, onward_add, over_front}
use Rattle.refusal.proofs.Once.{answered_pair}
use Rattle.layout.proofs.Laws.{by_kind, Fits, fits}

-- ---- shapes

pub components_length : (shape : Figure) → length (components shape) ≡ size_of (kind_of shape)
components_length (point p) = refl
components_length (circle c) = refl
components_length (arc a) = refl

pub all_append : (xs ys : List Figure) → all_components (xs ++ ys) ≡ all_components xs ++ all_components ys
all_append [] ys = refl
all_append (x ∷ xs) ys = rw (all_append xs ys) (sym (append_assoc (components x) (all_components xs) (all_components ys)))

pub many_append : (k : ShapeKind) (xs ys : List Figure) → how_many_of k (xs ++ ys) ≡ how_many_of k xs + how_many_of k ys
many_append k [] ys = omega arith
many_append k (x ∷ xs) ys = rw (many_append k xs ys) (omega arith)

pub slots_more : (k : ShapeKind) (l : Layout) → slot_count (with_one k l) ≡ slot_count l + size_of k
slots_more k l = by_kind (λ k. slot_count (with_one k l) ≡ slot_count l + size_of k) (omega arith) (omega arith) (omega arith) k

count_more : (k : ShapeKind) (shape : Figure) (l : Layout) → shapes_in k (with_one (kind_of shape) l) ≡ shapes_in k l + how_many_of k (shape ∷ [])
count_more k (point p) l = by_kind (λ k. shapes_in k (with_one K.Point l) ≡ shapes_in k l + how_many_of k (point p ∷ [])) refl (omega arith) (omega arith) k
count_more k (circle c) l = by_kind (λ k. shapes_in k (with_one K.Circle l) ≡ shapes_in k l + how_many_of k (circle c ∷ [])) (omega arith) refl (omega arith) k
count_more k (arc a) l = by_kind (λ k. shapes_in k (with_one K.Arc l) ≡ shapes_in k l + how_many_of k (arc a ∷ [])) (omega arith) (omega arith) refl k

-- ---- what a run keeps

-- the slices in one piece: the ids and the components so far, and the rest as it was
pub record Kept (first : State) (shapes : List Figure) (s : State) : Type 0 where
  pub counts : (k : ShapeKind) → shapes_in k s.layout ≡ how_many_of k shapes
  pub slots : length (all_components shapes) ≡ slot_count s.layout
  pub next_is : s.next ≡ first.next + length (all_components shapes)
  pub ids_are : s.ids ≡ onward first.next (length (all_components shapes)) ++ drop (length (all_components shapes)) first.ids
  pub values_are : s.values ≡ all_components shapes ++ drop (length (all_components shapes)) first.values
  pub ids_length : length s.ids ≡ length first.ids
  pub values_length : length s.values ≡ length first.values

module _ (first : State) where
  -- a push that is taken
  pub kept_filled : (shape : Figure) (xs : List Figure) (s : State) → Kept first xs s → Fits (kind_of shape) s.layout s.next (length s.ids) (length s.values)
      → Kept first (xs ++ (shape ∷ [])) (filled (kind_of shape) (components shape) s)
  kept_filled shape xs s h f =
      let vs = components shape in
      let gs = all_components xs in
      let n = components_length shape in
      let e : all_components (xs ++ (shape ∷ [])) ≡ gs ++ vs = all_append xs (shape ∷ []) ∙ ap (λ (z : List Float). gs ++ z) (append-nil vs) in
      record {
        counts = λ k. count_more k shape s.layout ∙ rw (h.counts k) (sym (many_append k xs (shape ∷ [])));
        slots = rw (e, length-append gs vs, h.slots, n) (sym (slots_more (kind_of shape) s.layout));
        next_is = rw (e, length-append gs vs) (omega (arith, h.next_is));
        ids_are = rw (e, ← h.slots, h.ids_are, h.next_is)
            (over_front (onward first.next (length gs)) (onward (first.next + length gs) (length vs)) first.ids (length gs) (length_onward _ _)
            ∙ rw (length-append gs vs, onward_add first.next (length gs) (length vs), length_onward (first.next + length gs) (length vs)));
        values_are = rw (e, ← h.slots, h.values_are) (over_front gs vs first.values (length gs) refl ∙ rw (length-append gs vs) refl);
        ids_length = simp (length-append, length-take, length-drop, length_onward) (omega (arith, n, f.in_ids, h.ids_length));
        values_length = simp (length-append, length-take, length-drop) (omega (arith, n, f.in_values, h.values_length));
      }

  pub kept_act : (a : Act) (xs : List Figure) (s : State) → Kept first xs s → Kept first (xs ++ takes a s) (act a s)
  kept_act (push shape) xs s h =
      answered_pair reason_number (λ ys z. Kept first (xs ++ ys) z) _ _ (told_in (kind_of shape) s) _ _ (λ r. rw append-nil h) (λ c. kept_filled shape xs s h (fits _ _ _ _ _ c))
  kept_act done xs s h =
      let counts = by_kind (λ k. shapes_in k (stepped s.layout) ≡ how_many_of k xs) (h.counts K.Point) (h.counts K.Circle) (h.counts K.Arc) in
      let stays : Kept first xs (state (stepped s.layout) s.next s.ids s.values) = search rules in
      answered_pair reason_number (λ (l m : Layout). Kept first (xs ++ []) (state l s.next s.ids s.values)) _ (λ r. s.layout) (done_told s.layout)
      _ s.layout (λ r. rw append-nil h) (λ c. rw append-nil stays)

  pub kept_run : (acts : List Act) (xs : List Figure) (s : State) → Kept first xs s → Kept first (xs ++ taken acts s) (run acts s)
  unfolding run taken
  kept_run [] xs s h = rw append-nil h
  kept_run (a ∷ acts) xs s h = rw (← append_assoc) (kept_run acts (xs ++ takes a s) (act a s) (kept_act a xs s h))

  -- what is kept, slot by slot
  pub kept_laid : (xs : List Figure) (s : State) → Kept first xs s → Laid first xs s
  kept_laid xs s h =
      let gs = all_components xs in
      let ids_at : (i : ℕ) → i < slot_count s.layout → get_or s.ids i 0 ≡ first.next + i
      = λ i b. rw (h.ids_are, get_or-append (onward first.next (length gs)) (drop (length gs) first.ids) 0 i (rw length_onward (omega (arith, h.slots)))) (get_or_onward first.next (length gs) i (omega (arith, h.slots))) in
      record {
        counts = h.counts;
        slots = sym h.slots;
        next_is = omega (arith, h.next_is, h.slots);
        id_at = ids_at;
        distinct = λ i j a b e. omega (arith, ids_at i a, ids_at j b);
        value_at = λ i b. rw h.values_are (get_or-append gs (drop (length gs) first.values) nan i (omega (arith, h.slots)));
        ids_rest = rw (← h.slots, h.ids_are) (drop_at (onward first.next (length gs)) (drop (length gs) first.ids) (length gs) (length_onward first.next (length gs)));
        values_rest = rw (← h.slots, h.values_are) (drop_at gs (drop (length gs) first.values) (length gs) refl);
        ids_length = h.ids_length;
        values_length = h.values_length;
      }

module _ (next : ℕ) (ids : List ℕ) (values : List Float) where
  pub kept_empty : Kept (state empty next ids values) [] (state empty next ids values)
  kept_empty = let c = by_kind (λ k. shapes_in k empty ≡ 0) refl refl refl in search rules

  pub kept : (acts : List Act) → Kept (state empty next ids values) (taken acts (state empty next ids values)) (run acts (state empty next ids values))
  kept acts = kept_run (state empty next ids values) acts [] (state empty next ids values) kept_empty
