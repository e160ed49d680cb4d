-- The counts of a drawing are the lengths of the lists that its records are picked into: each record adds to both alike. Assumes nothing.
use Rattle.drawing.specs.declared.Checked.{Checked}
use mathlib.Core.Path.{◌≡◌, refl, sym, ap, ◌∙◌}
use mathlib.Core.Bool.{Bool, true, false, cond}
use mathlib.Core.List.{List, [], ◌∷◌, map}
use Prim.Native.Nat.{ℕ, zero, suc, ◌+◌, ◌*◌, ◌≤◌, ◌<◌}
use native.Mathlib.Nat.{le_refl, add-zero}
use native.Mathlib.Omega.{arith}
use native.Mathlib.Decide.{dec_lt}
use lib.Dec.{eqb}
use borrow.Author.Tests.{eq-eqb, ne_eqb}
use lib.ListN.{length, get_or, take, drop, length-append}
use lib.Seq.{take-length, get_or_at}
use Rattle.ground.specs.Lists.{up_to}
use Rattle.refusal.proofs.Good.{held_same}
use Rattle.refusal.proofs.Says.{says_eq, stable}
use Rattle.layout.specs.Slots as layout
use Rattle.layout.proofs.Laws.{can_be}
use Rattle.layout.specs.Refusals.{impossible}
use Rattle.kinds.specs.Kinds.{first_rule, last_rule}
use Rattle.record.specs.Entry.{Label, Entry, no_entry, entry_at, label_no}
use Rattle.ground.proofs.UpTo.{get_or_up_to}
use Rattle.names.specs.Labels.{kind_no, name_no, within}
use Rattle.drawing.specs.Needs.{Shape, point, circle, arc, declaring}
use Rattle.refusal.specs.First.{Answer, passed, refused}
use Rattle.layout.specs.Run.{slots_for}
use Rattle.drawing.specs.Faults.{Fault}
use Rattle.drawing.specs.Check.{count_below, answer, check_of, checked_of, good_check}
use Rattle.lowering.specs.Slots.{Slot, slots_of_shape, labels_of, slots_of, slots, size, before, how_many, layout_of}
use Rattle.lowering.specs.Rows.{rules_of}
use Rattle.lowering.specs.Demand.{no_slot, Declares, ComponentOf, rules_before}
use Rattle.lowering.specs.Sketch.{many_of, of_kind}
use Rattle.names.proofs.Laws.{within_one}
use Rattle.drawing.proofs.Laws.{count_le}
use Rattle.ground.proofs.Pieces.{Each, get_or_map, each_of, length_flat, Picks, picks_suc, picks_around}

-- ---- what is picked

pub labels_pick : (s : Shape) → Picks (λ (e : Entry). within (declaring s) (declaring s) e.kind) (λ e. label_no e 0) (labels_of s)
labels_pick s = record { none = refl; next = λ e es. rw (within_one (declaring s) e.kind) refl }

pub rules_pick : Picks (λ (e : Entry). within first_rule last_rule e.kind) (λ e. e) rules_of
rules_pick = record { none = refl; next = λ e es. refl }

-- ---- how many are picked out of the first n

-- one is picked, or none
one_or_none : {A : Type 0} (b : Bool) (x : A) → length (cond b (x ∷ []) []) ≡ cond b 1 0
one_or_none true x = refl
one_or_none false x = refl

module _ {B : Type 0} (low high : ℕ) (f : Entry → B) (g : List Entry → List B) (picks : Picks (λ (e : Entry). within low high e.kind) f g) (es : List Entry) where
  pub picks_count : (n : ℕ) → n ≤ length es → length (g (take n es)) ≡ count_below (kind_no es) low high n
  unfolding count_below
  picks_count zero h = ap length picks.none
  picks_count (suc n) h =
      rw (picks_suc _ f g picks es n no_entry h, length-append, picks_count n (omega (arith, h)), one_or_none (within low high (kind_no es n)) (f (entry_at es n))) refl

  pub picks_all : length (g es) ≡ count_below (kind_no es) low high (length es)
  picks_all = ap (λ (l : List Entry). length (g l)) (sym (take-length es)) ∙ picks_count (length es) (le_refl (length es))

  -- one that is picked stands at its count
  module _ (i : ℕ) (h : i < length es) (e : within low high (kind_no es i) ≡ true) where
    pub picks_inside : count_below (kind_no es) low high i < length (g es)
    picks_inside =
        omega (arith, picks_count i (omega (arith, h)), simp length-append at (ap length (picks_around _ f g picks es i no_entry h e)))

    pub picks_at : (d : B) → get_or (g es) (count_below (kind_no es) low high i) d ≡ f (entry_at es i)
    picks_at d = rw (picks_around _ f g picks es i no_entry h e) (get_or_at (g (take i es)) (f (entry_at es i)) (g (drop (suc i) es)) d _ (picks_count i (omega (arith, h))))

-- ---- those of a kind, by their numbers

module _ (kinds : ℕ → ℕ) (kind : ℕ) where
  pub count_of_kind : (n : ℕ) → length (of_kind kinds kind n) ≡ many_of kinds kind n
  unfolding of_kind count_below
  count_of_kind zero = refl
  count_of_kind (suc n) = rw (length-append, count_of_kind n, within_one kind (kinds n), one_or_none (eqb (kinds n) kind) n) refl

  -- each number below the count is that of one of them
  pub one_of_kind : (m n : ℕ) → m < many_of kinds kind n → (i : ℕ) × (i < n) × (kinds i ≡ kind) × (m ≡ many_of kinds kind i)
  unfolding count_below
  one_of_kind m zero h = absurd (omega arith)
  one_of_kind m (suc n) h = elim (dec_lt m (many_of kinds kind n)) [
    | yes b ↦ (let (i, c, is, e) = one_of_kind m n b in (i, omega (arith, c), is, e))
    | no f ↦ (let is : kinds n ≡ kind = stable (says_eq (kinds n) kind) (λ g. omega (arith, f, rw (within_one kind (kinds n), ne_eqb (kinds n) kind g) at h)) in
        (n, omega arith, is, omega (arith, f, rw (within_one kind (kinds n), eq-eqb (kinds n) kind is) at h)))
  ]

-- ---- shapes and rules

module _ (es : List Entry) where
  labels_all : (s : Shape) → length (labels_of s es) ≡ how_many s es
  labels_all s = picks_all _ _ _ _ (labels_pick s) es

  pub rules_all : length (rules_of es) ≡ rules_before es (length es)
  rules_all = picks_all _ _ _ _ rules_pick es

  -- a declared shape's label is picked: its number is below the count of its kind, and its label stands there
  module _ (i : ℕ) (s : Shape) (d : Declares es i s) where
    picked : within (declaring s) (declaring s) (kind_no es i) ≡ true
    picked = within_one (declaring s) (kind_no es i) ∙ (says_eq (kind_no es i) (declaring s)).back d.kind_is

    pub label_inside : before s es i < length (labels_of s es)
    label_inside = picks_inside _ _ _ _ (labels_pick s) es i d.inside picked

    pub before_inside : before s es i < how_many s es
    before_inside = omega (arith, label_inside, labels_all s)

    pub label_at_lem : get_or (labels_of s es) (before s es i) [] ≡ name_no es i
    label_at_lem = picks_at _ _ _ _ (labels_pick s) es i d.inside picked []

-- ---- slots

pub length_shape : (s : Shape) (l : Label) → length (slots_of_shape s l) ≡ size s
length_shape point l = refl
length_shape circle l = refl
length_shape arc l = refl

-- what f makes of them, slot by slot
pub slots_by_lem : {A : Type 0} (f : Slot → A) (g : ℕ → A) (d : A) {es : List Entry} {i : ℕ} {s : Shape} {k : ℕ} {t : Slot}
    → ComponentOf es i s k t → map f (slots_of_shape s (name_no es i)) ≡ up_to (size s) g → f t ≡ g k
slots_by_lem f g d {es} {i} {s} {k} c e =
    let h = c.one_of_it in
    ap f c.is ∙ sym (get_or_map f (slots_of_shape s (name_no es i)) k no_slot d (rw (length_shape s (name_no es i)) h)) ∙ rw e (get_or_up_to (size s) g k d h)

pub at_first : {A : Type 0} (xs : List A) (at : ℕ) (d : A) → get_or xs at d ≡ get_or xs (at + 0) d
at_first xs at d = rw add-zero refl

pub lengths : (s : Shape) (ls : List Label) → Each (λ l. length (slots_of_shape s l) ≡ size s) ls
lengths s ls = each_of (λ l. length (slots_of_shape s l) ≡ size s) ls [] (λ j h. length_shape s _)

module _ (es : List Entry) where
  pub all_of : (s : Shape) → length (slots_of s es) ≡ how_many s es * size s
  all_of s = length_flat (slots_of_shape s) (size s) (labels_of s es) (lengths s (labels_of s es)) ∙ rw (labels_all es s) refl

  pub length_slots : length (slots es) ≡ layout.slot_count (layout_of es)
  unfolding slots
  length_slots = simp length-append (omega (arith, all_of point, all_of circle, all_of arc))

  -- 2P + 3C + 6A
  pub slot_count : length (slots es) ≡ 2 * how_many point es + 3 * how_many circle es + 6 * how_many arc es
  slot_count = omega (arith, length_slots)

  -- as few shapes as records
  pub few_of : {m : ℕ} → length es ≤ m → (s : Shape) → how_many s es ≤ m
  few_of h s = omega (arith, h, count_le (kind_no es) (declaring s) (declaring s) (length es))

  -- the layout is a possible one
  pub possible : length es ≤ layout.most_shapes → impossible (layout_of es) ≡ false
  possible h =
      let few = few_of h in
      can_be (layout_of es)
      (record { counts = record { points = few point; circles = few circle; arcs = few arc }; circles_late = λ h. omega arith; arcs_late = λ h. omega arith })

-- ---- from the check's answer

-- a drawing is answered with its counts exactly if no fault was found
pub record PassedWith (es : List Entry) (P C A R : ℕ) : Type 0 where
  pub none_found : check_of es ≡ passed
  pub points : P ≡ how_many point es
  pub circles : C ≡ how_many circle es
  pub arcs : A ≡ how_many arc es
  pub rules : R ≡ rules_before es (length es)

pub passed_with : (es : List Entry) (P C A R : ℕ) → checked_of es ≡ good_check P C A R → PassedWith es P C A R
unfolding checked_of
passed_with es P C A R e = go (check_of es) refl e
  where
    go : (o : Answer Fault) → check_of es ≡ o → answer es o ≡ good_check P C A R → PassedWith es P C A R
    go passed f e =
        record {
          none_found = f;
          points = sym (ap (λ (c : Checked). c.points) (held_same e));
          circles = sym (ap (λ (c : Checked). c.circles) (held_same e));
          arcs = sym (ap (λ (c : Checked). c.arcs) (held_same e));
          rules = sym (ap (λ (c : Checked). c.rows) (held_same e));
        }
    go (refused g j) f e = absurd (let z : ◌≡◌ {A = ℕ} 0 1 = cc in omega arith)

-- its slots and rules, by those counts
module _ {es : List Entry} {P C A R : ℕ} (p : PassedWith es P C A R) where
  pub slot_number : length (slots es) ≡ slots_for P C A
  slot_number = rw (p.points, p.circles, p.arcs) (omega (arith, length_slots es))

  pub rule_number : length (rules_of es) ≡ R
  rule_number = rules_all es ∙ sym p.rules
