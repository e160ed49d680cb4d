-- The ids that a rule of a fine drawing carries: what the table needs of each label place tells which shape or part is named there, and so how many
-- ids it comes to. Assumes nothing.
use mathlib.Core.Path.{◌≡◌, refl, sym, ◌∙◌}
use mathlib.Core.Logic.{inl, inr}
use mathlib.Core.Bool.{Bool, true, not, ◌&&◌}
use mathlib.Core.List.{List, [], ◌++◌, append-nil}
use Prim.Native.Nat.{ℕ, ◌+◌, ◌-◌, ◌≤◌, ◌<◌}
use native.Mathlib.Decide.{dec_lt}
use native.Mathlib.Nat.{le_refl, zero-add}
use native.Mathlib.Omega.{arith}
use lib.Dec.{eqb}
use lib.ListN.{get_or-eq_default, length, get_or}
use Rattle.ground.specs.Words.{bytes}
use Rattle.ground.specs.Lists.{flat, sum_to}
use Rattle.ground.proofs.Lists.{all}
use Rattle.ground.proofs.Pieces.{Each, each_at, each_of, each_has, each_flat, sum_flat}
use Rattle.refusal.specs.First.{EachBelow, SomeBelow}
use Rattle.refusal.proofs.Says.{Says, refuted, says_so, says_and, says_not, says_eq, says_le, says_lt, says_if, says_unless, says_all}
use Rattle.layout.specs.Slots.{ids_end}
use Rattle.layout.specs.Push.{onward}
use Rattle.layout.proofs.Onward.{length_onward, get_or_onward}
use Rattle.kinds.specs.Kinds.{kind_at, Rule, first_rule}
use Rattle.record.specs.Entry.{Label, Entry, entry_at, label_no}
use Rattle.names.specs.Labels.{kind_no, name_no, same}
use Rattle.names.specs.Cut.{KnownPart}
use Rattle.names.specs.Names.{name_for}
use Rattle.names.proofs.Laws.{says_same}
use Rattle.drawing.specs.Needs.{Shape, point, Choice, code_at, need_at}
use Rattle.drawing.specs.Faults.{Named}
use Rattle.drawing.proofs.Choices.{choice}
use Rattle.row.specs.Row.{most_ids}
use Rattle.row.specs.Formed.{ids_for, ids_at, ids_of}
use Rattle.lowering.specs.declared.spans.Span.{Span}
use Rattle.lowering.specs.Slots.{Slot, slots, size, first_slot}
use Rattle.lowering.specs.Rows.{Naming, whole, part, center, naming_of, names, named_ids}
use Rattle.lowering.specs.Demand.{slot_at, Declares, NamesSlot, Carries}
use Rattle.lowering.specs.Sketch.{one_slot, span_by}
use Rattle.lowering.proofs.drawing.Fine.{Fine, name_told}
use Rattle.lowering.proofs.slots.Components.{slot_of_lem}
use Rattle.lowering.proofs.ids.Tested.{ids_in_row, each_onward, has_onward}
use Rattle.lowering.proofs.ids.Named.{sizes, says_names, pair_part_of, pair_known, XY, stands, Among, whole_meant, part_meant}

-- ---- what the table needs

-- a label that a place takes is that of a shape, whose slots are all named; or of a pair, or of a shape with a center, of which x or y is named
abbrev takes : Naming → ℕ → Choice → Bool
takes whole code c = (not (one_slot code) && eqb (ids_for code) (size c.shape)) && same c.suffix []
takes part code c = (one_slot code && eqb (ids_for code) 1) && same c.suffix (pair_part_of c.shape)
takes center code c = (one_slot code && eqb (ids_for code) 1) && (same c.suffix [] && same (pair_part_of c.shape) (bytes ".center"))

-- each place of each rule is so; where one slot is named the third byte is x or y; and no rule comes to more than eight ids
abbrev Fits : ℕ → Type 0
Fits k =
    EachBelow (kind_at k).labels (λ q. (all (takes (naming_of k) (code_at k q)) (need_at k q) ≡ true) × (one_slot (code_at k q) ≡ true → (kind_at k).thirds ≡ 2))
    × ((sum_to (ids_at k) (kind_at k).labels ≡ ids_of k) × (ids_of k ≤ most_ids))

-- one computed test
rule_fits : (k : ℕ) → Rule k → Fits k
unfolding ids_of
rule_fits k u =
    (says_all _ (λ k. (k < first_rule → ⊥) → Fits k)
    (λ k. says_unless (says_lt _ _)
    (says_and (says_all _ _ (λ q. says_and says_so (says_if says_so (says_eq _ _))) (kind_at k).labels) (says_and (says_eq _ _) (says_le _ _))))
    24).so refl k (omega (arith, u.1)) (λ l. omega (arith, u.0, l))

-- ---- a label of a rule, worked out

-- label q of the rule e names the slots of a span, which are some of those of a declared shape, and no other
pub record WorkedOut (es : List Entry) (e : Entry) (q : ℕ) (t : Span) : Type 0 where
  pub shape : Shape
  pub declared : Declares es t.shape shape
  pub some : 0 < t.count
  pub inside : t.first + t.count ≤ size shape
  pub wide : t.count ≡ ids_at e.kind q
  pub meant : (j : ℕ) → j < length (slots es)
      → Says (names (naming_of e.kind) e.third (label_no e q) (slot_at es j)) (Among (first_slot shape es t.shape + t.first) t.count j)

-- the span that its name tells
abbrev pub span_of : List Entry → Entry → ℕ → Span
span_of es e q = span_by (code_at e.kind q) e.third (name_for es (label_no e q))

module _ {es : List Entry} {e : Entry} {q : ℕ} {t : Span} (k : WorkedOut es e q t) where
  pub reach : first_slot k.shape es t.shape + t.first + t.count ≤ length (slots es)
  reach = omega (arith, k.some, (slot_of_lem es t.shape k.shape (t.first + t.count - 1) k.declared (omega (arith, k.some, k.inside))).0)

  pub ids_are : (next : ℕ) → named_ids es next e (label_no e q) ≡ onward (next + (first_slot k.shape es t.shape + t.first)) t.count
  unfolding named_ids
  ids_are next = ids_in_row (names (naming_of e.kind) e.third (label_no e q)) next _ t.count (slots es) reach k.meant

-- a third byte from 1 to 2
xy : (a : ℕ) → a ≤ 2 → 0 < a → XY a
xy a h g = elim (dec_lt a 2) [
  | yes b ↦ inl (omega (arith, b))
  | no f ↦ inr (omega (arith, f))
]

module _ (es : List Entry) (w : Fine es) (e : Entry) (q : ℕ) where
  -- the x or y of a point or a center
  parted : (j : ℕ) (s : Shape) (v : Label) → Declares es j s → KnownPart v → name_no es j ++ v ≡ label_no e q → XY e.third
      → (one_slot (code_at e.kind q) ≡ true) × (ids_at e.kind q ≡ 1)
      → ((t : Slot) → names (naming_of e.kind) e.third (label_no e q) t ≡ names part e.third (name_no es j ++ pair_part_of s) t) → WorkedOut es e q (span_of es e q)
  unfolding span_by
  parted j s v d known name o (one, wide) means =
      let (at, kind) = name_told es w j s d v (label_no e q) known name in
      rw (one, at, kind)
      (record {
        shape = s;
        declared = d;
        some = omega arith;
        inside = omega (arith, (stands s e.third o).0);
        wide = sym wide;
        meant = λ i b. rw (means (slot_at es i)) (part_meant es w j s d e.third i b o);
      })

  by_naming : (n : Naming) → naming_of e.kind ≡ n → (c : Choice) → takes n (code_at e.kind q) c ≡ true → (one_slot (code_at e.kind q) ≡ true → XY e.third)
      → Named es c.shape c.suffix (label_no e q) → WorkedOut es e q (span_of es e q)
  unfolding span_by
  by_naming whole is c t o (j, h, (k, name)) =
      let ((many, wide), bare) = (says_and (says_and (says_not {b = one_slot (code_at e.kind q)} says_so) (says_eq _ _)) (says_same c.suffix [])).so t in
      let d : Declares es j c.shape = record { inside = h; kind_is = k } in
      let (at, kind) = name_told es w j c.shape d c.suffix (label_no e q) (rw bare (pair_known point)) name in
      let own : label_no e q ≡ name_no es j = sym name ∙ rw bare (append-nil (name_no es j)) in
      rw (refuted says_so many, at, kind, (sizes c.shape).1)
      (record {
        shape = c.shape;
        declared = d;
        some = (sizes c.shape).0;
        inside = rw (zero-add (size c.shape)) (le_refl (size c.shape));
        wide = sym wide;
        meant = λ i b. rw (is, own) (whole_meant es w j c.shape d e.third i b);
      })
  by_naming part is c t o (j, h, (k, name)) =
      let (one, pair) = (says_and (says_and says_so (says_eq _ _)) (says_same c.suffix (pair_part_of c.shape))).so t in
      parted j c.shape c.suffix (record { inside = h; kind_is = k }) (rw pair (pair_known c.shape)) name (o one.0) one (λ t. rw (is, ← name, pair) refl)
  by_naming center is c t o (j, h, (k, name)) =
      let (one, (bare, pair)) =
      (says_and (says_and says_so (says_eq _ _)) (says_and (says_same c.suffix []) (says_same (pair_part_of c.shape) (bytes ".center")))).so t in
      parted j c.shape c.suffix (record { inside = h; kind_is = k }) (rw bare (pair_known point)) name (o one.0) one
      (λ t. rw (is, ← name, bare, append-nil, pair) refl)

-- ---- a rule of a fine drawing

module _ (es : List Entry) (w : Fine es) (i : ℕ) (h : i < length es) (u : Rule (kind_no es i)) where
  abbrev e : Entry
  e = entry_at es i

  -- each of its labels is worked out
  pub worked_out : (q : ℕ) → q < length (entry_at es i).labels → WorkedOut es (entry_at es i) q (span_of es (entry_at es i) q)
  worked_out q b =
      let s = w.sound i h in
      let g : q < (kind_at e.kind).labels = rw s.count at b in
      let (takes-each, due) = (rule_fits e.kind u).0 q g in
      let (c, t, m) = choice es (label_no e q) (takes (naming_of e.kind) (code_at e.kind q)) (need_at e.kind q) takes-each (w.met i h (inl u) q g) in
      by_naming es w e q (naming_of e.kind) refl c t (λ one. xy e.third (omega (arith, due one, s.third.0)) (s.third.1 (omega (arith, due one)))) m

  module _ (next : ℕ) where
    -- it has as many ids as the table tells, and eight at most
    pub ids_count : length (flat (named_ids es next (entry_at es i)) (entry_at es i).labels) ≡ ids_of (kind_no es i)
    ids_count =
        sum_flat (named_ids es next e) (ids_at e.kind) e.labels []
        (λ q g. let k = worked_out q g in rw (ids_are k next, length_onward _ (span_of es e q).count) k.wide)
        ∙ rw (w.sound i h).count (rule_fits e.kind u).1.0

    pub ids_few : length (flat (named_ids es next (entry_at es i)) (entry_at es i).labels) ≤ most_ids
    ids_few = rw ids_count (rule_fits (kind_no es i) u).1.1

    -- they are given ones
    pub ids_given : next + length (slots es) ≤ ids_end → (q : ℕ) → get_or (flat (named_ids es next (entry_at es i)) (entry_at es i).labels) q 0 < ids_end
    ids_given left q =
        let ids = flat (named_ids es next e) e.labels in
        let each : Each (λ (n : ℕ). n < ids_end) ids =
        each_flat (named_ids es next e) (λ (l : Label). Each (λ (n : ℕ). n < ids_end) (named_ids es next e l)) (λ (n : ℕ). n < ids_end) (λ l a. a) e.labels
        (each_of _ e.labels []
        (λ q g. let k = worked_out q g in rw (ids_are k next) (each_onward (λ (n : ℕ). n < ids_end) _ (span_of es e q).count (λ n a b. omega (arith, left, reach k))))) in
        elim (dec_lt q (length ids)) [
          | yes b ↦ each_at (λ (n : ℕ). n < ids_end) ids 0 each q b
          | no f ↦ rw (get_or-eq_default ids 0 {n = q} (omega (arith, f))) (omega arith)
        ]

    -- those of a label are exactly the ids of the slots that it names
    pub carries : (q : ℕ) → q < length (entry_at es i).labels
        → Carries es next (entry_at es i) (label_no (entry_at es i) q) (named_ids es next (entry_at es i) (label_no (entry_at es i) q))
    carries q g =
        let k = worked_out q g in
        let n = (span_of es e q).count in
        let at = next + (first_slot k.shape es (span_of es e q).shape + (span_of es e q).first) in
        let says : (j : ℕ) → Says (names (naming_of e.kind) e.third (label_no e q) (slot_at es j)) (NamesSlot es e (label_no e q) j) =
        λ j. says_names (naming_of e.kind) e.third (label_no e q) (slot_at es j) in
        rw (ids_are k next)
        (record {
          some = rw (length_onward at n) k.some;
          named = λ m. each_has (λ m. SomeBelow (length (slots es)) (λ j. (m ≡ next + j) × NamesSlot es e (label_no e q) j)) (onward at n) m
              (each_onward _ at n (λ m a b.
              let j = m - next in
              let c : j < length (slots es) = omega (arith, reach k) in
              (j, c, (omega arith, (says j).so ((k.meant j c).back (omega arith, omega arith))))));
          all = λ j b m. let r = (k.meant j b).so ((says j).back m) in has_onward at n (next + j) (omega (arith, r.0)) (omega (arith, r.1));
          rising = λ a b l g.
              let c : b < n = rw (length_onward at n) at g in
              rw (get_or_onward at n a (omega arith), get_or_onward at n b c) (omega arith);
        })
