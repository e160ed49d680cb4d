-- A record is good, or is but for the spelling of labels that no declaration has, exactly if its shape and the labels that are looked at
-- pass their tests: each is put together along its statement. Assumes nothing.
use mathlib.Core.Path.{◌≡◌, refl, sym, ap, ◌∙◌}
use mathlib.Core.Bool.{Bool, true, false, ◌&&◌, cond, or-true}
use mathlib.Core.List.{List}
use Prim.Native.Nat.{ℕ, ◌+◌, ◌*◌, ◌≤◌, ◌<◌}
use native.Mathlib.Omega.{arith}
use native.Mathlib.Decide.{dec_lt}
use lib.Dec.{eqb}
use lib.ListN.{length}
use borrow.Author.Tests.{eqb-true, eq-eqb, lt-leb}
use Rattle.refusal.specs.First.{EachBelow}
use Rattle.refusal.proofs.Says.{Says, refuted, says_once, says_and, says_unless, says_if, says_iff, says_eq, says_le, says_lt, says_all}
use Rattle.little.specs.Little.{byte, u16}
use Rattle.kinds.specs.Kinds.{new_arc, kind_at, numberless, pair, label_places, Known}
use Rattle.record.specs.Record.{record_bytes, longest_text, mark, first_guess}
use Rattle.record.specs.Decode.{view_at, place_in, has_place, decode}
use Rattle.record.specs.Entry.{label_no, named, entry_of, no_view, view_of}
use Rattle.record.specs.Sound.{guess_end, guess_zeros, Plain, Framed, Spelled, Good, framed_test, fields_test, good_kind}
use Rattle.record.specs.Laid.{record_test, kind_told, LaidRecord}
use Rattle.record.specs.Steps.{rest_test, shape_test, Shaped}
use Rattle.ground.proofs.UpTo.{get_or_up_to}
use Rattle.kinds.proofs.Table.{says_known, some_label, few_labels, guess_labels, declared_label}
use Rattle.record.proofs.Agree.{Allowed, says_allowed, says_framed, says_placed, count_is, all_spelled, says_good}
use Rattle.record.proofs.Spelled.{says_spelled}

-- the bytes are a good record's, in full, or those of a record that is laid out
abbrev pub RecordBy : Bool → List ℕ → List ℕ → Type 0
RecordBy true text b = Good text b
RecordBy false text b = LaidRecord text b

module _ (text b : List ℕ) where
  -- each label of a record is spelled as one
  abbrev pub AllSpelled : Type 0
  AllSpelled = EachBelow (length (entry_of text (decode b)).labels) (λ q. Spelled (kind_at (decode b).kind).dotted (label_no (entry_of text (decode b)) q))

  -- the fields of a record are as its kind allows
  abbrev Fields : Type 0
  Fields =
      let r = decode b in
      Allowed r.kind r.third r.count r.x r.y

  -- what its length and its shape say
  says_shape : Says (eqb (length b) record_bytes && shape_test (length text) b) (Framed text b × Fields)
  unfolding shape_test rest_test decode
  says_shape =
      let r = decode b in
      let k = kind_at r.kind in
      says_iff
      (λ w.
      let h = w.1.0 in
      let t = w.1.1 in
      let few : r.count ≤ label_places = omega (arith, h.0.1.1, few_labels r.kind) in
      (record { whole = w.0; marked = h.0.0; few = few; placed = t.0; ended = t.1.0 }, (h.0.1.0, (h.1, (h.0.1.1, t.1.1)))))
      (λ w.
      let f = w.0 in
      let a = w.1 in
      (f.whole, (((f.marked, (a.0, a.1.1.0)), a.1.0), (f.placed, (f.ended, a.1.1.1)))))
      (says_and (says_eq (length b) record_bytes)
      (says_and
      (says_and (says_and (says_eq (byte b 0) mark) (says_and (says_known r.kind) (says_eq r.count k.labels)))
      (says_and (says_le r.third k.thirds) (says_if (says_lt 0 k.thirds) (says_lt 0 r.third))))
      (says_and (says_all _ _ (says_placed text r) label_places)
      (says_and (says_if (says_le first_guess r.kind) (says_all _ _ (λ j. says_eq (byte b (guess_end + j)) 0) guess_zeros))
      (says_and (says_if (says_eq k.number numberless) (says_eq r.x 0)) (says_unless (says_eq k.number pair) (says_eq r.y 0)))))))

  -- and what its frame and its fields do: it is the same
  says_fields : Says (framed_test (length text) b && fields_test (kind_at (decode b).kind) (decode b).third (decode b).count (decode b).x (decode b).y) (Framed text b × Fields)
  says_fields = says_and (says_framed text b) (says_allowed (decode b).kind (decode b).third (decode b).count (decode b).x (decode b).y)

  pub shape_is : (eqb (length b) record_bytes && shape_test (length text) b)
      ≡ (framed_test (length text) b && fields_test (kind_at (decode b).kind) (decode b).third (decode b).count (decode b).x (decode b).y)
  shape_is = says_once says_shape says_fields

  -- a record that is laid out has the shape, and the label of a declaration is a plain one
  laid_of : Framed text b × Fields → ((decode b).kind ≤ new_arc → Plain (named text (decode b) 0)) → LaidRecord text b
  laid_of (framed, (known, (third, (count, (no_x, no_y))))) plain =
      record { framed = framed; known = known; third = third; count = count; no_x = no_x; no_y = no_y; plain = plain }

  shape_of_lem : LaidRecord text b → Framed text b × Fields
  shape_of_lem l = (l.framed, (l.known, (l.third, (l.count, (l.no_x, l.no_y)))))

  -- which it is if all labels are spelled as labels
  spelled_laid : Framed text b × Fields → AllSpelled → LaidRecord text b
  spelled_laid shape spelled =
      let r = decode b in
      let a = shape.1 in
      let first = (all_spelled text r (kind_at r.kind).dotted).1 spelled 0 (omega (arith, a.1.1.0, some_label r.kind a.0)) in
      laid_of shape (λ d. rw (declared_label r.kind (a.0.0, d)).1 at first)

  -- its labels stand one behind another, inside the text
  module _ (s : Shaped text b) where
    says : Framed text b × Fields
    says = says_shape.so (rw (eq-eqb _ _ s.whole) s.shape)

    pub some_count : 0 < (decode b).count
    some_count = omega (arith, says.1.1.1.0, some_label (decode b).kind says.1.0)

    pub few_count : (decode b).count ≤ label_places
    few_count = says.0.few

    pub view_here : (q : ℕ) → q < (decode b).count → view_at b (4 + q * 4) ≡ view_of (decode b) q
    unfolding decode
    view_here q h = sym (get_or_up_to label_places (place_in b) q no_view (omega (arith, few_count)) ∙ rw has refl)
      where
        has : has_place (byte b 1) q ≡ true
        has =
            elim (dec_lt (byte b 1) first_guess) [
              | yes i ↦ rw (lt-leb first_guess (byte b 1) i) (or-true (eqb q 0))
              | no f ↦ rw (eq-eqb q 0 (omega (arith, h, says.1.1.1.0, guess_labels (byte b 1) (omega (arith, f))))) refl
            ]

    pub inside_here : (q : ℕ) → q < (decode b).count → u16 b (4 + q * 4) + u16 b (4 + q * 4 + 2) ≤ length text
    inside_here q h = rw (← view_here q h) at ((says.0.placed q (omega (arith, few_count))).used h)

  -- ---- a record that is laid out, and one that is good

  pub good_laid : Good text b → LaidRecord text b
  unfolding entry_of
  good_laid g =
      let s = g.sound in
      spelled_laid (g.framed, (s.known, (s.third, (sym (count_is text (decode b)) ∙ s.count, (s.no_x, s.no_y))))) s.spelled

  pub laid_good : length text ≤ longest_text → LaidRecord text b → AllSpelled → Good text b
  unfolding entry_of
  laid_good short l spelled =
      record {
        short = short;
        framed = l.framed;
        sound = record { known = l.known; third = l.third; count = count_is text (decode b) ∙ l.count; spelled = spelled; no_x = l.no_x; no_y = l.no_y };
      }

  pub says_record : (full : Bool) → Says (record_test full text b) (RecordBy full text b)
  unfolding entry_of
  says_record true =
      let r = decode b in
      let each = all_spelled text r (kind_at r.kind).dotted in
      says_iff
      (λ w. laid_good w.1.0 (spelled_laid w.0 (each.0 w.1.1)) (each.0 w.1.1))
      (λ g. (shape_of_lem (good_laid g), (g.short, each.1 g.sound.spelled)))
      (says_and says_fields (says_and (says_le (length text) longest_text) (says_all _ _ (λ q. says_spelled (named text r q) (kind_at r.kind).dotted) r.count)))
  says_record false =
      says_iff (λ w. laid_of w.0 w.1) (λ l. (shape_of_lem l, l.plain))
      (says_and says_fields (says_if (says_le (decode b).kind new_arc) (says_spelled (named text (decode b) 0) false)))

  -- ---- its kind, and 0 of any other bytes

  known_by : (full : Bool) → RecordBy full text b → Known (decode b).kind
  unfolding entry_of
  known_by true g = g.sound.known
  known_by false l = l.known

  pub kind_of_lem : (full : Bool) → RecordBy full text b → kind_told full text b ≡ (decode b).kind
  unfolding kind_told
  kind_of_lem full r = rw ((says_record full).back r) refl

  pub says_bad : (full : Bool) → Says (eqb (kind_told full text b) 0) (RecordBy full text b → ⊥)
  unfolding kind_told
  says_bad full =
      record { so = λ e r. omega (arith, eqb-true (kind_told full text b) 0 e, kind_of_lem full r, (known_by full r).0); back = λ f. rw (refuted (says_record full) f) refl }

  -- in full it is that of a good record
  pub kind_good : kind_told true text b ≡ good_kind text b
  unfolding kind_told good_kind
  kind_good = ap (λ (t : Bool). cond t (decode b).kind 0) (says_once (says_record true) (says_good text b))
