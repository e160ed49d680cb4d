-- The tests of a record say what docs/FORMAT.md says of it: each is put together along its statement. Assumes nothing.
use mathlib.Core.Path.{◌≡◌, refl, ap, ◌∙◌}
use mathlib.Core.Logic.{◌↔◌}
use mathlib.Core.Bool.{Bool, true, false, ◌&&◌}
use mathlib.Core.List.{List, []}
use Prim.Native.Nat.{ℕ, ◌+◌, ◌≤◌, ◌<◌}
use native.Mathlib.Omega.{arith}
use lib.Dec.{ltb, eqb}
use lib.ListN.{length}
use Rattle.refusal.specs.First.{EachBelow}
use Rattle.refusal.proofs.Says.{Says, says_and, says_unless, says_cond, says_if, says_iff, says_eq, says_le, says_lt, says_all}
use Rattle.little.specs.Little.{byte}
use Rattle.record.specs.declared.View.{View}
use Rattle.record.specs.declared.Record.{Record}
use Rattle.kinds.specs.Kinds.{kind_at, numberless, pair, label_places, Known}
use Rattle.record.specs.Record.{record_bytes, mark, first_guess, longest_text}
use Rattle.record.specs.Decode.{decode}
use Rattle.record.specs.Entry.{Entry, no_entry, label_no, named, entry_of, no_view, view_of}
use Rattle.record.specs.Sound.{guess_end, guess_zeros, Placed, Framed, Third, Spelled, Sound, Good, placed_test, framed_test, fields_test, sound_test, good_test}
use Rattle.kinds.proofs.Table.{says_known}
use Rattle.record.proofs.Spelled.{says_spelled}
use Rattle.ground.proofs.UpTo.{length_up_to, get_or_up_to}

-- ---- the bytes

says_none : (v : View) → Says (eqb v.start 0 && eqb v.len 0) (v ≡ no_view)
says_none v =
    says_iff
    (λ w i. record { start = w.0 i; len = w.1 i })
    (λ e. (ap (λ (u : View). u.start) e, ap (λ (u : View). u.len) e))
    (says_and (says_eq v.start 0) (says_eq v.len 0))

pub says_placed : (text : List ℕ) (r : Record) (q : ℕ) → Says (placed_test (view_of r q) (ltb q r.count) (length text)) (Placed text r q)
says_placed text r q =
    says_iff
    (λ w. record { used = w.0; unused = λ h. w.1 (λ g. omega (arith, h, g)) })
    (λ p. (p.used, λ f. p.unused (omega (arith, f))))
    (says_cond (says_lt q r.count) (says_le ((view_of r q).start + (view_of r q).len) (length text)) (says_none (view_of r q)))

pub says_framed : (text b : List ℕ) → Says (framed_test (length text) b) (Framed text b)
unfolding framed_test
says_framed text b =
    says_iff
    (λ w. record { whole = w.0; marked = w.1.0; few = w.1.1.0; placed = w.1.1.1.0; ended = w.1.1.1.1 })
    (λ f. (f.whole, (f.marked, (f.few, (f.placed, f.ended)))))
    (says_and (says_eq (length b) record_bytes)
    (says_and (says_eq (byte b 0) mark)
    (says_and (says_le (decode b).count label_places)
    (says_and (says_all _ _ (says_placed text (decode b)) label_places)
    (says_if (says_le first_guess (decode b).kind) (says_all _ _ (λ k. says_eq (byte b (guess_end + k)) 0) guess_zeros))))))

-- ---- what the bytes say

-- the fields as the kind allows, but for the labels' text
abbrev pub Allowed : ℕ → ℕ → ℕ → ℕ → ℕ → Type 0
Allowed kind third count x y =
    Known kind × (Third kind third × ((count ≡ (kind_at kind).labels) × (((kind_at kind).number ≡ numberless → x ≡ 0) × (((kind_at kind).number ≡ pair → ⊥) → y ≡ 0))))

pub says_allowed : (kind third count x y : ℕ) → Says (fields_test (kind_at kind) third count x y) (Allowed kind third count x y)
says_allowed kind third count x y =
    let k = kind_at kind in
    says_and (says_known kind)
    (says_and (says_and (says_le third k.thirds) (says_if (says_lt 0 k.thirds) (says_lt 0 third)))
    (says_and (says_eq count k.labels)
    (says_and (says_if (says_eq k.number numberless) (says_eq x 0)) (says_unless (says_eq k.number pair) (says_eq y 0)))))

pub says_sound : (e : Entry) → Says (sound_test e) (Sound e)
unfolding sound_test
says_sound e =
    says_iff
    (λ w. record { known = w.0.0; third = w.0.1.0; count = w.0.1.1.0; spelled = w.1; no_x = w.0.1.1.1.0; no_y = w.0.1.1.1.1 })
    (λ s. ((s.known, (s.third, (s.count, (s.no_x, s.no_y)))), s.spelled))
    (says_and
    (says_allowed e.kind e.third (length e.labels) e.x e.y)
    (says_all _ _ (λ q. says_spelled (label_no e q) (kind_at e.kind).dotted) (length e.labels)))

pub says_good : (text b : List ℕ) → Says (good_test text b) (Good text b)
unfolding good_test
says_good text b =
    says_iff
    (λ w. record { short = w.0; framed = w.1.0; sound = w.1.1 })
    (λ g. (g.short, (g.framed, g.sound)))
    (says_and (says_le (length text) longest_text) (says_and (says_framed text b) (says_sound (entry_of text (decode b)))))

-- bytes that are no record are not sound
pub none_unsound : sound_test no_entry ≡ false
unfolding sound_test
none_unsound = refl

-- ---- a sound entry by its record's fields

module _ (text : List ℕ) (r : Record) where
  pub count_is : length (entry_of text r).labels ≡ r.count
  unfolding entry_of
  count_is = length_up_to r.count (named text r)

  label_is : (q : ℕ) → q < r.count → label_no (entry_of text r) q ≡ named text r q
  unfolding entry_of
  label_is q h = get_or_up_to r.count (named text r) q [] h

  -- each label that is there is spelled as one
  pub all_spelled : (dotted : Bool)
      → EachBelow r.count (λ q. Spelled dotted (named text r q)) ↔ EachBelow (length (entry_of text r).labels) (λ q. Spelled dotted (label_no (entry_of text r) q))
  all_spelled dotted =
      (λ w q h. let i : q < r.count = omega (arith, count_is) in rw (label_is q i) (w q i), λ w q h. rw (label_is q h) at (w q (omega (arith, count_is))))

  pub sound_of : r.count ≤ label_places → fields_test (kind_at r.kind) r.third r.count r.x r.y ≡ true
      → EachBelow label_places (λ q. q < r.count → Spelled (kind_at r.kind).dotted (named text r q)) → Sound (entry_of text r)
  unfolding entry_of
  sound_of few f w =
      let a = (says_allowed r.kind r.third r.count r.x r.y).so f in
      let spelled = (all_spelled (kind_at r.kind).dotted).0 (λ q h. w q (omega (arith, h, few)) h) in
      record { known = a.0; third = a.1.0; count = count_is ∙ a.1.1.0; spelled = spelled; no_x = a.1.1.1.0; no_y = a.1.1.1.1 }
