-- A drawing that is laid out, and that no fault behind 30 is told of by its numbers, is well formed: each label is that of a declaration with a
-- part behind it that its place allows, and so it is spelled as a label. Assumes nothing.
use mathlib.Core.Path.{◌≡◌, refl, ap, ◌∙◌}
use mathlib.Core.Logic.{◌⊎◌, inl, inr}
use mathlib.Core.Bool.{Bool, true, false, ◌&&◌, ◌||◌}
use mathlib.Core.List.{List, [], ◌++◌, append-nil, Memᴰ}
use Prim.Native.Nat.{ℕ, zero, suc, ◌<◌}
use native.Mathlib.Omega.{arith}
use lib.ListN.{length, get_or}
use Rattle.ground.proofs.Lists.{all}
use Rattle.ground.proofs.UpTo.{length_up_to, get_or_up_to}
use Rattle.refusal.specs.First.{EachBelow, all_below, passed, first}
use Rattle.refusal.proofs.Says.{says_so, says_and, says_all}
use Rattle.refusal.proofs.Right.{passed_iff}
use Rattle.text.specs.Text.{is_alphanum}
use Rattle.record.specs.declared.Record.{Record}
use Rattle.kinds.specs.Kinds.{kinds, kind_at, Known, Declaration, Rule, Guess, label_places}
use Rattle.record.specs.Decode.{decode, count_of, record_of}
use Rattle.record.specs.Entry.{Label, Entry, entry_at, label_no, named, entry_of}
use Rattle.record.specs.Sound.{Plain, Spelled}
use Rattle.record.specs.Laid.{LaidOut}
use Rattle.record.specs.Formed.{WellFormed}
use Rattle.kinds.proofs.Table.{few_labels, declared_label, one_of_three}
use Rattle.record.proofs.Laid.{laid_formed}
use Rattle.names.specs.Labels.{drawn, kind_no, name_no, same}
use Rattle.names.specs.Cut.{Pointless, part_no, KnownPart}
use Rattle.names.proofs.Laws.{says_same}
use Rattle.names.proofs.Cut.{plain_pointless, suffix_no, suffix_of}
use Rattle.names.proofs.Drawn.{decode_here, drawn_at, drawn_kind, drawn_length}
use Rattle.drawing.specs.Needs.{Choice, Need, need_at}
use Rattle.drawing.specs.Faults as faults
use faults.{Meets, Fault, Holds, wrong_label, no_such_part, behind30}
use Rattle.drawing.specs.Check.{test}
use Rattle.drawing.proofs.Agree.{agree}
use Rattle.drawing.proofs.Choices.{choice, met_at}
use Rattle.drawing.proofs.Numbers.{declares, known_test, says_known_part}

-- ---- the suffixes that a kind's places need

-- a known part stands behind the label of a choice, and none where no point may
abbrev plain_test : Bool → Choice → Bool
plain_test dotted c = known_test c.suffix && (dotted || same c.suffix [])

-- so it is for each place of each kind: one computed test of the table
plain_needs : (k q : ℕ) → k < length kinds → q < label_places → all (plain_test (kind_at k).dotted) (need_at k q) ≡ true
plain_needs k q h g = (says_all _ _ (λ j. says_all (plain_at j) (λ p. plain_at j p ≡ true) (λ p. says_so) label_places) (length kinds)).so refl k h q g
  where
    plain_at : ℕ → ℕ → Bool
    plain_at j p = all (plain_test (kind_at j).dotted) (need_at j p)

-- ---- a label that is met

-- a word of letters
plain_word : (l : Label) → 0 < length l → all_below (length l) (λ k. is_alphanum (get_or l k 0)) ≡ true → Plain l
plain_word l s e = record { some = s; each = (says_all (λ k. is_alphanum (get_or l k 0)) (λ k. is_alphanum (get_or l k 0) ≡ true) (λ k. says_so) (length l)).so e }

-- a part behind a plain label is spelled as a label that has a point
part_spelled : (a : Label) → Plain a → (p : ℕ) → Spelled true (a ++ suffix_no p)
unfolding suffix_no
part_spelled a pa zero = inl (rw append-nil pa)
part_spelled a pa (suc zero) = inr (a, _, refl, pa, plain_word _ (omega arith) refl)
part_spelled a pa (suc (suc zero)) = inr (a, _, refl, pa, plain_word _ (omega arith) refl)
part_spelled a pa (suc (suc (suc zero))) = inr (a, _, refl, pa, plain_word _ (omega arith) refl)
part_spelled a pa (suc (suc (suc (suc n)))) = inr (a, _, refl, pa, plain_word _ (omega arith) refl)

spelled_so : (dotted : Bool) (a suffix : Label) → Plain a → KnownPart suffix → (dotted || same suffix []) ≡ true → Spelled dotted (a ++ suffix)
spelled_so true a suffix pa k e = rw (suffix_of suffix k.one) (part_spelled a pa (part_no suffix))
spelled_so false a suffix pa k e = rw ((says_same suffix []).so e, append-nil) pa

-- where declared labels are plain
met_spelled : (es : List Entry) (dotted : Bool) → EachBelow (length es) (λ j. Declaration (kind_no es j) → Plain (name_no es j)) → (need : Need) (l : Label) → all (plain_test dotted) need ≡ true → Meets es need l → Spelled dotted l
met_spelled es dotted plain need l a m =
    let (c, p, (j, h, (d, e))) = choice es l (plain_test dotted) need a m in
    let (known, bare) = (says_and (says_known_part c.suffix) says_so).so p in
    rw (← e) (spelled_so dotted (name_no es j) c.suffix (plain j h (rw d (declares c.shape))) known bare)

-- ---- a drawing that is laid out

module _ (text bs : List ℕ) (laid : LaidOut text bs) where
  abbrev es : List Entry
  es = drawn text bs

  -- its entries, record by record
  entry_here : (i : ℕ) → i < count_of bs → entry_at es i ≡ entry_of text (decode (record_of bs i))
  entry_here i h = drawn_at text bs i ∙ ap (entry_of text) (decode_here bs i h)

  kind_here : (i : ℕ) → i < count_of bs → kind_no es i ≡ (decode (record_of bs i)).kind
  kind_here i h = drawn_kind text bs i ∙ ap (λ (r : Record). r.kind) (decode_here bs i h)

  -- declared labels are plain, and so without a point
  declared_plain : EachBelow (length es) (λ j. Declaration (kind_no es j) → Plain (name_no es j))
  unfolding entry_of
  declared_plain j g d =
      let h : j < count_of bs = omega (arith, g, drawn_length text bs) in
      let r = decode (record_of bs j) in
      let k : Declaration r.kind = rw (kind_here j h) at d in
      let l = laid.each j h in
      rw (entry_here j h, get_or_up_to r.count (named text r) 0 [] (omega (arith, l.count, (declared_label r.kind k).0))) (l.plain k.1)

  pub declared_pointless : EachBelow (length es) (λ j. Declaration (kind_no es j) → Pointless (name_no es j))
  declared_pointless j h d = plain_pointless (name_no es j) (declared_plain j h d)

  -- where nothing is told behind 30
  module _ (none : first behind30 (test es) (length es) ≡ passed) where
    never : (f : Fault) → Memᴰ f behind30 → (i : ℕ) → i < length es → Holds es f i → ⊥
    never = (passed_iff (test es) (Holds es) (agree es) (length es) behind30).0 none

    -- each label is spelled as a label: a declaration's is plain, and any other is met
    spelled_at : (i q : ℕ) → i < length es → Known (kind_no es i) → q < (kind_at (kind_no es i)).labels → Spelled (kind_at (kind_no es i)).dotted (label_no (entry_at es i) q)
    spelled_at i q h k g = go (one_of_three (kind_no es i) k) q g
      where
        go : Declaration (kind_no es i) ⊎ (Rule (kind_no es i) ⊎ Guess (kind_no es i)) → (q : ℕ) → q < (kind_at (kind_no es i)).labels → Spelled (kind_at (kind_no es i)).dotted (label_no (entry_at es i) q)
        go (inl d) zero g = rw (declared_label (kind_no es i) d).1 (declared_plain i h d)
        go (inl d) (suc q) g = absurd (omega (arith, g, (declared_label (kind_no es i) d).0))
        go (inr u) q g =
            met_spelled es (kind_at (kind_no es i)).dotted declared_plain (need_at (kind_no es i) q) (label_no (entry_at es i) q) (plain_needs (kind_no es i) q k.1 (omega (arith, g, few_labels (kind_no es i))))
            (met_at es i (never wrong_label (Memᴰ.tail (Memᴰ.head refl)) i h) (never no_such_part (Memᴰ.tail (Memᴰ.tail (Memᴰ.head refl))) i h) u q g)

    -- so the list is well formed
    pub then_formed : WellFormed text bs
    unfolding entry_of
    then_formed =
        laid_formed text bs laid (λ i h q g.
        let b = record_of bs i in
        let l = laid.each i h in
        let few : q < (kind_at (decode b).kind).labels = omega (arith, rw (length_up_to (decode b).count (named text (decode b))) at g, l.count) in
        rw (kind_here i h, entry_here i h) at (spelled_at i q (omega (arith, h, drawn_length text bs)) (rw (kind_here i h) l.known) (rw (kind_here i h) few)))
