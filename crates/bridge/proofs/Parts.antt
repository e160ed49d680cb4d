-- The start and length that are told of a label name the label itself; and a number that is no stage's gives an impossible layout. A good record is whole,
-- so that it is the one record of its bytes. Assumes nothing.
use mathlib.Core.Path.{◌≡◌, refl, sym, subst, ◌∙◌}
use mathlib.Core.Bool.{Bool, true, false, cond}
use mathlib.Core.List.{List, [], ◌∷◌}
use Prim.Native.Nat.{ℕ, zero, suc, ◌+◌, ◌<◌}
use native.Mathlib.Omega.{arith}
use lib.Dec.{eqb}
use lib.ListN.{length, take, drop, take-append-drop}
use lib.Seq.{take_all, take-append_seam}
use borrow.Author.Tests.{ne_eqb, lt-ltb, lt-leb}
use Rattle.refusal.proofs.Says.{says_and, says_lt}
use Rattle.kinds.specs.Kinds.{label_places}
use Rattle.record.specs.Record.{record_bytes}
use Rattle.record.specs.Decode.{decode, decode_at}
use Rattle.record.specs.Entry.{part, view_of, named}
use Rattle.ask.specs.Ask.{label_of}
use Rattle.record.proofs.Agree.{says_good}
use Rattle.layout.specs.Refusals.{impossible}
use Rattle.bridge.specs.Told.{start_told}
use Rattle.layout.specs.declared.Stage.{Stage}
use Rattle.layout.specs.declared.Stage.TheVariants.{Done}
use Rattle.layout.specs.Slots.{most_shapes, stage_numbered}
use Rattle.std.specs.Prelude.{Some, None}
use Rattle.bridge.specs.Given.{last_stage, stage_by, points_by, layout_by}

-- ---- labels

-- as many elements as a front has give that front
take_front : {A : Type 0} (n : ℕ) (xs : List A) → take (length (take n xs)) xs ≡ take n xs
take_front n xs = rw take-append-drop at (take-append_seam (take n xs) (drop n xs))

-- a part of a text is the part from the same start with its own length; an empty one stands anywhere
part_again : (text : List ℕ) (s n : ℕ) (l : List ℕ) → l ≡ part text s n → part text (cond (eqb (length l) 0) 0 s) (length l) ≡ l
part_again text s n [] e = refl
part_again text s n (x ∷ l) e =
    rw (ne_eqb (suc (length l)) 0 (omega arith)) (subst (λ m. take (length m) (drop s text) ≡ m) (sym e) (take_front n (drop s text)))

-- bytes as long as one record are that record
one_record : (b : List ℕ) → length b ≡ record_bytes → decode_at b 0 ≡ decode b
unfolding decode_at
one_record b e = rw (e, take_all record_bytes b (omega arith))

told_part : (text b : List ℕ) (q : ℕ) (t : Bool) → (t ≡ true → (length b ≡ record_bytes) × (q < label_places))
    → part text (start_told b q (length (cond t (named text (decode b) q) []))) (length (cond t (named text (decode b) q) [])) ≡ cond t (named text (decode b) q) []
told_part text b q false f = refl
told_part text b q true f = rw (one_record b (f refl).0, lt-leb label_places q (f refl).1) (part_again text (view_of (decode b) q).start (view_of (decode b) q).len (named text (decode b) q) refl)

-- the part of the text that is told of a label is the label
pub label_there : (text b : List ℕ) (q : ℕ) → part text (start_told b q (length (label_of text b q))) (length (label_of text b q)) ≡ label_of text b q
unfolding label_of
label_there text b q =
    told_part text b q _ (λ t. let w = (says_and (says_good text b) (says_lt q (decode b).count)).so t in (w.0.framed.whole, omega (arith, w.0.framed.few, w.1)))

-- ---- stages

-- 20 is told of every layout whose stage has no such number
pub no_such_stage : (points circles arcs s : ℕ) → last_stage < s → impossible (layout_by points circles arcs s) ≡ true
unfolding layout_by impossible
no_such_stage points circles arcs s h = rw (lt-ltb last_stage s h)

-- past the last number there is no stage
past : (s : ℕ) → last_stage < s → (stage_numbered s ≡ None) × (stage_by s ≡ Done)
past s h =
    let a : eqb s 0 ≡ false = ne_eqb s 0 (λ e. omega arith) in
    let b : eqb s 1 ≡ false = ne_eqb s 1 (λ e. omega arith) in
    let c : eqb s 2 ≡ false = ne_eqb s 2 (λ e. omega arith) in
    (rw (a, b, c, ne_eqb s 3 (λ e. omega arith)), rw (a, b, c))

-- the stage that has a number is the one that is meant
pub known_stage : (points s : ℕ) (t : Stage) → stage_numbered s ≡ Some t → (points ≡ points_by points s) × (t ≡ stage_by s)
known_stage points zero t e = (refl, cc)
known_stage points (suc zero) t e = (refl, cc)
known_stage points (suc (suc zero)) t e = (refl, cc)
known_stage points (suc (suc (suc zero))) t e = (refl, cc)
known_stage points (suc (suc (suc (suc n)))) t e = let none : None ≡ Some t = sym (past (suc (suc (suc (suc n)))) (omega arith)).0 ∙ e in absurd cc

pub unknown_stage : (points s : ℕ) → stage_numbered s ≡ None → (most_shapes + 1 ≡ points_by points s) × (Done ≡ stage_by s)
unknown_stage points zero e = absurd cc
unknown_stage points (suc zero) e = absurd cc
unknown_stage points (suc (suc zero)) e = absurd cc
unknown_stage points (suc (suc (suc zero))) e = absurd cc
unknown_stage points (suc (suc (suc (suc n)))) e = (rw (lt-ltb last_stage (suc (suc (suc (suc n)))) (omega arith)), sym (past (suc (suc (suc (suc n)))) (omega arith)).1)
