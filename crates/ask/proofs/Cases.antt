-- What asking a record answers, case by case. Assumes nothing.
use mathlib.Core.Path.{◌≡◌, refl, sym, ap, ◌∙◌}
use mathlib.Core.Bool.{Bool, true, false, ◌&&◌, cond}
use mathlib.Core.List.{List}
use Prim.Native.Nat.{ℕ, ◌≤◌, ◌<◌}
use native.Mathlib.Omega.{arith}
use lib.Dec.{eqb, ltb}
use borrow.Author.Tests.{eqb-true, eq-eqb, lt-ltb, le-ltb}
use Rattle.refusal.proofs.Says.{refuted, stable, says_once, says_and, says_iff, says_eq, says_lt}
use Rattle.ask.specs.Steps.{NamesLabel}
use Rattle.kinds.specs.Kinds.{kind_at, angle}
use Rattle.record.specs.Decode.{decode}
use Rattle.record.specs.Entry.{no_view, view_of}
use Rattle.record.specs.Sound.{Good, good_test, good_kind}
use Rattle.ask.specs.Ask.{label_of, label_from}
use Rattle.record.proofs.Agree.{says_good}
use Rattle.record.proofs.Records.{kind_of_lem, says_bad, kind_good}

module _ (text b : List ℕ) where
  -- the kind of a good record is not 0, and that of any other bytes is
  pub bad_of_kind : good_kind text b ≡ 0 → Good text b → ⊥
  bad_of_kind z = (says_bad text b true).so (eq-eqb _ _ (kind_good text b ∙ z))

  pub good_of_kind : (good_kind text b ≡ 0 → ⊥) → Good text b
  good_of_kind f = stable (says_good text b) (λ g. f (sym (kind_good text b) ∙ eqb-true _ _ ((says_bad text b true).back g)))

  kind_is : Good text b → good_kind text b ≡ (decode b).kind
  kind_is g = sym (kind_good text b) ∙ kind_of_lem text b true g

  -- ---- labels

  module _ (q : ℕ) where
    -- a label that is there lies inside the text
    label_view : NamesLabel text b q (cond (good_test text b && ltb q (decode b).count) (view_of (decode b) q) no_view)
    unfolding label_of label_from
    label_view = go (good_test text b && ltb q (decode b).count) refl
      where
        go : (t : Bool) → (good_test text b && ltb q (decode b).count) ≡ t → NamesLabel text b q (cond t (view_of (decode b) q) no_view)
        go true e =
            let w = (says_and (says_good text b) (says_lt q (decode b).count)).so e in
            record { inside = (w.0.framed.placed q (omega (arith, w.1, w.0.framed.few))).used w.1; starts = rw e refl; is = rw e refl }
        go false e = record { inside = omega arith; starts = rw e refl; is = rw e refl }

    pub no_record_lem : (Good text b → ⊥) → NamesLabel text b q no_view
    no_record_lem f = rw (refuted (says_good text b) f) at label_view

    module _ (g : Good text b) where
      pub no_label : (decode b).count ≤ q → NamesLabel text b q no_view
      no_label h = rw ((says_good text b).back g, le-ltb q (decode b).count h) at label_view

      pub label_named : q < (decode b).count → NamesLabel text b q (view_of (decode b) q)
      label_named h = rw ((says_good text b).back g, lt-ltb q (decode b).count h) at label_view

  -- ---- angles

  -- the sort of number, by the kind of a good record: none of the table's sorts is an angle but for a kind of the table
  pub angle_good : (kind_at (good_kind text b)).number ≡ angle → Good text b
  angle_good e = good_of_kind (λ z. omega (arith, sym (ap (λ (k : ℕ). (kind_at k).number) z) ∙ e))

  pub angle_test : good_test text b && eqb (kind_at (decode b).kind).number angle ≡ eqb (kind_at (good_kind text b)).number angle
  angle_test =
      says_once (says_and (says_good text b) (says_eq (kind_at (decode b).kind).number angle))
      (says_iff (λ e. let g = angle_good e in (g, rw (kind_is g) at e)) (λ w. rw (kind_is w.0) w.1)
      (says_eq (kind_at (good_kind text b)).number angle))
