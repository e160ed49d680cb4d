-- What is told of a drawing, in docs/FORMAT.md's words: the numbers of the faults are apart, so the answer tells which fault the check found. Assumes nothing.
use Rattle.std.specs.Prelude.{Err}
use mathlib.Core.Path.{◌≡◌, refl, sym, ap, ◌∙◌}
use mathlib.Core.Logic.{◌↔◌}
use mathlib.Core.List.{List}
use Prim.Native.Nat.{ℕ}
use native.Mathlib.Omega.{arith}
use Rattle.refusal.specs.declared.Refusal.{Refusal}
use Rattle.refusal.specs.Refusal.{refusal, by_number}
use Rattle.refusal.specs.First.{Answer, passed, refused, Nowhere, Told}
use Rattle.kinds.specs.Kinds.{new_point, new_circle, new_arc, first_rule, last_rule}
use Rattle.record.specs.Entry.{Entry}
use Rattle.record.specs.Formed.{places}
use Rattle.drawing.specs.Faults as faults
use faults.{Fault, malformed, order, number_of, Holds}
use Rattle.drawing.specs.Check.{check_of, count_within, answer, checked_of, good_check}
use Rattle.ground.proofs.Pieces.{each_has}
use Rattle.drawing.proofs.Agree.{listed, check_refuses, check_passes}

-- a fault back from its number
fault_back : (f : Fault) → by_number number_of (λ g. g) malformed order (number_of f) ≡ f
fault_back f =
    each_has (λ (f : Fault). by_number number_of (λ g. g) malformed order (number_of f) ≡ f) order f (refl, (refl, (refl, (refl, (refl, (refl, tt)))))) (listed f)

numbers_apart : (f g : Fault) → number_of f ≡ number_of g → f ≡ g
numbers_apart f g e = sym (fault_back f) ∙ ap (by_number number_of (λ g. g) malformed order) e ∙ fault_back g

-- a pass is no refusal
not_passed : {p c a n : ℕ} {r : Refusal} → good_check p c a n ≡ Err r → ⊥
not_passed e = let z : ◌≡◌ {A = ℕ} 0 1 = cc in omega arith

module _ (es : List Entry) where
  refused_of : (o : Answer Fault) (f : Fault) (i : ℕ) → answer es o ≡ Err (refusal (number_of f) i) → o ≡ refused f i
  refused_of passed f i e = absurd (not_passed e)
  refused_of (refused g j) f i e =
      let r : refusal (number_of g) j ≡ refusal (number_of f) i = cc in
      let p : j ≡ i = ap (λ (r : Refusal). r.place) r in
      let q = numbers_apart g f (ap (λ (r : Refusal). r.number) r) in cc

  passed_of : (o : Answer Fault) → answer es o ≡ answer es passed → o ≡ passed
  passed_of passed e = refl
  passed_of (refused g j) e = absurd (not_passed (sym e))

  -- the number of f is told at i exactly if f holds at i, no fault earlier in the order holds anywhere, and f at no lower place
  pub refused_iff : (f : Fault) (i : ℕ) → (checked_of es ≡ Err (refusal (number_of f) i)) ↔ Told (Holds es) (places es) order f i
  unfolding checked_of
  refused_iff f i =
      let t = check_refuses es f i in
      (λ e. t.0 (refused_of (check_of es) f i e), λ w. ap (answer es) (t.1 w))

  -- a drawing passes, with its counts, exactly if no fault holds anywhere
  pub passed_iff : (checked_of es ≡ good_check (count_within es new_point new_point) (count_within es new_circle new_circle) (count_within es new_arc new_arc) (count_within es first_rule last_rule)) ↔ ((f : Fault) → Nowhere (Holds es f) (places es))
  unfolding checked_of
  passed_iff =
      let t = check_passes es in
      (λ e. t.0 (passed_of (check_of es) e), λ w. ap (answer es) (t.1 w))
