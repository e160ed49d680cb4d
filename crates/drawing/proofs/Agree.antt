-- Each test of the check says its fault: it is put together along the statement. Assumes nothing.
use mathlib.Core.Path.{◌≡◌, refl, sym}
use mathlib.Core.Logic.{◌⊎◌, inl, inr, ◌↔◌}
use mathlib.Core.List.{List, [], ◌∷◌, Memᴰ}
use Prim.Native.Nat.{ℕ, suc, ◌≤◌}
use lib.ListN.{length}
use Rattle.refusal.specs.First.{passed, refused, Nowhere, Told}
use Rattle.refusal.proofs.Says.{Says, says_not, says_and, says_or, says_never, says_iff, says_eq, says_any}
use Rattle.refusal.proofs.Right.{refused_iff, passed_iff}
use Rattle.kinds.specs.Kinds.{kind_at, new_point, new_arc, pair_guess, number_guess}
use Rattle.record.specs.Entry.{Label, Entry, entry_at, label_no}
use Rattle.record.specs.Formed.{places}
use Rattle.record.proofs.Told.{says_malformed}
use Rattle.names.specs.Labels.{kind_no, name_no, labelled}
use Rattle.names.proofs.Laws.{says_same, says_within}
use Rattle.drawing.specs.Needs.{Shape, point, circle, arc, declaring, Part, parts, Need, need_at}
use Rattle.drawing.specs.Faults as faults
use faults.{Meets, Guessed, AnyUnguessed, WithoutGuess, Fault, malformed, declared_twice, wrong_label, no_such_part, guessed_twice, without_guess, order, Holds}
use Rattle.drawing.specs.Check as check
use check.{twice, named_at, some_named, meets, guess_at, guessed, any_unguessed, wrong_place, wrong_label_test, no_such_part_test, lacks, without_guess_test, test, check_of}

-- each fault stands in the order
pub listed : (f : Fault) → Memᴰ f order
listed malformed = Memᴰ.head refl
listed declared_twice = Memᴰ.tail (Memᴰ.head refl)
listed wrong_label = Memᴰ.tail (Memᴰ.tail (Memᴰ.head refl))
listed no_such_part = Memᴰ.tail (Memᴰ.tail (Memᴰ.tail (Memᴰ.head refl)))
listed guessed_twice = Memᴰ.tail (Memᴰ.tail (Memᴰ.tail (Memᴰ.tail (Memᴰ.head refl))))
listed without_guess = Memᴰ.tail (Memᴰ.tail (Memᴰ.tail (Memᴰ.tail (Memᴰ.tail (Memᴰ.head refl)))))

-- ---- labels

module _ (es : List Entry) where
  pub says_meets : (n : Need) (l : Label) → Says (meets es n l) (Meets es n l)
  unfolding some_named named_at
  says_meets [] l = says_never
  says_meets (c ∷ cs) l = says_or (says_any _ _ (λ j. says_and (says_eq _ _) (says_iff sym sym (says_same _ _))) (length es)) (says_meets cs l)

  pub says_guessed : (l : Label) (p : Part) → Says (guessed es p.guess p.suffix l) (Guessed es l p)
  unfolding guessed guess_at
  says_guessed l p = says_any _ _ (λ j. says_and (says_eq _ _) (says_same _ _)) (length es)

  says_unguessed : (l : Label) (ps : List Part) → Says (any_unguessed es l ps) (AnyUnguessed es l ps)
  says_unguessed l [] = says_never
  says_unguessed l (p ∷ ps) = says_or (says_not (says_guessed l p)) (says_unguessed l ps)

  -- ---- the faults

  module _ (i : ℕ) where
    -- 31 and 34
    says_twice : (low high : ℕ)
        → Says (twice es low high i)
        (((low ≤ kind_no es i) × (kind_no es i ≤ high)) × ((j : ℕ) × (suc j ≤ i) × (((low ≤ kind_no es j) × (kind_no es j ≤ high)) × (name_no es j ≡ name_no es i))))
    unfolding twice labelled
    says_twice low high = says_and (says_within _ _ _) (says_any _ _ (λ j. says_and (says_within _ _ _) (says_same _ _)) i)

    says_wrong_place : (q : ℕ) → Says (wrong_place es i q) (Meets es (need_at (kind_no es i) q) (label_no (entry_at es i) q) → ⊥)
    unfolding wrong_place
    says_wrong_place q = says_not (says_meets (need_at (kind_no es i) q) (label_no (entry_at es i) q))

    -- entry i declares the shape s, and a part of it has no guess
    abbrev Lacks : Shape → Type 0
    Lacks s = (kind_no es i ≡ declaring s) × AnyUnguessed es (name_no es i) (parts s)

    says_lacks : (s : Shape) → Says (lacks es i s) (Lacks s)
    says_lacks s = says_and (says_eq _ _) (says_unguessed (name_no es i) (parts s))

    some_shape : Lacks point ⊎ (Lacks circle ⊎ Lacks arc) → WithoutGuess es i
    some_shape (inl p) = (point, p.0, p.1)
    some_shape (inr (inl p)) = (circle, p.0, p.1)
    some_shape (inr (inr p)) = (arc, p.0, p.1)

    which_shape : (s : Shape) → Lacks s → Lacks point ⊎ (Lacks circle ⊎ Lacks arc)
    which_shape point p = inl p
    which_shape circle p = inr (inl p)
    which_shape arc p = inr (inr p)

    says_without_guess : Says (without_guess_test es i) (WithoutGuess es i)
    unfolding without_guess_test
    says_without_guess =
        says_iff some_shape (λ w. which_shape w.0 (w.1, w.2))
        (says_or (says_lacks point) (says_or (says_lacks circle) (says_lacks arc)))

  -- each test says its fault
  pub agree : (f : Fault) (i : ℕ) → Says (test es f i) (Holds es f i)
  unfolding wrong_label_test no_such_part_test
  agree malformed i = says_malformed es i
  agree declared_twice i = says_twice i new_point new_arc
  agree wrong_label i = says_and (says_within _ _ _) (says_any _ _ (says_wrong_place i) (kind_at (kind_no es i)).labels)
  agree no_such_part i = says_and (says_within _ _ _) (says_wrong_place i 0)
  agree guessed_twice i = says_twice i pair_guess number_guess
  agree without_guess i = says_without_guess i

  -- ---- the check tells the first fault of the order, at the lowest place

  -- it refuses with f at i exactly if f holds at i, no fault earlier in the order holds anywhere, and f at no lower place
  pub check_refuses : (f : Fault) (i : ℕ) → (check_of es ≡ refused f i) ↔ Told (Holds es) (places es) order f i
  unfolding check_of
  check_refuses f i = refused_iff (test es) (Holds es) agree (places es) order f i

  -- it passes exactly if no fault holds anywhere
  pub check_passes : (check_of es ≡ passed) ↔ ((f : Fault) → Nowhere (Holds es f) (places es))
  unfolding check_of
  check_passes =
      let p = passed_iff (test es) (Holds es) agree (places es) order in
      (λ e f. p.0 e f (listed f), λ all. p.1 (λ f m. all f))
