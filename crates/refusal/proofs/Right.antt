-- The first fault of an order, by tests, is the one that is told in words: the search at each fault is right, and the order is
-- gone through from its head. Assumes nothing.
use mathlib.Core.Path.{◌≡◌, refl, sym, subst}
use mathlib.Core.Logic.{⊎_elim, ◌↔◌}
use mathlib.Core.Bool.{Bool}
use mathlib.Core.Option.{Option, none, some}
use mathlib.Core.List.Memᴰ
use mathlib.Core.List.{List, [], ◌∷◌}
use Prim.Native.Nat.{ℕ}
use Rattle.refusal.specs.First.{lowest, Answer, passed, refused, tell, first, Nowhere, Told, this, later, NoneHolds}
use Rattle.refusal.proofs.Says.{Says}
use Rattle.refusal.proofs.Search.{Searched, at, nowhere, searched, lowest_iff, none_iff}

-- what is answered says
abbrev Found : {F : Type 0} → (F → ℕ → Type 0) → ℕ → List F → Answer F → Type 0
Found Holds n order passed = NoneHolds Holds n order
Found Holds n order (refused f i) = Told Holds n order f i

module _ {F : Type 0} (test : F → ℕ → Bool) (Holds : F → ℕ → Type 0) (s : (f : F) (j : ℕ) → Says (test f j) (Holds f j)) (n : ℕ) where
  put : (f : F) (order : List F) (o : Option ℕ) (a : Answer F) → Searched (Holds f) n o → Found Holds n order a → Found Holds n (f ∷ order) (tell f o a)
  put f order (some i) a (at l) r = this l
  put f order none passed (nowhere never) all = λ g m. ⊎_elim (λ e. subst (λ (h : F). Nowhere (Holds h) n) (sym e) never) (λ k. all g k) (Memᴰ.cases_cons m)
  put f order none (refused g i) (nowhere never) t = later never t

  found : (order : List F) → Found Holds n order (first order test n)
  unfolding first
  found [] = λ f m. absurd (Memᴰ.not-nil m)
  found (f ∷ order) = put f order (lowest n (test f)) (first order test n) (searched (test f) (Holds f) (s f) n) (found order)

  tells : (order : List F) (f : F) (i : ℕ) → Told Holds n order f i → first order test n ≡ refused f i
  unfolding first
  tells _ f i (this {order = rest} l) = rw ((lowest_iff (test f) (Holds f) (s f) n i).1 l) refl
  tells _ f i (later {g = g} {order = rest} never t) = rw ((none_iff (test g) (Holds g) (s g) n).1 never) (tells rest f i t)

  passes : (order : List F) → NoneHolds Holds n order → first order test n ≡ passed
  unfolding first
  passes [] all = refl
  passes (f ∷ order) all =
      rw ((none_iff (test f) (Holds f) (s f) n).1 (all f (Memᴰ.head refl))) (passes order (λ g m. all g (Memᴰ.tail m)))

  -- f is told at i exactly if it is the first fault that holds anywhere, and i the lowest place where it holds
  pub refused_iff : (order : List F) (f : F) (i : ℕ) → (first order test n ≡ refused f i) ↔ Told Holds n order f i
  refused_iff order f i = (λ e. subst (Found Holds n order) e (found order), tells order f i)

  -- nothing is told exactly if no fault of the order holds anywhere
  pub passed_iff : (order : List F) → (first order test n ≡ passed) ↔ NoneHolds Holds n order
  passed_iff order = (λ e. subst (Found Holds n order) e (found order), passes order)
