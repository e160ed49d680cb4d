-- A test says a statement: it passes exactly if the statement holds. Tests are put together by these laws, along the statement.
-- Assumes nothing.
use mathlib.Core.Path.{◌≡◌, refl, sym, ◌∙◌, subst}
use mathlib.Core.Logic.{◌⊎◌, inl, inr, ⊎_elim}
use mathlib.Core.Bool.{Bool, true, false, not, ◌&&◌, ◌||◌, cond, true≢false}
use Prim.Native.Nat.{ℕ, zero, suc, ◌≤◌, ◌<◌}
use native.Mathlib.Nat.{le_refl, eq-or-lt_of_le, le_of_suc-le-suc, not-suc-le-zero}
use native.Mathlib.Omega.{arith}
use lib.Dec.{leb, ltb, eqb}
use borrow.Author.Tests.{ltb-true, lt-ltb, leb-true, le-leb, eqb-true, eq-eqb}
use Rattle.refusal.specs.First.{any_below, all_below, SomeBelow, EachBelow}

pub record Says (b : Bool) (P : Type 0) : Type 0 where
  pub so : b ≡ true → P
  pub back : P → b ≡ true

-- ---- what a test says

-- a statement whose test fails does not hold
pub fails : {b : Bool} {P : Type 0} → Says b P → b ≡ false → P → ⊥
fails s e p = true≢false (sym (s.back p) ∙ e)

-- a test fails where its statement does not hold
pub refuted : {b : Bool} {P : Type 0} → Says b P → (P → ⊥) → b ≡ false
refuted {b = true} s f = absurd (f (s.so refl))
refuted {b = false} s f = refl

-- a statement with a test holds where it cannot fail
pub stable : {b : Bool} {P : Type 0} → Says b P → ((P → ⊥) → ⊥) → P
stable {b = true} s f = s.so refl
stable {b = false} s f = absurd (f (fails s refl))

-- two tests of one statement are one
pub says_once : {a b : Bool} {P : Type 0} → Says a P → Says b P → a ≡ b
says_once {a = true} s t = sym (t.back (s.so refl))
says_once {a = false} s t = sym (refuted t (fails s refl))

-- ---- tests put together

-- of a statement that holds exactly if another does
pub says_iff : {b : Bool} {P Q : Type 0} → (P → Q) → (Q → P) → Says b P → Says b Q
says_iff f g s = record { so = λ e. f (s.so e); back = λ q. s.back (g q) }

-- a test says that it passes
pub says_so : {b : Bool} → Says b (b ≡ true)
says_so = record { so = λ e. e; back = λ e. e }

pub says_never : Says false ⊥
says_never = record { so = λ e. true≢false (sym e); back = λ p. absurd p }

pub says_not : {b : Bool} {P : Type 0} → Says b P → Says (not b) (P → ⊥)
says_not {b = true} s = record { so = λ e. absurd (true≢false (sym e)); back = λ f. absurd (f (s.so refl)) }
says_not {b = false} s = record { so = λ e. fails s refl; back = λ f. refl }

pub says_and : {a b : Bool} {P Q : Type 0} → Says a P → Says b Q → Says (a && b) (P × Q)
says_and {a = true} s t = record { so = λ e. (s.so refl, t.so e); back = λ p. t.back p.1 }
says_and {a = false} s t = record { so = λ e. absurd (true≢false (sym e)); back = λ p. absurd (fails s refl p.0) }

pub says_or : {a b : Bool} {P Q : Type 0} → Says a P → Says b Q → Says (a || b) (P ⊎ Q)
says_or {a = true} s t = record { so = λ e. inl (s.so refl); back = λ p. refl }
says_or {a = false} s t =
    record { so = λ e. inr (t.so e); back = λ p. ⊎_elim (λ x. absurd (fails s refl x)) (λ y. t.back y) p }

pub says_unless : {a b : Bool} {P Q : Type 0} → Says a P → Says b Q → Says (a || b) ((P → ⊥) → Q)
says_unless {a = true} s t = record { so = λ e f. absurd (f (s.so refl)); back = λ g. refl }
says_unless {a = false} s t = record { so = λ e f. t.so e; back = λ g. t.back (g (fails s refl)) }

pub says_if : {a b : Bool} {P Q : Type 0} → Says a P → Says b Q → Says (not a || b) (P → Q)
says_if s t = says_iff (λ f p. f (λ n. n p)) (λ g n. g (stable s n)) (says_unless (says_not s) t)

pub says_cond : {a b c : Bool} {P Q R : Type 0} → Says a P → Says b Q → Says c R → Says (cond a b c) ((P → Q) × ((P → ⊥) → R))
says_cond {a = true} s t u = record { so = λ e. (λ p. t.so e, λ f. absurd (f (s.so refl))); back = λ w. t.back (w.0 (s.so refl)) }
says_cond {a = false} s t u = record { so = λ e. (λ p. absurd (fails s refl p), λ f. u.so e); back = λ w. u.back (w.1 (fails s refl)) }

-- ---- numbers

pub says_eq : (a b : ℕ) → Says (eqb a b) (a ≡ b)
says_eq a b = record { so = eqb-true a b; back = eq-eqb a b }

pub says_le : (a b : ℕ) → Says (leb a b) (a ≤ b)
says_le a b = record { so = leb-true a b; back = le-leb a b }

pub says_lt : (a b : ℕ) → Says (ltb a b) (a < b)
says_lt a b = record { so = ltb-true a b; back = lt-ltb a b }

-- ---- every number below n, and some number below n

-- a number below the next of n is n, or below n
pub below_suc : {n j : ℕ} → j < suc n → (j ≡ n) ⊎ (j < n)
below_suc h = eq-or-lt_of_le (le_of_suc-le-suc h)

module _ (p : ℕ → Bool) (P : ℕ → Type 0) (s : (j : ℕ) → Says (p j) (P j)) where
  pub says_any : (n : ℕ) → Says (any_below n p) (SomeBelow n P)
  says_any zero = record { so = λ e. absurd (true≢false (sym e)); back = λ w. absurd (not-suc-le-zero w.1) }
  says_any (suc n) =
      says_iff
      (λ e. ⊎_elim (λ w. (w.0, omega (arith, w.1), w.2)) (λ h. (n, le_refl (suc n), h)) e)
      (λ w. ⊎_elim (λ e. inr (subst P e w.2)) (λ l. inl (w.0, l, w.2)) (below_suc w.1))
      (says_or (says_any n) (s n))

  pub says_all : (n : ℕ) → Says (all_below n p) (EachBelow n P)
  says_all zero = record { so = λ e j h. absurd (not-suc-le-zero h); back = λ f. refl }
  says_all (suc n) =
      says_iff
      (λ w j h. ⊎_elim (λ e. subst P (sym e) w.1) (λ l. w.0 j l) (below_suc h))
      (λ f. (λ j h. f j (omega arith), f n (le_refl (suc n))))
      (says_and (says_all n) (s n))
