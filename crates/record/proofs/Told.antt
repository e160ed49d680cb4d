-- 30 is told at a place exactly if the list is at fault there and at no lower place, and a list passes exactly if it is at fault
-- nowhere: the test of a place says its statement. Assumes nothing.
use Rattle.std.specs.Prelude.{Ok, Err}
use mathlib.Core.Path.{◌≡◌, refl, ap}
use mathlib.Core.Logic.{◌⊎◌, inl, inr, ◌↔◌}
use mathlib.Core.Bool.{Bool}
use mathlib.Core.Option.{Option, none, some}
use mathlib.Core.List.{List}
use Prim.Native.Nat.{ℕ, ◌<◌}
use lib.ListN.{length}
use Rattle.refusal.specs.First.{SomeBelow, Lowest, Nowhere, lowest}
use Rattle.refusal.proofs.Says.{Says, says_and, says_or, says_not, says_iff, says_eq, says_le, says_lt, says_any}
use Rattle.refusal.proofs.Search.{lowest_iff, none_iff}
use Rattle.refusal.specs.declared.Refusal.{Refusal}
use Rattle.record.specs.Record.{first_guess}
use Rattle.record.specs.Decode.{is_guess}
use Rattle.record.specs.Entry.{Entry, entry_at}
use Rattle.record.specs.Sound.{Sound}
use Rattle.record.specs.Formed.{malformed_at, GuessEntry, Malformed, unsound, guess_first, after_guess, no_guess, places, malformed_test, verdict, formed_of}
use Rattle.record.proofs.Agree.{says_sound}

-- ---- a place at fault

-- the four ways of a fault
abbrev Cases : List Entry → ℕ → Type 0
Cases es i =
    ((i < length es)
    × ((Sound (entry_at es i) → ⊥) ⊎ (((i ≡ 0) × GuessEntry (entry_at es i)) ⊎ ((GuessEntry (entry_at es i) → ⊥) × SomeBelow i (λ j. GuessEntry (entry_at es j))))))
    ⊎ ((i ≡ length es) × (SomeBelow i (λ j. GuessEntry (entry_at es j)) → ⊥))

of_cases : (es : List Entry) (i : ℕ) → Cases es i → Malformed es i
of_cases es i (inl (h, inl f)) = unsound h f
of_cases es i (inl (h, inr (inl (z, g)))) = guess_first h z g
of_cases es i (inl (h, inr (inr (n, s)))) = after_guess h n s
of_cases es i (inr (e, f)) = no_guess e f

to_cases : (es : List Entry) (i : ℕ) → Malformed es i → Cases es i
to_cases es i (unsound h f) = inl (h, inl f)
to_cases es i (guess_first h z g) = inl (h, inr (inl (z, g)))
to_cases es i (after_guess h n s) = inl (h, inr (inr (n, s)))
to_cases es i (no_guess e f) = inr (e, f)

-- one verdict is of one place
verdict_same : (o p : Option ℕ) → verdict o ≡ verdict p → o ≡ p
verdict_same (some i) (some j) e =
    let m : malformed_at i ≡ malformed_at j = cc in
    ap (λ (r : Refusal). some r.place) m
verdict_same (some i) none e = cc
verdict_same none (some j) e = cc
verdict_same none none e = refl

-- where a test of each place says its statement, a place is told exactly if it is the lowest, and nothing is exactly if there is none
module _ (p : ℕ → Bool) (P : ℕ → Type 0) (s : (i : ℕ) → Says (p i) (P i)) (n : ℕ) where
  told_iff : (i : ℕ) → (verdict (lowest n p) ≡ Err (malformed_at i)) ↔ Lowest P n i
  told_iff i = (λ e. (lowest_iff p P s n i).0 (verdict_same _ (some i) e), λ w. ap verdict ((lowest_iff p P s n i).1 w))

  pub none_told_iff : (verdict (lowest n p) ≡ Ok tt) ↔ Nowhere P n
  none_told_iff = (λ e. (none_iff p P s n).0 (verdict_same _ none e), λ w. ap verdict ((none_iff p P s n).1 w))

module _ (es : List Entry) where
  says_guess : (i : ℕ) → Says (is_guess (entry_at es i).kind) (GuessEntry (entry_at es i))
  says_guess i = says_le first_guess (entry_at es i).kind

  pub says_malformed : (i : ℕ) → Says (malformed_test es i) (Malformed es i)
  unfolding malformed_test
  says_malformed i =
      says_iff (of_cases es i) (to_cases es i)
      (says_or
      (says_and (says_lt i (length es))
      (says_or (says_not (says_sound (entry_at es i)))
      (says_or (says_and (says_eq i 0) (says_guess i)) (says_and (says_not (says_guess i)) (says_any _ _ says_guess i)))))
      (says_and (says_eq i (length es)) (says_not (says_any _ _ says_guess i))))

  -- 30 is told at i exactly if the list is at fault there and at no lower place
  pub refused_iff : (i : ℕ) → (formed_of es ≡ Err (malformed_at i)) ↔ Lowest (Malformed es) (places es) i
  unfolding formed_of
  refused_iff = told_iff (malformed_test es) (Malformed es) says_malformed (places es)

  -- a list passes exactly if it is at fault nowhere
  pub passed_iff : (formed_of es ≡ Ok tt) ↔ Nowhere (Malformed es) (places es)
  unfolding formed_of
  passed_iff = none_told_iff (malformed_test es) (Malformed es) says_malformed (places es)
