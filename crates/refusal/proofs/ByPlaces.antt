-- One pass over the places tells what the faults in their order, each over all places, tell. Assumes nothing.
use mathlib.Core.Path.{◌≡◌, refl, sym, ap, ◌∙◌}
use mathlib.Core.Logic.{⊎_elim}
use mathlib.Core.Bool.{Bool, true, false, cond}
use mathlib.Core.Option.{Option, none, some}
use mathlib.Core.List.{List, [], ◌∷◌, map}
use Prim.Native.Nat.{ℕ, zero, suc, ◌+◌, ◌≤◌, ◌<◌}
use native.Mathlib.Nat.{not-suc-le-zero}
use native.Mathlib.Numerals.{add-one}
use native.Mathlib.Omega.{arith}
use lib.Dec.{ltb}
use lib.ListN.{length, get_or}
use borrow.Author.Tests.{lt-ltb, le-ltb}
use Rattle.refusal.specs.First.{EachBelow, Answer, passed, refused, or_else, lowest, tell, first}
use Rattle.refusal.proofs.Says.{says_lt, says_iff, says_once, below_suc}
use Rattle.refusal.specs.Worst.{rank_at, Worst, worse, worst, ranked}

-- the same with every rank one more
abbrev bump : Worst → Worst
bump w = record { rank = suc w.rank; place = w.place }

lt_suc : (a b : ℕ) → ltb (suc a) (suc b) ≡ ltb a b
lt_suc a b = says_once (says_lt (suc a) (suc b)) (says_iff (λ h. omega arith) (λ h. omega arith) (says_lt a b))

bump_cond : (t : Bool) (r i : ℕ) (w : Worst) → cond t (record { rank = suc r; place = i }) (bump w) ≡ bump (cond t (record { rank = r; place = i }) w)
bump_cond true r i w = refl
bump_cond false r i w = refl

-- where the first fault holds nowhere
bumped : (top : ℕ) (p : ℕ → Bool) (ranks : ℕ → ℕ) (n : ℕ) → EachBelow n (λ j. p j ≡ false) → worst (suc top) (λ i. cond (p i) 0 (suc (ranks i))) n ≡ bump (worst top ranks n)
bumped top p ranks zero f = refl
bumped top p ranks (suc n) f =
    rw (f n (omega arith), bumped top p ranks n (λ j h. f j (omega arith)), lt_suc) (bump_cond (ltb (ranks n) (worst top ranks n).rank) (ranks n) n (worst top ranks n))

-- the search, one place more
module _ (top : ℕ) (p : ℕ → Bool) (ranks : ℕ → ℕ) where
  abbrev zero_at : ℕ → Worst
  zero_at i = record { rank = 0; place = i }

  abbrev with_first : ℕ → ℕ
  with_first i = cond (p i) 0 (suc (ranks i))

  -- where the search has found a place, the least rank is 0 and stands there
  abbrev Shown : ℕ → Option ℕ → Type 0
  Shown n (some i) = worst (suc top) with_first n ≡ zero_at i
  Shown n none = EachBelow n (λ j. p j ≡ false)

  shown_next : (n : ℕ) (o : Option ℕ) (b : Bool) → p n ≡ b → Shown n o → Shown (suc n) (or_else o (cond b (some n) none))
  shown_next n (some i) b e h = rw (h, le-ltb (with_first n) 0 (omega arith))
  shown_next n none true e f = rw (e, bumped top p ranks n f, lt-ltb 0 (suc (worst top ranks n).rank) (omega arith))
  shown_next n none false e f = λ j h. ⊎_elim (λ k. ap p k ∙ e) (λ l. f j l) (below_suc h)

  shown : (n : ℕ) → Shown n (lowest n p)
  unfolding lowest
  shown zero = λ j h. absurd (not-suc-le-zero h)
  shown (suc n) = shown_next n (lowest n p) (p n) refl (shown n)

module _ {F : Type 0} (test : F → ℕ → Bool) (n : ℕ) where
  -- what one pass tells
  abbrev passes : List F → Answer F
  passes order = let w = worst (length order) (rank_at order test) n in ranked order w.rank w.place

  tell_one : (f : F) (order : List F) (o : Option ℕ) → Shown (length order) (test f) (rank_at order test) n o → first order test n ≡ passes order
      → tell f o (first order test n) ≡ passes (f ∷ order)
  tell_one f order (some i) h e = sym (ap (λ (w : Worst). ranked (f ∷ order) w.rank w.place) h)
  tell_one f order none h e = e ∙ sym (ap (λ (w : Worst). ranked (f ∷ order) w.rank w.place) (bumped (length order) (test f) (rank_at order test) n h))

  -- THE law
  pub by_places : (order : List F) → first order test n ≡ passes order
  unfolding first
  by_places [] = refl
  by_places (f ∷ order) = tell_one f order (lowest n (test f)) (shown (length order) (test f) (rank_at order test) n) (by_places order)

-- a rank that is one of the order's tells its fault, with its number, and one past the last tells nothing
pub at_rank : {F : Type 0} (number : F → ℕ) (order : List F) (k i : ℕ) → k < length order
    → (f : F) × (ranked order k i ≡ refused f i) × (get_or (map number order) k 0 ≡ number f)
at_rank number [] k i h = absurd (not-suc-le-zero h)
at_rank number (f ∷ order) zero i h = (f, refl, refl)
at_rank number (f ∷ order) (suc k) i h = at_rank number order k i (omega arith)

pub past_rank : {F : Type 0} (order : List F) (k i : ℕ) → length order ≤ k → ranked order k i ≡ passed
past_rank [] k i h = refl
past_rank (f ∷ order) zero i h = absurd (not-suc-le-zero h)
past_rank (f ∷ order) (suc k) i h = past_rank order k i (omega arith)

-- the pass, one place more
pub worst_more : (top : ℕ) (ranks : ℕ → ℕ) (i r : ℕ) (w v : Worst) → w ≡ worst top ranks i → r ≡ ranks i → v ≡ worse r i w → v ≡ worst top ranks (i + 1)
worst_more top ranks i r w v ew er ev = ev ∙ rw (ew, er, add-one i) refl
