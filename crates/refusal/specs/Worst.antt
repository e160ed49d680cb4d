-- The first fault of an order by one pass over the places: at each the rank of its first fault, and of all the least rank, at the lowest
-- place that has it.
use Rattle.std.specs.Prelude.{Bool, cond, List, [], ◌∷◌, ℕ, zero, suc, ltb}
use Rattle.refusal.specs.First.{Answer, passed, refused}

-- the place in the order of the first fault that holds at place i, or the length of the order
abbrev pub rank_at : {F : Type 0} → List F → (F → ℕ → Bool) → ℕ → ℕ
rank_at [] test i = 0
rank_at (f ∷ order) test i = cond (test f i) 0 (suc (rank_at order test i))

-- a rank and a place
pub record Worst : Type 0 where
  pub rank : ℕ
  pub place : ℕ

-- one place more
abbrev pub worse : ℕ → ℕ → Worst → Worst
worse r i w = cond (ltb r w.rank) (record { rank = r; place = i }) w

-- the least rank of the first n places, below a top, at the lowest place that has it
abbrev pub worst : ℕ → (ℕ → ℕ) → ℕ → Worst
worst top ranks zero = record { rank = top; place = 0 }
worst top ranks (suc n) = worse (ranks n) n (worst top ranks n)

-- what a rank and a place tell
abbrev pub ranked : {F : Type 0} → List F → ℕ → ℕ → Answer F
ranked [] k i = passed
ranked (f ∷ order) zero i = refused f i
ranked (f ∷ order) (suc k) i = ranked order k i
