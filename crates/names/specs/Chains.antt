-- Chains of declarations by the hash of their labels: for each hash the first entry that has it, and for each entry the next one. The
-- number of entries stands for none. Only contracts of private functions speak of them: they need not be read.
use Rattle.std.specs.Prelude.{◌≡◌, Bool, true, ◌&&◌, cond, List, [], ◌∷◌, ℕ, zero, suc, ◌+◌, ◌*◌, ◌-◌, ◌%◌, ◌≤◌, ◌<◌, eqb, length, get_or}
use Rattle.kinds.specs.Kinds.{new_point, new_arc}
use Rattle.record.specs.Entry.{Label, Entry}
use Rattle.names.specs.Labels.{kind_no, name_no, within}
use Rattle.names.specs.Cut.{stem}

-- how many chains there are
abbrev pub chains : ℕ
chains = 1024

-- the hash of a label, from a hash on
unfoldable pub hash_from : ℕ → Label → ℕ
hash_from h [] = h
hash_from h (b ∷ l) = hash_from ((h * 37 + b) % chains) l

-- that of a label up to its first point
abbrev pub hash_of : Label → ℕ
hash_of l = hash_from 0 (stem l)

-- entry i declares a label that has the hash h
unfoldable pub hashed : List Entry → ℕ → ℕ → Bool
hashed es h i = within new_point new_arc (kind_no es i) && eqb (hash_of (name_no es i)) h

-- the first of the m numbers from i on that passes the test, or the number after them
unfoldable pub first_among : (ℕ → Bool) → ℕ → ℕ → ℕ
first_among p zero i = i
first_among p (suc m) i = cond (p i) i (first_among p m (suc i))

-- the first number from i on and below n that passes the test, or n
unfoldable pub first_from : (ℕ → Bool) → ℕ → ℕ → ℕ
first_from p n i = first_among p (n - i) i

-- a table holds for each of its places the first number from m on and below n that belongs there
pub record FirstsFrom (belongs : ℕ → ℕ → Bool) (places n m : ℕ) (table : List ℕ) : Type 0 where
  pub long : length table ≡ places
  pub each : (k : ℕ) → k < places → get_or table k 0 ≡ first_from (belongs k) n m

-- the table holds the next of each declaration from k on
abbrev pub NextsFrom : List Entry → ℕ → List ℕ → Type 0
NextsFrom es k nexts =
    (i : ℕ) → k ≤ i → i < length es → within new_point new_arc (kind_no es i) ≡ true → get_or nexts i 0 ≡ first_from (hashed es (hash_of (name_no es i))) (length es) (i + 1)

-- the tables hold the chains of the entries from k on
pub record ChainedFrom (es : List Entry) (k : ℕ) (heads nexts : List ℕ) : Type 0 where
  pub head : FirstsFrom (hashed es) chains (length es) k heads
  pub next : NextsFrom es k nexts

-- and of all
abbrev pub Chained : List Entry → List ℕ → List ℕ → Type 0
Chained es = ChainedFrom es 0
