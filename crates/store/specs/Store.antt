-- Bytes put into a buffer.
use Rattle.std.specs.Prelude.{◌≡◌, Bool, cond, List, ◌++◌, ℕ, ◌+◌, leb, length, take, drop}

-- there is room for the bytes from a place on
abbrev pub room : List ℕ → ℕ → List ℕ → Bool
room d at bs = leb (at + length bs) (length d)

-- the buffer with bytes in the place of what stood from a place on
unfoldable pub written : List ℕ → ℕ → List ℕ → List ℕ
written d at bs = take at d ++ bs ++ drop (at + length bs) d

-- where there is room the bytes are put, and the answer tells whether there was
pub record Put (d : List ℕ) (at : ℕ) (bs : List ℕ) (answer : Bool) (after : List ℕ) : Type 0 where
  pub told : answer ≡ room d at bs
  pub buffer : after ≡ cond (room d at bs) (written d at bs) d
