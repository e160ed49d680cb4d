-- Bytes written into a lent buffer from a place on.
use Rattle.std.specs.Prelude.{◌≡◌, Bool, true, false, cond, List, ℕ, ◌+◌, leb, length, Option, Some, None}
use Rattle.store.specs.Store.{room, written}
use Rattle.rail.specs.declared.Rail.{Rail}

-- where writing stands after so many bytes, in a buffer of a size; none is where there was no room
abbrev pub next_place : ℕ → Option ℕ → ℕ → Option ℕ
next_place size (Some n) len = cond (leb (n + len) size) (Some (n + len)) None
next_place size None len = None

-- a buffer with bytes put where writing stands, if there is room for them all
abbrev pub put_at : List ℕ → Option ℕ → List ℕ → List ℕ
put_at d (Some n) bs = cond (room d n bs) (written d n bs) d
put_at d None bs = d

-- bytes where writing stands: where there is room for them all the next place is told, and they are written if they are to be; where there
-- is none, that is told and nothing changes
pub record Prints (write : Bool) (d : List ℕ) (p : Option ℕ) (bs : List ℕ) (answer : Option ℕ) (after : List ℕ) : Type 0 where
  pub told : answer ≡ next_place (length d) p (length bs)
  pub buffer : after ≡ cond write (put_at d p bs) d

-- a rail stays over the same lent buffer, and goes on writing, or measuring
pub record Same (r after : Rail) : Type 0 where
  pub pointer : after.buf.ref_ptr ≡ r.buf.ref_ptr
  pub name : after.buf.ghost_name ≡ r.buf.ghost_name
  pub write : after.write ≡ r.write

-- a rail with bytes printed on it
pub record Printed (r : Rail) (bs : List ℕ) (after : Rail) : Type 0 where
  pub prints : Prints r.write r.buf.now r.place bs after.place after.buf.now
  pub same : Same r after

-- ---- several pieces, one after the other

-- bytes added where writing stands, in one step or in several: the next place is told, or none where there was no room for all. A buffer that
-- is measured alone stays as it was; in one that is written they stand where there was room for all, and else it keeps its length alone
pub record Adds (write : Bool) (d : List ℕ) (p : Option ℕ) (bs : List ℕ) (answer : Option ℕ) (after : List ℕ) : Type 0 where
  pub told : answer ≡ next_place (length d) p (length bs)
  pub size : length after ≡ length d
  pub kept : write ≡ false → after ≡ d
  pub put : write ≡ true → (n m : ℕ) → p ≡ Some n → answer ≡ Some m → after ≡ written d n bs

-- a rail with bytes added on it: what a piece owes
pub record Added (r : Rail) (bs : List ℕ) (after : Rail) : Type 0 where
  pub adds : Adds r.write r.buf.now r.place bs after.place after.buf.now
  pub same : Same r after
