-- The laws of bytes added to a buffer where writing stands: bytes added one after the other are added as one, and a piece that was
-- measured and has room is written whole. Assumes nothing.
use mathlib.Core.Path.{◌≡◌, refl, ap, ◌∙◌}
use mathlib.Core.Bool.{Bool, true, false, cond}
use mathlib.Core.List.{List, [], ◌++◌, append_assoc, append-nil}
use Prim.Native.Nat.{ℕ, ◌+◌, ◌≤◌}
use native.Mathlib.Nat.{add_assoc}
use native.Mathlib.Decide.{dec_le}
use native.Mathlib.Omega.{arith}
use lib.ListN.{length, length-append}
use borrow.Author.Tests.{le-leb, lt-leb}
use Rattle.std.specs.Prelude.{Option, Some, None}
use Rattle.store.specs.Store.{written}
use Rattle.store.proofs.Laws.{written_length, written_append}
use Rattle.rail.specs.Rail.{next_place, put_at, Prints, Same, Printed, Adds, Added}
use Rattle.rail.specs.declared.Rail.{Rail}

-- ---- places

-- one move after another is one move
next_both : (size : ℕ) (p : Option ℕ) (a b : ℕ) → next_place size (next_place size p a) b ≡ next_place size p (a + b)
next_both size None a b = refl
next_both size (Some n) a b = elim (dec_le (n + a) size) [
  | yes h ↦ rw (le-leb (n + a) size h, add_assoc)
  | no f ↦ rw (lt-leb (n + a) size (omega arith), lt-leb (n + (a + b)) size (omega arith))
]

-- what holds of none, and with room, holds of the next place and of the bytes put
by_room : (G : Option ℕ → List ℕ → Type 0) (d bs : List ℕ) (p : Option ℕ)
    → G None d → ((n : ℕ) → p ≡ Some n → n + length bs ≤ length d → G (Some (n + length bs)) (written d n bs)) → G (next_place (length d) p (length bs)) (put_at d p bs)
by_room G d bs None a b = a
by_room G d bs (Some n) a b = elim (dec_le (n + length bs) (length d)) [
  | yes h ↦ rw (le-leb (n + length bs) (length d) h) (b n refl h)
  | no f ↦ rw (lt-leb (n + length bs) (length d) (omega arith)) a
]

-- a place is told only after a place, where there was room
record Reached (d bs : List ℕ) (p : Option ℕ) (m : ℕ) : Type 0 where
  from : ℕ
  place : p ≡ Some from
  is : m ≡ from + length bs
  room : m ≤ length d

-- ---- one piece, by what the buffer holds

module _ {w : Bool} {d bs after : List ℕ} {p r : Option ℕ} where
  -- what was added is printed where nothing changes without room
  whole : Adds w d p bs r after → (r ≡ None → after ≡ d) → Prints w d p bs r after
  whole x full = record { told = x.told; buffer = go w refl }
    where
      go : (v : Bool) → w ≡ v → after ≡ cond v (put_at d p bs) d
      go false e = x.kept e
      go true e = by_room (λ q l. r ≡ q → after ≡ l) d bs p full (λ n f h g. x.put e n (n + length bs) f g) x.told

  -- what was printed was added
  adds_of : Prints w d p bs r after → Adds w d p bs r after
  adds_of x =
      record {
        told = x.told;
        size = ap length x.buffer ∙ size w;
        kept = λ e. x.buffer ∙ rw e;
        put = λ e n m f g. x.buffer ∙ rw e (by_room (λ q l. r ≡ q → l ≡ written d n bs) d bs p (λ h. cc) (λ k h i j. cc) x.told);
      }
    where
      size : (v : Bool) → length (cond v (put_at d p bs) d) ≡ length d
      size false = refl
      size true = by_room (λ q l. length l ≡ length d) d bs p refl (λ n f h. written_length d n bs h)

  reached : (m : ℕ) → Adds w d p bs r after → r ≡ Some m → Reached d bs p m
  reached m x e =
      by_room (λ q _. r ≡ q → Reached d bs p m) d bs p
      (λ f. let z : ◌≡◌ {A = ℕ} 0 1 = cc in absurd (omega arith))
      (λ n f h g. let z : m ≡ n + length bs = cc in record { from = n; place = f; is = z; room = omega arith }) x.told

module _ {w : Bool} {d d₁ d₂ a b : List ℕ} {p q r : Option ℕ} where
  adds_both : Adds w d p a q d₁ → Adds w d₁ q b r d₂ → Adds w d p (a ++ b) r d₂
  adds_both x y =
      record {
        told = y.told ∙ rw (x.size, x.told, length-append a b) (next_both (length d) p (length a) (length b));
        size = y.size ∙ x.size;
        kept = λ e. y.kept e ∙ x.kept e;
        put = put;
      }
    where
      put : w ≡ true → (n m : ℕ) → p ≡ Some n → r ≡ Some m → d₂ ≡ written d n (a ++ b)
      put e n m f g =
          let second = reached m y g in
          let first = reached second.from x second.place in
          let k : second.from ≡ n + length a = cc in
          y.put e _ m second.place g ∙ rw (k, x.put e n _ f second.place) (written_append d n a b (omega (arith, second.room, second.is, x.size)))

-- ---- bytes on a rail

-- what was printed was added
pub added : {r after : Rail} {bs : List ℕ} → Printed r bs after → Added r bs after
added x = record { adds = adds_of x.prints; same = x.same }

-- the same rail, one step after the other
same_both : {r s t : Rail} → Same r s → Same s t → Same r t
same_both x y = record { pointer = y.pointer ∙ x.pointer; name = y.name ∙ x.name; write = y.write ∙ x.write }

-- bytes added one after the other
pub both : {r s t : Rail} {a b : List ℕ} → Added r a s → Added s b t → Added r (a ++ b) t
both x y = record { adds = adds_both x.adds (rw x.same.write at y.adds); same = same_both x.same y.same }

-- the same bytes, said otherwise
pub said : {r s : Rail} {a b : List ℕ} → Added r a s → a ≡ b → Added r b s
said x e = rw e at x

-- ---- bytes added behind whatever was added before

abbrev pub Behind : Rail → List ℕ → Rail → Type 0
Behind s bs t = (r : Rail) (a : List ℕ) → Added r a s → Added r (a ++ bs) t

-- none, and some more
pub behind_none : {s : Rail} → Behind s [] s
behind_none r a x = rw append-nil x

pub behind_more : {s t u : Rail} {a b : List ℕ} → Behind s a t → Added t b u → Behind s (a ++ b) u
behind_more h y r c x = rw append_assoc at (both (h r c x) y)
