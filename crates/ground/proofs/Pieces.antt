-- Laws of lists by the parts that they are put together from. Assumes nothing.
use mathlib.Core.Path.{◌≡◌, refl, sym, ap, ◌∙◌, subst}
use mathlib.Core.Logic.{⊎_elim}
use mathlib.Core.Bool.{Bool, true, false, cond}
use mathlib.Core.List.Memᴰ
use mathlib.Core.List.{List, [], ◌∷◌, ◌++◌, append_assoc, append-nil, map, Memᴰ}
use Prim.Native.Nat.{ℕ, zero, suc, ◌*◌, ◌≤◌, ◌<◌, suc-le-suc}
use native.Mathlib.Nat.{le_of_suc-le-suc, not-suc-le-zero, zero-lt-suc, add_comm, zero-mul, suc-mul}
use native.Mathlib.Omega.{arith}
use lib.ListN
use lib.ListN.{length, get_or, take, drop, length-append, length-map}
use lib.Seq.{split_at, take-suc, take-length, take_at, drop_at, drop-drop}
use Rattle.ground.specs.Lists.{flat, sum_to}
use Rattle.ground.proofs.Lists.{get_or_inside}

-- ---- P holds of each element

module _ {A : Type 0} where
  abbrev pub Each : (A → Type 0) → List A → Type 0
  Each P [] = Unit {0}
  Each P (x ∷ xs) = P x × Each P xs

  pub each_append : (P : A → Type 0) (xs ys : List A) → Each P xs → Each P ys → Each P (xs ++ ys)
  each_append P [] ys a b = b
  each_append P (x ∷ xs) ys a b = (a.0, each_append P xs ys a.1 b)

  pub each_both : (P Q R : A → Type 0) → ((x : A) → P x → Q x → R x) → (xs : List A) → Each P xs → Each Q xs → Each R xs
  each_both P Q R f [] a b = tt
  each_both P Q R f (x ∷ xs) a b = (f x a.0 b.0, each_both P Q R f xs a.1 b.1)

  pub each_map : (P Q : A → Type 0) → ((x : A) → P x → Q x) → (xs : List A) → Each P xs → Each Q xs
  each_map P Q f xs a = each_both P P Q (λ x p q. f x p) xs a a

  pub each_at : (P : A → Type 0) (xs : List A) (d : A) → Each P xs → (j : ℕ) → j < length xs → P (get_or xs j d)
  each_at P [] d a j h = absurd (not-suc-le-zero h)
  each_at P (x ∷ xs) d a zero h = a.0
  each_at P (x ∷ xs) d a (suc j) h = each_at P xs d a.1 j (le_of_suc-le-suc h)

  -- the other way round
  pub each_of : (P : A → Type 0) (xs : List A) (d : A) → ((j : ℕ) → j < length xs → P (get_or xs j d)) → Each P xs
  each_of P [] d f = tt
  each_of P (x ∷ xs) d f = (f 0 (zero-lt-suc (length xs)), each_of P xs d (λ j h. f (suc j) (suc-le-suc h)))

  -- of each that stands in the list
  pub each_has : (P : A → Type 0) (xs : List A) (x : A) → Each P xs → Memᴰ x xs → P x
  each_has P [] x a m = absurd (Memᴰ.not-nil m)
  each_has P (y ∷ ys) x a m = ⊎_elim (λ e. subst P (sym e) a.0) (λ n. each_has P ys x a.1 n) (Memᴰ.cases_cons m)

-- ---- what f makes of each, one after another

module _ {A B : Type 0} (f : A → List B) where
  pub flat_append : (xs ys : List A) → flat f (xs ++ ys) ≡ flat f xs ++ flat f ys
  flat_append [] ys = refl
  flat_append (x ∷ xs) ys = rw (flat_append xs ys, append_assoc)

  pub each_flat : (P : A → Type 0) (Q : B → Type 0) → ((x : A) → P x → Each Q (f x)) → (xs : List A) → Each P xs → Each Q (flat f xs)
  each_flat P Q g [] a = tt
  each_flat P Q g (x ∷ xs) a = each_append Q (f x) (flat f xs) (g x a.0) (each_flat P Q g xs a.1)

  -- one more
  pub flat_suc : (xs : List A) (n : ℕ) (d : A) → n < length xs → flat f (take (suc n) xs) ≡ flat f (take n xs) ++ f (get_or xs n d)
  flat_suc xs n d h = rw (take-suc xs n d h, flat_append, append-nil)

  -- pieces of known lengths
  module _ (w : ℕ → ℕ) (xs : List A) (d : A) (e : (q : ℕ) → q < length xs → length (f (get_or xs q d)) ≡ w q) where
    pub sum_to_lem : (n : ℕ) → n ≤ length xs → length (flat f (take n xs)) ≡ sum_to w n
    sum_to_lem zero h = refl
    sum_to_lem (suc n) h = rw (flat_suc xs n d h, length-append, sum_to_lem n (omega arith), e n h)

    pub sum_flat : length (flat f xs) ≡ sum_to w (length xs)
    sum_flat = rw take-length at (sum_to_lem (length xs) (omega arith))

  -- pieces of one length
  module _ (k : ℕ) where
    pub length_flat : (xs : List A) → Each (λ x. length (f x) ≡ k) xs → length (flat f xs) ≡ length xs * k
    length_flat [] a = sym (zero-mul k)
    length_flat (x ∷ xs) a = rw (length-append, a.0, length_flat xs a.1) (omega arith)

    -- piece i, whatever follows
    pub piece_at : (xs : List A) (rest : List B) (d : A) → Each (λ x. length (f x) ≡ k) xs → (i : ℕ) → i < length xs
        → take k (drop (i * k) (flat f xs ++ rest)) ≡ f (get_or xs i d)
    piece_at [] rest d a i h = absurd (not-suc-le-zero h)
    piece_at (x ∷ xs) rest d a zero h = rw (zero-mul, append_assoc) (take_at (f x) (flat f xs ++ rest) k a.0)
    piece_at (x ∷ xs) rest d a (suc i) h =
        rw (suc-mul, add_comm (i * k), ← drop-drop, append_assoc, drop_at (f x) (flat f xs ++ rest) k a.0) (piece_at xs rest d a.1 i (le_of_suc-le-suc h))

-- ---- f of each

module _ {A B : Type 0} (f : A → B) where
  pub get_or_map : (xs : List A) (j : ℕ) (d : A) (e : B) → j < length xs → get_or (map f xs) j e ≡ f (get_or xs j d)
  get_or_map xs j d e h = get_or_inside (map f xs) j e (f d) (rw (length-map xs f) h) ∙ ListN.get_or-map f xs j d

  pub map_each : (Q : B → Type 0) (xs : List A) → Each (λ x. Q (f x)) xs → Each Q (map f xs)
  map_each Q [] a = tt
  map_each Q (x ∷ xs) a = (a.0, map_each Q xs a.1)

-- f of what h makes of each
pub map_both : {A B C : Type 0} (f : B → C) (g : A → C) (h : A → B) (xs : List A) → Each (λ x. f (h x) ≡ g x) xs → map f (map h xs) ≡ map g xs
map_both f g h [] a = refl
map_both f g h (x ∷ xs) a = rw (a.0, map_both f g h xs a.1) refl

-- ---- f of those that pass a test

-- g picks them out of a list
pub record Picks {A B : Type 0} (p : A → Bool) (f : A → B) (g : List A → List B) : Type 0 where
  pub none : g [] ≡ []
  pub next : (x : A) (xs : List A) → g (x ∷ xs) ≡ cond (p x) (f x ∷ g xs) (g xs)

module _ {A B : Type 0} (p : A → Bool) (f : A → B) (g : List A → List B) (picks : Picks p f g) where
  pub picks_append : (xs ys : List A) → g (xs ++ ys) ≡ g xs ++ g ys
  picks_append [] ys = rw picks.none
  picks_append (x ∷ xs) ys = rw (picks.next x (xs ++ ys), picks_append xs ys, picks.next x xs) (go (p x))
    where
      go : (b : Bool) → cond b (f x ∷ (g xs ++ g ys)) (g xs ++ g ys) ≡ cond b (f x ∷ g xs) (g xs) ++ g ys
      go true = refl
      go false = refl

  -- one element more
  pub picks_suc : (xs : List A) (i : ℕ) (d : A) → i < length xs → g (take (suc i) xs) ≡ g (take i xs) ++ cond (p (get_or xs i d)) (f (get_or xs i d) ∷ []) []
  picks_suc xs i d h = rw (take-suc xs i d h, picks_append, picks.next, picks.none)

  -- around one that passes
  pub picks_around : (xs : List A) (i : ℕ) (d : A) → i < length xs → p (get_or xs i d) ≡ true → g xs ≡ g (take i xs) ++ f (get_or xs i d) ∷ g (drop (suc i) xs)
  picks_around xs i d h e = ap g (split_at xs i d h) ∙ rw (picks_append, picks.next, e)

  -- what holds of each that passes
  pub picks_each : (P : B → Type 0) (xs : List A) (d : A) → ((j : ℕ) → j < length xs → p (get_or xs j d) ≡ true → P (f (get_or xs j d))) → Each P (g xs)
  picks_each P [] d h = rw picks.none tt
  picks_each P (x ∷ xs) d h = rw picks.next (go (p x) refl (picks_each P xs d (λ j l e. h (suc j) (suc-le-suc l) e)))
    where
      go : (b : Bool) → p x ≡ b → Each P (g xs) → Each P (cond b (f x ∷ g xs) (g xs))
      go true e a = (h 0 (zero-lt-suc (length xs)) e, a)
      go false e a = a
