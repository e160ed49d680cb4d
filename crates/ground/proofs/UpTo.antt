-- The laws of the list f 0, f 1, .., up to a count: its length, what stands at a place, and which lists are such a list. Assumes nothing.
use mathlib.Core.Path.{◌≡◌, refl, ap, ◌∙◌}
use mathlib.Core.List.{List, [], ◌∷◌, ◌++◌, map, map-id}
use Prim.Native.Nat.{ℕ, zero, suc, ◌+◌, ◌<◌}
use native.Mathlib.Nat.{le_of_suc-le-suc, not-suc-le-zero, suc-add}
use native.Mathlib.Omega.{arith}
use lib.ListN.{length, get_or}
use Rattle.ground.specs.Lists.{up_to}

module _ {A : Type 0} where
  pub length_up_to : (n : ℕ) (f : ℕ → A) → length (up_to n f) ≡ n
  length_up_to zero f = refl
  length_up_to (suc n) f = ap suc (length_up_to n (λ k. f (suc k)))

  pub get_or_up_to : (n : ℕ) (f : ℕ → A) (i : ℕ) (d : A) → i < n → get_or (up_to n f) i d ≡ f i
  get_or_up_to zero f i d h = absurd (not-suc-le-zero h)
  get_or_up_to (suc n) f zero d h = refl
  get_or_up_to (suc n) f (suc i) d h = get_or_up_to n (λ k. f (suc k)) i d (le_of_suc-le-suc h)

  -- one more
  pub up_to_more : (n : ℕ) (f : ℕ → A) → up_to (n + 1) f ≡ up_to n f ++ (f n ∷ [])
  up_to_more zero f = refl
  up_to_more (suc n) f = rw (suc-add, up_to_more n (λ k. f (suc k)))

  -- the same at each place below a count
  pub up_to_same : (n : ℕ) (f g : ℕ → A) → ((i : ℕ) → i < n → f i ≡ g i) → up_to n f ≡ up_to n g
  up_to_same zero f g h = refl
  up_to_same (suc n) f g h = cc (h zero (omega arith), up_to_same n (λ k. f (suc k)) (λ k. g (suc k)) (λ i b. h (suc i) (omega arith)))

  -- what g makes of each element of a list, by its place
  pub up_to_map : {B : Type 0} (xs : List A) (d : A) (g : A → B) → up_to (length xs) (λ i. g (get_or xs i d)) ≡ map g xs
  up_to_map [] d g = refl
  up_to_map (x ∷ xs) d g = cc (up_to_map xs d g)

  -- a list by what stands at its places
  pub up_to_list : (n : ℕ) (l : List A) (d : A) (f : ℕ → A) → length l ≡ n → ((q : ℕ) → q < n → f q ≡ get_or l q d) → up_to n f ≡ l
  up_to_list n l d f e h = up_to_same n f (λ q. get_or l q d) h ∙ rw (← e) (up_to_map l d (λ x. x) ∙ map-id l)

  -- what g makes of each
  pub map_up_to : {B : Type 0} (g : A → B) (n : ℕ) (f : ℕ → A) → map g (up_to n f) ≡ up_to n (λ q. g (f q))
  map_up_to g zero f = refl
  map_up_to g (suc n) f = cc (map_up_to g n (λ k. f (suc k)))
