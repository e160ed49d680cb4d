-- The root of specs/Root.antt and the function of specs/Function.antt are the same: the function's answer has the fields of `RootOf`, and these
-- decide the bits, since the number decides m and g, g decides s, these decide n, and all of them the root's size. Assumes nothing.
use mathlib.Core.Path.{◌≡◌, refl, sym, ap, ◌∙◌}
use mathlib.Core.Logic.{◌⊎◌, inl, inr, ◌↔◌}
use mathlib.Core.Bool.{true, false}
use Prim.Native.Nat.{ℕ, suc, ◌+◌, ◌-◌, ◌*◌, ◌/◌, ◌%◌, ◌^◌, ◌≤◌, ◌<◌}
use native.Mathlib.Nat.{le_of_lt}
use native.Mathlib.Decide.{dec_le, ℕ_discrete}
use native.Mathlib.Omega.{arith}
use borrow.Author.Tests.{ne_eqb, lt-ltb, le-ltb}
use Rattle.root.specs.Bits.{plus_zero, minus_zero, infinity, BelowZero, IsNan, units_of}
use Rattle.root.specs.Root.{RootOf, IsRoot, some, itself, none}
use Rattle.root.specs.Function.{nearest_root, places_for, scaled_root, finite_root, is_kept, root_of}
use Rattle.root.specs.Promise.{Rooted}
use Rattle.root.specs.Steps.{Scaling}
use Rattle.root.proofs.Nearest.{near_same}
use Rattle.root.proofs.Scale.{scaling_same, finite_root_lem, root_near, root_range}
use Rattle.root.proofs.Sizes.{size_same, size_made, has_digits}

-- ---- a finite number above zero
scaled_root_lem : (b m g : ℕ) → g < 2100 → Scaling (units_of b * 2 ^ 52) m g → RootOf b (scaled_root m g)
unfolding scaled_root
scaled_root_lem b m g h k =
    let n = nearest_root (m * 2 ^ places_for g) in
    let near = root_near m g k.least k.most in
    let range = root_range m g k.least k.most in
    let e : (g + 972) / 2 ≡ suc ((g + 1022 - places_for g) / 2) = omega arith in
    record {
      m = m;
      g = g;
      s = places_for g;
      n = n;
      x_is = k.value;
      m_least = k.least;
      m_most = omega arith;
      s_is = elim (ℕ_discrete (g % 2) 0) [ yes e ↦ inl (omega arith) | no f ↦ inr (omega arith) ];
      even = omega arith;
      root_is = rw e (size_made ((g + 1022 - places_for g) / 2) n range.0 range.1);
      finite = omega arith;
      below = near.below;
      above = near.above;
    }

finite_is : (b : ℕ) → plus_zero < b → b < infinity → RootOf b (finite_root (units_of b * 2 ^ 52))
finite_is b p l =
    let d = has_digits b p l in
    rw (finite_root_lem d.is) (scaled_root_lem b d.m d.g d.few d.is)

scaling_of : {b r : ℕ} (k : RootOf b r) → Scaling (units_of b * 2 ^ 52) k.m k.g
scaling_of k = record { least = k.m_least; most = omega (arith, k.m_most); value = k.x_is }

even_place : (g s : ℕ) → (s ≡ 52) ⊎ (s ≡ 53) → (g + s) % 2 ≡ 0 → s ≡ places_for g
even_place g s (inl e) h = omega arith
even_place g s (inr e) h = omega arith

root_of_same : (b r t : ℕ) → RootOf b r → RootOf b t → r ≡ t
root_of_same b r t k j =
    let d = scaling_same (scaling_of k) (scaling_of j) in
    let s : k.s ≡ j.s = even_place k.g k.s k.s_is k.even ∙ ap places_for d.1 ∙ sym (even_place j.g j.s j.s_is j.even) in
    let e : j.m * 2 ^ j.s ≡ k.m * 2 ^ k.s = cc in
    let n : k.n ≡ j.n = near_same k.n j.n (k.m * 2 ^ k.s) (search) (rw (← e) (search)) in
    size_same r t (cc (k.root_is, j.root_is))

-- ---- which numbers are their own roots, and which have none
kept : (b : ℕ) → (b ≡ plus_zero) ⊎ ((b ≡ minus_zero) ⊎ (b ≡ infinity)) → is_kept b ≡ true
kept b (inl e) = rw e
kept b (inr (inl e)) = rw e
kept b (inr (inr e)) = rw e

lost : (b : ℕ) → (b ≡ plus_zero → ⊥) × (b ≡ minus_zero → ⊥) × (b ≡ infinity → ⊥) → is_kept b ≡ false
lost b h = rw (ne_eqb b plus_zero h.0, ne_eqb b minus_zero h.1, ne_eqb b infinity h.2)

no_root : (b : ℕ) → BelowZero b ⊎ IsNan b → (infinity < b) × (is_kept b ≡ false)
no_root b (inl h) = (omega arith, lost b (omega arith))
no_root b (inr h) = (omega arith, lost b (omega arith))

-- ---- the relation and the function
pub root_function : (b r : ℕ) → IsRoot b r → r ≡ root_of b
unfolding root_of
root_function b r (some p l k) = rw (lost b (omega arith), le-ltb infinity b (le_of_lt l)) (root_of_same b r _ k (finite_is b p l))
root_function b r (itself h e) = rw (kept b h) e
root_function b r (none h e) = let k = no_root b h in rw (k.1, lt-ltb infinity b k.0) e

kept_is : (b : ℕ) → (b ≡ plus_zero) ⊎ ((b ≡ minus_zero) ⊎ (b ≡ infinity)) → IsRoot b (root_of b)
unfolding root_of
kept_is b h = rw (kept b h) (itself h refl)

none_is : (b : ℕ) → BelowZero b ⊎ IsNan b → IsRoot b (root_of b)
unfolding root_of
none_is b h = let k = no_root b h in rw (k.1, lt-ltb infinity b k.0) (none h refl)

some_is : (b : ℕ) → plus_zero < b → b < infinity → IsRoot b (root_of b)
unfolding root_of
some_is b p l = rw (lost b (omega arith), le-ltb infinity b (le_of_lt l)) (some p l (finite_is b p l))

pub root_is : (b : ℕ) → b < 2 ^ 64 → IsRoot b (root_of b)
root_is b l = elim (dec_le b infinity) [
  | yes h ↦ elim (ℕ_discrete b plus_zero) [
    | yes e ↦ kept_is b (inl e)
    | no f ↦ elim (ℕ_discrete b infinity) [ yes e ↦ kept_is b (inr (inr e)) | no g ↦ some_is b (omega arith) (omega arith) ]
  ]
  | no f ↦ elim (ℕ_discrete b minus_zero) [
    | yes e ↦ kept_is b (inr (inl e))
    | no g ↦ elim (dec_le (b % 2 ^ 63) infinity) [ yes h ↦ none_is b (inl (omega arith)) | no h ↦ none_is b (inr (omega arith)) ]
  ]
]

pub root_exactly : (b r : ℕ) → b < 2 ^ 64 → IsRoot b r ↔ (r ≡ root_of b)
root_exactly b r l = (root_function b r, λ (e : r ≡ root_of b). rw e (root_is b l))

-- ---- the promise
pub rooted : (b r : ℕ) → b < 2 ^ 64 → r ≡ root_of b → Rooted b r
rooted b r l e = record { relation = (root_exactly b r l).1 e; function = e }

pub rooted_some : (b r m g : ℕ) → is_kept b ≡ false → b ≤ infinity → Scaling (units_of b * 2 ^ 52) m g → r ≡ scaled_root m g → Rooted b r
unfolding root_of
rooted_some b r m g e h k is = rooted b r (omega arith) (rw (e, le-ltb infinity b h, finite_root_lem k) is)
