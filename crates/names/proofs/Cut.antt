-- A label, cut at its first point: the two pieces make it up, and a plain label with a suffix behind it is cut between them. Assumes nothing.
use mathlib.Core.Path.{◌≡◌, refl, sym, ap, ◌∙◌}
use mathlib.Core.Bool.{Bool, true, false, cond, true≢false}
use mathlib.Core.List.{[], ◌∷◌, ◌++◌, tail-eq_of_cons-eq}
use Prim.Native.Nat.{ℕ, zero, suc, ◌+◌, ◌*◌, ◌%◌, ◌≤◌, ◌<◌, suc-le-suc}
use native.Mathlib.Numerals.{add-one}
use native.Mathlib.Omega.{arith}
use lib.Dec.{eqb}
use lib.Pointwise.{pointwise}
use lib.ListN.{length, take, drop, get_or, length-append, drop_of_length-le}
use lib.Seq.{drop-cons, take-append_seam, drop-append_seam}
use borrow.Author.Tests.{eq-eqb, ne_eqb}
use Rattle.ground.specs.Words.{bytes}
use Rattle.ground.proofs.Lists.{either_le}
use Rattle.text.proofs.Laws.{cond_of}
use Rattle.record.specs.Entry.{Label}
use Rattle.names.specs.Labels.{same}
use Rattle.names.specs.Cut.{dot, stem, behind, Pointless, known_parts, part_no}
use Rattle.names.specs.Chains.{chains, hash_from, hash_of}
use Rattle.names.proofs.Laws.{says_same, same_is}
use native.Mathlib.Nat.{zero-lt-suc}
use Rattle.text.specs.Text.{is_alphanum}
use Rattle.refusal.proofs.Says.{says_eq, refuted}
use Rattle.record.specs.Sound.{Plain}

-- the two pieces make a label up
made_step : (b : ℕ) (l : Label) (t : Bool) → stem l ++ behind l ≡ l → cond t [] (b ∷ stem l) ++ cond t (b ∷ l) (behind l) ≡ b ∷ l
made_step b l true e = refl
made_step b l false e = ap (λ (k : Label). b ∷ k) e

pub made_up : (l : Label) → stem l ++ behind l ≡ l
made_up [] = refl
made_up (b ∷ l) = made_step b l (eqb b dot) (made_up l)

-- so it is cut by their lengths
module _ (l : Label) where
  pub stem_take : take (length (stem l)) l ≡ stem l
  stem_take = ap (take (length (stem l))) (sym (made_up l)) ∙ take-append_seam (stem l) (behind l)

  pub behind_drop : drop (length (stem l)) l ≡ behind l
  behind_drop = ap (drop (length (stem l))) (sym (made_up l)) ∙ drop-append_seam (stem l) (behind l)

  pub stem_short : length (stem l) ≤ length l
  stem_short = omega (arith, simp length-append at (ap length (made_up l)))

-- a label up to its first point has none
stem_step : (b : ℕ) (l : Label) (t : Bool) → eqb b dot ≡ t → stem (stem l) ≡ stem l → stem (cond t [] (b ∷ stem l)) ≡ cond t [] (b ∷ stem l)
stem_step b l true e h = refl
stem_step b l false e h = rw (e, h)

pub stem_stem : (l : Label) → Pointless (stem l)
stem_stem [] = refl
stem_stem (b ∷ l) = stem_step b l (eqb b dot) refl (stem_stem l)

-- and what stands from it on has nothing before it
behind_step : (b : ℕ) (l : Label) (t : Bool) → eqb b dot ≡ t → stem (behind l) ≡ [] → stem (cond t (b ∷ l) (behind l)) ≡ []
behind_step b l true e h = rw e
behind_step b l false e h = h

pub stem_behind : (l : Label) → stem (behind l) ≡ []
stem_behind [] = refl
stem_behind (b ∷ l) = behind_step b l (eqb b dot) refl (stem_behind l)

-- a label that begins with no point
no_dot : (b : ℕ) (l : Label) (t : Bool) → cond t [] (b ∷ stem l) ≡ b ∷ l → t ≡ false
no_dot b l true e = absurd (omega (arith, ap length e))
no_dot b l false e = refl

tail_pointless : (b : ℕ) (l : Label) (t : Bool) → t ≡ false → cond t [] (b ∷ stem l) ≡ b ∷ l → stem l ≡ l
tail_pointless b l t f e = tail-eq_of_cons-eq (rw f at e)

-- a suffix that begins at a point, or is empty, is all behind the cut
behind_all_step : (b : ℕ) (l : Label) (t : Bool) → cond t [] (b ∷ stem l) ≡ [] → cond t (b ∷ l) (behind l) ≡ b ∷ l
behind_all_step b l true e = refl
behind_all_step b l false e = absurd (omega (arith, ap length e))

pub behind_all : (t : Label) → stem t ≡ [] → behind t ≡ t
behind_all [] e = refl
behind_all (b ∷ l) e = behind_all_step b l (eqb b dot) e

-- a plain label with such a suffix behind it is cut between them
cut_stem : (n t : Label) → stem n ≡ n → stem t ≡ [] → stem (n ++ t) ≡ n
cut_stem [] t p e = e
cut_stem (b ∷ n) t p e =
    let f : eqb b dot ≡ false = no_dot b n (eqb b dot) p in
    rw f (ap (λ (k : Label). b ∷ k) (cut_stem n t (tail_pointless b n (eqb b dot) f p) e))

cut_behind : (n t : Label) → stem n ≡ n → stem t ≡ [] → behind (n ++ t) ≡ t
cut_behind [] t p e = behind_all t e
cut_behind (b ∷ n) t p e =
    let f : eqb b dot ≡ false = no_dot b n (eqb b dot) p in
    rw f (cut_behind n t (tail_pointless b n (eqb b dot) f p) e)

pub stem_of : (n t l : Label) → Pointless n → stem t ≡ [] → n ++ t ≡ l → stem l ≡ n
stem_of n t l p e h = ap stem (sym h) ∙ cut_stem n t p e

pub behind_of : (n t l : Label) → Pointless n → stem t ≡ [] → n ++ t ≡ l → behind l ≡ t
behind_of n t l p e h = ap behind (sym h) ∙ cut_behind n t p e

-- ---- along the bytes of a label

-- up to i there is no point, and the hash so far is h
pub record Fronted (l : Label) (i h : ℕ) : Type 0 where
  pub inside : i ≤ length l
  pub long : length (stem l) ≡ i + length (stem (drop i l))
  pub hash : hash_of l ≡ hash_from h (stem (drop i l))
  pub small : h < chains

-- what is answered where the label's front ends at i
abbrev Ends : Label → ℕ → ℕ → Type 0
Ends l i h = (i ≡ length (stem l)) × (h ≡ hash_of l) × (h < chains)

pub front_none : (l : Label) → Fronted l 0 0
front_none l = record { inside = omega arith; long = omega arith; hash = refl; small = omega arith }

module _ (l : Label) (i h : ℕ) (f : Fronted l i h) where
  front_cut : stem (drop i l) ≡ [] → Ends l i h
  unfolding hash_from
  front_cut e = (omega (arith, f.long, ap length e), sym (rw e at f.hash), f.small)

  pub front_end : length l ≤ i → Ends l i h
  front_end past = front_cut (rw (drop_of_length-le l past))

  module _ (lt : i < length l) where
    pub front_stop : get_or l i 0 ≡ dot → Ends l i h
    front_stop e = front_cut (rw (drop-cons l i 0 lt, eq-eqb (get_or l i 0) dot e))

    pub front_more : (get_or l i 0 ≡ dot → ⊥) → Fronted l (i + 1) ((h * 37 + get_or l i 0) % chains)
    unfolding hash_from
    front_more n =
        let e : stem (drop i l) ≡ get_or l i 0 ∷ stem (drop (i + 1) l) = rw (add-one i, drop-cons l i 0 lt, ne_eqb (get_or l i 0) dot n) in
        record { inside = omega arith; long = omega (arith, f.long, ap length e); hash = rw e at f.hash; small = omega arith }

-- a plain label has no point: a point is no letter and no digit
module _ (l : Label) (p : Plain l) where
  no_point : (k : ℕ) → k < length l → eqb (get_or l k 0) dot ≡ false
  no_point k h = refuted (says_eq (get_or l k 0) dot) (λ e. true≢false (sym (ap is_alphanum (sym e) ∙ p.each k h)))

pointless_by : (l : Label) → ((k : ℕ) → k < length l → eqb (get_or l k 0) dot ≡ false) → Pointless l
pointless_by [] f = refl
pointless_by (b ∷ l) f = rw (f 0 (zero-lt-suc (length l))) (ap (λ (k : Label). b ∷ k) (pointless_by l (λ k h. f (suc k) (suc-le-suc h))))

pub plain_pointless : (l : Label) → Plain l → Pointless l
plain_pointless l p = pointless_by l (no_point l p)

-- ---- the numbers of parts

-- what is none of the known suffixes is any other part
pub part_other : (t : Label) → (length t ≡ 0 → ⊥) → pointwise eqb t (bytes ".center") ≡ false → pointwise eqb t (bytes ".radius") ≡ false → pointwise eqb t (bytes ".a") ≡ false
    → pointwise eqb t (bytes ".b") ≡ false → known_parts ≡ part_no t
part_other t some center radius a b =
    let e : same t [] ≡ false = refuted (says_same t []) (λ h. some (ap length h)) in
    rw (e, ← same_is t (bytes ".center"), center, ← same_is t (bytes ".radius"), radius, ← same_is t (bytes ".a"), a, ← same_is t (bytes ".b"), b) refl

pub part_small : (t : Label) → part_no t ≤ 5
part_small t =
    cond_of Small (same t []) 0 _ (λ _. omega arith) (λ _. cond_of Small (same t (bytes ".center")) 1 _ (λ _. omega arith) (λ _.
    cond_of Small (same t (bytes ".radius")) 2 _ (λ _. omega arith) (λ _. cond_of Small (same t (bytes ".a")) 3 _ (λ _. omega arith) (λ _.
    either_le (same t (bytes ".b")) 4 5 5 (omega arith) (omega arith)))))
  where
    Small : ℕ → Type 0
    Small n = n ≤ 5

-- the suffix of a part's number
unfoldable pub suffix_no : ℕ → Label
suffix_no zero = []
suffix_no (suc zero) = bytes ".center"
suffix_no (suc (suc zero)) = bytes ".radius"
suffix_no (suc (suc (suc zero))) = bytes ".a"
suffix_no (suc (suc (suc (suc n)))) = bytes ".b"

-- a part with the number of a known one is that part
pub suffix_of : (t : Label) → part_no t < 5 → t ≡ suffix_no (part_no t)
unfolding suffix_no
suffix_of t =
    cond_of Spells (same t []) 0 _ (λ e h. (says_same _ _).so e) (λ _.
    cond_of Spells (same t (bytes ".center")) 1 _ (λ e h. (says_same _ _).so e) (λ _.
    cond_of Spells (same t (bytes ".radius")) 2 _ (λ e h. (says_same _ _).so e) (λ _.
    cond_of Spells (same t (bytes ".a")) 3 _ (λ e h. (says_same _ _).so e) (λ _.
    cond_of Spells (same t (bytes ".b")) 4 5 (λ e h. (says_same _ _).so e) (λ _ h. absurd (omega (arith, h)))))))
  where
    Spells : ℕ → Type 0
    Spells n = n < 5 → t ≡ suffix_no n
