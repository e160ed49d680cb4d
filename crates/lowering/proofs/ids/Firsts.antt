-- The first slot of each declared shape, by a place for each kind that one shape at a time moves on. Assumes nothing.
use mathlib.Core.Path.{◌≡◌, refl, sym, ◌∙◌}
use mathlib.Core.Bool.{false}
use mathlib.Core.List.{List, [], ◌∷◌}
use Prim.Native.Nat.{ℕ, zero, suc, ◌+◌, ◌*◌, ◌≤◌, ◌<◌}
use native.Mathlib.Omega.{arith}
use native.Mathlib.Numerals.{add-one}
use lib.ListN.{length, get_or, set, replicate, length-set}
use Rattle.refusal.proofs.Says.{refuted, fails}
use Rattle.kinds.specs.Kinds.{new_point, new_arc, Declaration}
use Rattle.record.specs.Record.{most_records}
use Rattle.record.specs.Decode.{count_of, decode_at}
use Rattle.names.specs.Labels.{within}
use Rattle.names.proofs.Drawn.{kind_past}
use Rattle.names.proofs.First.{put}
use Rattle.names.proofs.Laws.{says_within}
use Rattle.drawing.specs.Needs.{Shape, point, circle, arc, declaring}
use Rattle.drawing.specs.Check.{count_below}
use Rattle.lowering.specs.Sketch.{size_by, many_of, start_by, first_in}
use Rattle.lowering.specs.Steps.{kinds_of, Counted, first_at}
use Rattle.drawing.proofs.Laws.{count_le}
use Rattle.lowering.proofs.drawing.Fine.{shape_of_lem}

-- what stands in a list of zeros
pub zeros_at : (n q : ℕ) → get_or (replicate {A = ℕ} n 0) q 0 ≡ 0
zeros_at zero q = refl
zeros_at (suc n) zero = refl
zeros_at (suc n) (suc q) = zeros_at n q

-- few records have few points and circles
pub counts_small : {records : List ℕ} {points circles : ℕ} → Counted records points circles → (points ≤ most_records) × (circles ≤ most_records)
counts_small {records} c = (omega (arith, c.few, c.points_are, count_le (kinds_of records) 1 1 (count_of records)), omega (arith, c.few, c.circles_are, count_le (kinds_of records) 2 2 (count_of records)))

module _ (kinds : ℕ → ℕ) where
  count_here : (i k : ℕ) → kinds i ≡ k → many_of kinds k (i + 1) ≡ many_of kinds k i + 1
  unfolding count_below
  count_here i k e = rw (add-one, (says_within k k (kinds i)).back (omega (arith, e), omega (arith, e))) refl

  count_other : (i k : ℕ) → (kinds i ≡ k → ⊥) → many_of kinds k (i + 1) ≡ many_of kinds k i
  unfolding count_below
  count_other i k f = rw (add-one, refuted (says_within k k (kinds i)) (λ w. f (omega (arith, w.0, w.1)))) (omega arith)

-- the first i records have their first slots, and those that declare no shape; each kind has the place of its next shape
pub record Placing (records : List ℕ) (P C : ℕ) (firsts at : List ℕ) (i : ℕ) : Type 0 where
  pub done : (d : ℕ) → (Declaration (kinds_of records d) → d < i) → get_or firsts d 0 ≡ first_in (kinds_of records) (count_of records) d
  pub places : (k : ℕ) → Declaration k → get_or at k 0 ≡ start_by P C k + many_of (kinds_of records) k i * size_by k
  pub at_long : length at ≡ 4
  pub long : length firsts ≡ most_records

module _ (records : List ℕ) (P C : ℕ) (c : Counted records P C) where
  abbrev kinds : ℕ → ℕ
  kinds = kinds_of records

  pub placing_start : (firsts : List ℕ) → firsts ≡ replicate most_records 0 → Placing records P C firsts (0 ∷ 0 ∷ P * 2 ∷ (P * 2 + C * 3) ∷ []) 0
  unfolding count_below first_in
  placing_start firsts e = record {
    done = λ d h. rw (refuted (says_within new_point new_arc (kinds d)) (λ u. omega (arith, h u)), e) (zeros_at most_records d);
    places = λ k d. let (s, is) = shape_of_lem k d in rw is (of_shape s);
    at_long = refl;
    long = rw e refl;
  }
    where
      of_shape : (s : Shape) → get_or (0 ∷ 0 ∷ P * 2 ∷ (P * 2 + C * 3) ∷ []) (declaring s) 0 ≡ start_by P C (declaring s) + 0 * size_by (declaring s)
      of_shape point = refl
      of_shape circle = omega arith
      of_shape arc = omega arith

  module _ {firsts at : List ℕ} {i : ℕ} (s : Placing records P C firsts at i) where
    -- a place is a small number
    pub place_small : (k : ℕ) → Declaration k → i < count_of records → get_or at k 0 + size_by k < 65536
    place_small k d h = let (shape, is) = shape_of_lem k d in rw (s.places k d, is) (of_shape shape)
      where
        of_shape : (s : Shape) → start_by P C (declaring s) + many_of kinds (declaring s) i * size_by (declaring s) + size_by (declaring s) < 65536
        of_shape point = omega (arith, c.few, h, count_le kinds 1 1 i)
        of_shape circle = omega (arith, c.few, h, counts_small c, count_le kinds 2 2 i)
        of_shape arc = omega (arith, c.few, h, counts_small c, count_le kinds 3 3 i)

    -- a declaration
    pub placing_turn : (k size : ℕ) → k ≡ (decode_at records i).kind → Declaration k → size ≡ size_by k → i < length firsts
        → Placing records P C (set firsts i (get_or at k 0)) (set at k (get_or at k 0 + size)) (i + 1)
    unfolding first_in
    placing_turn k size e d es room = record {
      done = λ m h.
          put firsts i (get_or at k 0) m room _
          (λ q. rw (q, ← e, (says_within new_point new_arc k).back d, ← c.points_are, ← c.circles_are) (s.places k d))
          (λ q. s.done m (λ u. omega (arith, q, h u)));
      places = λ m b.
          put at k (get_or at k 0 + size) m (omega (arith, s.at_long, d.1)) _
          (λ q. rw (q, count_here kinds i k (sym e), es) (omega (arith, s.places k d)))
          (λ q. rw (count_other kinds i m (λ f. q (sym f ∙ sym e))) (s.places m b));
      at_long = simp length-set s.at_long;
      long = simp length-set s.long;
    }

    -- any other record
    pub placing_skip : (k : ℕ) → k ≡ (decode_at records i).kind → within new_point new_arc k ≡ false → Placing records P C firsts at (i + 1)
    placing_skip k e f = record {
      done = λ m h. s.done m (λ u. let other : m ≡ i → ⊥ = λ q. none (rw (q, ← e) at u) in omega (arith, h u, other));
      places = λ m b. rw (count_other kinds i m (λ q. none (rw (e ∙ q) b))) (s.places m b);
      at_long = s.at_long;
      long = s.long;
    }
      where
        none : Declaration k → ⊥
        none = fails (says_within new_point new_arc k) f

    -- all of them: past the last there is none
    pub placing_end : count_of records ≤ i → first_at firsts ≡ first_in (kinds_of records) (count_of records)
    placing_end h j d = s.done d (λ u. let low : count_of records ≤ d → ⊥ = λ g. omega (arith, u.0, kind_past records d g) in omega (arith, h, low)) j
