-- The tables of names and of guesses while they are filled: one place more, one record more, and what they hold at last. Assumes nothing.
use mathlib.Core.Path.{◌≡◌, sym, ap, ◌∙◌}
use mathlib.Core.Bool.{Bool, true, false, ◌&&◌, cond, and_assoc}
use mathlib.Core.List.{List}
use Prim.Native.Nat.{ℕ, ◌+◌, ◌-◌, ◌*◌, ◌/◌, ◌%◌, ◌≤◌, ◌<◌}
use native.Mathlib.Omega.{arith}
use native.Mathlib.Decide.{dec_lt}
use lib.Dec.{leb, ltb, eqb}
use lib.ListN.{length, get_or, set, replicate, length-set, length-replicate, get_or-replicate, get_or-eq_default}
use borrow.Author.Tests.{lt-ltb, le-ltb, eq-eqb, ne_eqb}
use Rattle.refusal.proofs.Says.{says_once, says_iff, says_le}
use Rattle.ground.specs.Lists.{up_to}
use Rattle.ground.proofs.UpTo.{length_up_to, get_or_up_to, up_to_list}
use Rattle.kinds.specs.Kinds.{kind_at, pair_guess, number_guess, label_places}
use Rattle.record.specs.Record.{most_records}
use Rattle.record.specs.Decode.{count_of, decode_at}
use Rattle.record.specs.Entry.{Entry, no_entry, entry_at, label_no}
use Rattle.record.specs.Laid.{LaidOut}
use Rattle.names.specs.Labels.{drawn, kind_no, within, lowest_or}
use Rattle.names.specs.Names.{name_at, record_by, tells_part, name_places, name_in, names_of, guess_places, place_by, guesses_part, guess_in, guesses_of}
use Rattle.names.specs.Steps.{FilledWith, NamedUpTo, Inside, first_name, noted, NotedFrom}
use Rattle.names.proofs.Laws.{says_within}
use Rattle.names.proofs.First.{put, from_plain, lowest_same, firsts_out, firsts_in}
use Rattle.names.proofs.Drawn.{known_at, labels_some, drawn_length, drawn_kind}
use Rattle.names.proofs.Names.{name_inside}

-- a repeated number fills a table
pub filled : (m v : ℕ) (xs : List ℕ) (n : ℕ) → n ≡ m → xs ≡ replicate n v → FilledWith m v xs
filled m v xs n z e = record { long = ap length e ∙ length-replicate n v ∙ z; each = λ k b. rw e (get_or-replicate n k v 0 (omega arith)) }

-- what each answer has, and 0, each place of their list has, and those past it
up_to_each : (n : ℕ) (f : ℕ → ℕ) (P : ℕ → Type 0) → ((k : ℕ) → P (f k)) → P 0 → (k : ℕ) → P (get_or (up_to n f) k 0)
up_to_each n f P each none k =
    elim (dec_lt k n) [
      | yes h ↦ rw (get_or_up_to n f k 0 h) (each k)
      | no g ↦ rw (get_or-eq_default (up_to n f) 0 {n = k} (rw (length_up_to n f) (omega (arith, g)))) none
    ]

-- ---- names

module _ (es : List Entry) where
  -- what stands at a label's place
  pub name_in_lem : (i q : ℕ) → q < label_places → name_in es (i * label_places + q) ≡ cond (ltb q (kind_at (kind_no es i)).labels) (name_at es i q) 0
  unfolding name_in
  name_in_lem i q h =
      let a : (i * label_places + q) / label_places ≡ i = omega arith in
      let b : (i * label_places + q) % label_places ≡ q = omega arith in
      rw (a, b)

  module _ (i q : ℕ) (h : q < label_places) where
    pub name_there : q < (kind_at (kind_no es i)).labels → name_in es (i * label_places + q) ≡ name_at es i q
    name_there lt = name_in_lem i q h ∙ rw (lt-ltb q (kind_at (kind_no es i)).labels lt)

    name_absent : (kind_at (kind_no es i)).labels ≤ q → name_in es (i * label_places + q) ≡ 0
    name_absent le = name_in_lem i q h ∙ rw (le-ltb q (kind_at (kind_no es i)).labels le)

  module _ (names : List ℕ) where
    -- none yet
    pub named_none : FilledWith name_places 0 names → NamedUpTo es 0 names
    named_none f = record { long = f.long; done = λ k b. absurd (omega arith); rest = λ k a b. f.each k b }

    module _ (m : ℕ) (n : NamedUpTo es m names) where
      -- one label more
      pub named_more : (v : ℕ) → m < name_places → v ≡ name_in es m → NamedUpTo es (m + 1) (set names m v)
      named_more v b e =
          let inside : m < length names = omega (arith, n.long) in
          record {
            long = length-set names m v ∙ n.long;
            done = λ k lt. put names m v k inside _ (λ q. e ∙ ap (name_in es) (sym q)) (λ q. n.done k (omega (arith, lt, q)));
            rest = λ k le lt. put names m v k inside _ (λ q. absurd (omega (arith, q, le))) (λ q. n.rest k (omega arith) lt);
          }

      -- the places that no label has
      pub named_on : (m' : ℕ) → m ≤ m' → m' ≤ name_places → ((k : ℕ) → m ≤ k → k < m' → name_in es k ≡ 0) → NamedUpTo es m' names
      named_on m' a b f =
          record {
            long = n.long;
            done = λ k lt. elim (dec_lt k m) [ yes h ↦ n.done k h | no g ↦ n.rest k (omega (arith, g)) (omega arith) ∙ sym (f k (omega (arith, g)) lt) ];
            rest = λ k le lt. n.rest k (omega arith) lt;
          }

  -- behind a record's last label, and behind the last record
  pub absent_behind : (i k : ℕ) → i * label_places + (kind_at (kind_no es i)).labels ≤ k → k < (i + 1) * label_places → name_in es k ≡ 0
  absent_behind i k a b =
      let z : k ≡ i * label_places + (k - i * label_places) = omega arith in
      ap (name_in es) z ∙ name_absent i (k - i * label_places) (omega arith) (omega arith)

  absent_past : (k : ℕ) → length es * label_places ≤ k → name_in es k ≡ 0
  absent_past k a =
      let z : k ≡ k / label_places * label_places + k % label_places = omega arith in
      let none : kind_no es (k / label_places) ≡ 0 = ap (λ (e : Entry). e.kind) (get_or-eq_default es no_entry {n = k / label_places} (omega arith)) in
      ap (name_in es) z ∙ name_absent (k / label_places) (k % label_places) (omega arith) (rw none (omega arith))

  -- when all records are in, the table is that of names
  pub named_all : (names : List ℕ) (m : ℕ) → NamedUpTo es m names → length es * label_places ≤ m → m ≤ name_places → names ≡ names_of es
  unfolding names_of
  named_all names m n a b =
      let all = named_on names m n name_places b (omega arith) (λ k le lt. absent_past k (omega (arith, le))) in
      sym (up_to_list name_places names 0 (name_in es) all.long (λ k lt. sym (all.done k lt)))

  -- each of its names tells a record that can be there
  module _ (few : length es ≤ most_records) where
    inside_in : (k : ℕ) → record_by (name_in es k) < most_records
    unfolding name_in
    inside_in k = go (ltb (k % label_places) (kind_at (kind_no es (k / label_places))).labels)
      where
        go : (t : Bool) → record_by (cond t (name_at es (k / label_places) (k % label_places)) 0) < most_records
        go true = name_inside es (label_no (entry_at es (k / label_places)) (k % label_places)) few
        go false = omega arith

    pub names_inside : Inside (names_of es)
    unfolding names_of
    names_inside = up_to_each name_places (name_in es) (λ x. record_by x < most_records) inside_in (omega arith)

-- ---- guesses

module _ (bs names guesses : List ℕ) (j : ℕ) (lt : j < count_of bs) (c : NotedFrom bs names (j + 1) guesses) where
  -- a record that guesses no known part
  pub noted_out : (leb pair_guess (decode_at bs j).kind && tells_part (first_name names j)) ≡ false → NotedFrom bs names j guesses
  unfolding noted
  noted_out e = firsts_out (noted bs names) guess_places (count_of bs) guesses j lt c (λ k. rw e)

  -- one that does comes before those that were noted
  pub noted_in : (place : ℕ) → place ≡ place_by (first_name names j) → (leb pair_guess (decode_at bs j).kind && tells_part (first_name names j)) ≡ true → place < guess_places
      → NotedFrom bs names j (set guesses place j)
  unfolding noted
  noted_in place z e b =
      firsts_in (noted bs names) guess_places (count_of bs) guesses j lt c place b (rw e (eq-eqb _ _ (sym z))) (λ k q. rw e (ne_eqb _ k (λ g. q (sym g ∙ sym z))))

-- of records that are laid out, with the table of their names, the table is that of guesses
module _ (text bs : List ℕ) (w : LaidOut text bs) where
  first_name_lem : (i : ℕ) → i < count_of bs → first_name (names_of (drawn text bs)) i ≡ name_at (drawn text bs) i 0
  unfolding names_of
  first_name_lem i h =
      let es = drawn text bs in
      let z : i * label_places ≡ i * label_places + 0 = omega arith in
      get_or_up_to name_places (name_in es) (i * label_places) 0 (omega (arith, w.few)) ∙ ap (name_in es) z
      ∙ name_there es i 0 (omega arith) (rw drawn_kind (labels_some text bs i h (w.each i h)))

  guess_kind : (i : ℕ) → i < count_of bs → leb pair_guess (decode_at bs i).kind ≡ within pair_guess number_guess (kind_no (drawn text bs) i)
  guess_kind i h =
      rw drawn_kind (says_once (says_le _ _) (says_iff (λ g. g.0) (λ g. (g, omega (arith, (known_at text bs i h (w.each i h)).1))) (says_within pair_guess number_guess (decode_at bs i).kind)))

  noted_guess : (k i : ℕ) → i < count_of bs → noted bs (names_of (drawn text bs)) k i ≡ guesses_part (drawn text bs) k i
  unfolding noted guesses_part
  noted_guess k i h =
      let es = drawn text bs in
      rw (first_name_lem i h, guess_kind i h) (and_assoc (within pair_guess number_guess (kind_no es i)) (tells_part (name_at es i 0)) (eqb (place_by (name_at es i 0)) k))

  pub noted_all : (guesses : List ℕ) → NotedFrom bs (names_of (drawn text bs)) 0 guesses → guesses ≡ guesses_of (drawn text bs)
  unfolding guesses_of
  noted_all guesses c =
      let es = drawn text bs in
      sym (up_to_list guess_places guesses 0 (guess_in es) c.long
      (λ k b. sym (c.each k b ∙ from_plain (noted bs (names_of es) k) (count_of bs) ∙ lowest_same (count_of bs) _ (guesses_part es k) (noted_guess k)
      ∙ ap (λ (n : ℕ). lowest_or n (guesses_part es k)) (sym (drawn_length text bs)))))

-- ---- the tables, place by place

module _ (es : List Entry) where
  -- the name of label q of record i stands at its place
  pub names_at_lem : (i q : ℕ) → i < most_records → q < label_places → q < (kind_at (kind_no es i)).labels → get_or (names_of es) (i * label_places + q) 0 ≡ name_at es i q
  unfolding names_of
  names_at_lem i q h g f = get_or_up_to name_places (name_in es) (i * label_places + q) 0 (omega arith) ∙ name_there es i q g f

  -- and so does the lowest guess of a part
  pub guesses_at_lem : (k : ℕ) → k < guess_places → get_or (guesses_of es) k 0 ≡ guess_in es k
  unfolding guesses_of
  guesses_at_lem k h = get_or_up_to guess_places (guess_in es) k 0 h
