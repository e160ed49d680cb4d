-- Where no label is declared twice and no declared label has a point, a label's name says what the label says: which record declares its
-- shape, and which part it is. Assumes nothing.
use mathlib.Core.Path.{◌≡◌, refl, sym, ap, ◌∙◌}
use mathlib.Core.Bool.{Bool, true, ◌&&◌}
use mathlib.Core.List.{List, [], ◌++◌}
use Prim.Native.Nat.{ℕ, ◌+◌, ◌*◌, ◌≤◌, ◌<◌}
use native.Mathlib.Omega.{arith}
use lib.ListN.{length}
use native.Mathlib.Decide.{dec_lt}
use borrow.Author.Tests.{lt-ltb, le-ltb}
use Rattle.refusal.proofs.Says.{Says, says_so, says_and, says_lt, says_eq, says_iff, says_once, refuted, stable}
use Rattle.kinds.specs.Kinds.{new_point, new_arc, pair_guess, number_guess, Declaration}
use Rattle.record.specs.Record.{most_records}
use Rattle.record.specs.Entry.{Label, Entry}
use Rattle.names.specs.Labels.{kind_no, name_no, within, labelled, lowest_or}
use Rattle.names.specs.Cut.{stem, behind, known_parts, part_no, KnownPart}
use Rattle.names.specs.Names.{declarer, packed, name_for, record_by, sort_by, part_by, tells_part, place_by, guesses_part, guess_in, Clear}
use Rattle.names.proofs.Laws.{says_same, says_within}
use Rattle.names.proofs.First.{lowest_here, lowest_at, lowest_same}
use Rattle.names.proofs.Cut.{made_up, stem_of, behind_of, part_small, suffix_no, suffix_of}

-- the test for a label
pub says_labelled : (es : List Entry) (low high : ℕ) (l : Label) (j : ℕ) → Says (labelled es low high l j) (((low ≤ kind_no es j) × (kind_no es j ≤ high)) × (name_no es j ≡ l))
unfolding labelled
says_labelled es low high l j = says_and (says_within low high (kind_no es j)) (says_same (name_no es j) l)

-- ---- a name taken apart

-- the record and the part that a name tells
pub unpacked : (d kind p name : ℕ) → p ≤ 5 → kind ≤ 3 → name ≡ d * 32 + (kind * 8 + p) → (record_by name ≡ d) × (sort_by name ≡ kind * 8 + p) × (part_by name ≡ p)
unpacked d kind p name a b e = (omega arith, omega arith, omega arith)

-- a place in the table of guesses tells a record and a part
pub same_place : (d p j q : ℕ) → p < known_parts → q < known_parts → d * known_parts + p ≡ j * known_parts + q → (d ≡ j) × (p ≡ q)
same_place d p j q a b e = (omega arith, omega arith)

-- ---- the record that declares a label's stem, where there is one

module _ (es : List Entry) (l : Label) where
  -- it declares it
  pub declares : declarer es (stem l) < length es → Declaration (kind_no es (declarer es (stem l))) × (name_no es (declarer es (stem l)) ≡ stem l)
  declares h = (says_labelled es new_point new_arc (stem l) (declarer es (stem l))).so (lowest_at (length es) (labelled es new_point new_arc (stem l)) h)

  -- a name that is not 0 is that record's
  pub declared : (name_for es l ≡ 0 → ⊥) → declarer es (stem l) < length es
  unfolding name_for
  declared f = stable (says_lt _ _) (λ g. f (rw (refuted (says_lt (declarer es (stem l)) (length es)) g)))

  pub name_is : declarer es (stem l) < length es → name_for es l ≡ packed es (declarer es (stem l)) (part_no (behind l))
  unfolding name_for
  name_is h = rw (lt-ltb (declarer es (stem l)) (length es) h)

  -- and tells it
  pub record_told : declarer es (stem l) < length es → record_by (name_for es l) ≡ declarer es (stem l)
  record_told h = (unpacked (declarer es (stem l)) (kind_no es (declarer es (stem l))) (part_no (behind l)) (name_for es l) (part_small (behind l)) (declares h).0.1 (name_is h)).0

  -- where there is none the name is 0
  pub name_none : length es ≤ declarer es (stem l) → name_for es l ≡ 0
  unfolding name_for
  name_none h = rw (le-ltb (declarer es (stem l)) (length es) h)

  -- it is the sum of its parts, and they are small
  pub name_sum : (d kind p : ℕ) → d < length es → d ≡ declarer es (stem l) → kind ≡ kind_no es d → p ≡ part_no (behind l)
      → (d * 32 + kind * 8 + p ≡ name_for es l) × (kind ≤ 3) × (p ≤ 5)
  name_sum d kind p h e f g =
      let inside : declarer es (stem l) < length es = omega arith in
      let same_kind : kind ≡ kind_no es (declarer es (stem l)) = f ∙ ap (kind_no es) e in
      (omega (arith, name_is inside), omega (arith, (declares inside).0.1), omega (arith, part_small (behind l)))

  -- a name tells a record that can be there
  pub name_inside : length es ≤ most_records → record_by (name_for es l) < most_records
  name_inside few =
      elim (dec_lt (declarer es (stem l)) (length es)) [
        | yes h ↦ omega (arith, record_told h, h)
        | no f ↦ rw (name_none (omega (arith, f))) (omega arith)
      ]

-- ---- a clear drawing

module _ (es : List Entry) (w : Clear es) where
  -- a declared label is found at its own record
  pub found_at : (j : ℕ) → j < length es → Declaration (kind_no es j) → declarer es (name_no es j) ≡ j
  found_at j h d =
      sym (lowest_here (length es) (labelled es new_point new_arc (name_no es j)) j h ((says_labelled es new_point new_arc (name_no es j) j).back (d, refl))
      (λ i b. refuted (says_labelled es new_point new_arc (name_no es j) i) (λ t. w.once j i b h d t.0 t.1)))

  -- a declared label with something from a point on behind it, or nothing
  module _ (j : ℕ) (suffix l : Label) (h : j < length es) (d : Declaration (kind_no es j)) (begins : stem suffix ≡ []) (e : name_no es j ++ suffix ≡ l) where
    -- is found at that record too,
    pub declarer_of : declarer es (stem l) ≡ j
    declarer_of = ap (declarer es) (stem_of (name_no es j) suffix l (w.pointless j h d) begins e) ∙ found_at j h d

    -- and its name is the record's number, its kind and the part
    pub name_of : name_for es l ≡ packed es j (part_no suffix)
    unfolding name_for
    name_of = rw (declarer_of, lt-ltb j (length es) h, behind_of (name_no es j) suffix l (w.pointless j h d) begins e)

-- ---- a name that tells a known part

pub says_tells : (name : ℕ) → Says (tells_part name) ((0 < name) × (part_by name < known_parts))
says_tells name = says_and (says_lt 0 name) (says_lt (part_by name) known_parts)

module _ (es : List Entry) where
  -- a label with such a name is that of the record that it tells, with the part behind it
  told_label : (l : Label) → tells_part (name_for es l) ≡ true → let name = name_for es l in
      (record_by name < length es) × Declaration (kind_no es (record_by name)) × (sort_by name ≡ kind_no es (record_by name) * 8 + part_by name) × (name_no es (record_by name) ++ suffix_no (part_by name) ≡ l)
  told_label l t =
      let (some, small) = (says_tells (name_for es l)).so t in
      let h = declared es l (λ z. omega (arith, z, some)) in
      let (decl, name) = declares es l h in
      let d = declarer es (stem l) in
      let (at, sort, part) = unpacked d (kind_no es d) (part_no (behind l)) (name_for es l) (part_small (behind l)) decl.1 (name_is es l h) in
      rw (at, part) (h, decl, sort, ap (λ (n : Label). n ++ suffix_no (part_no (behind l))) name ∙ ap (λ (r : Label). stem l ++ r) (sym (suffix_of (behind l) (rw part at small))) ∙ made_up l)

  -- a name that tells a kind and a known part is that of such a shape's label with the part behind it
  pub name_so : (kind : ℕ) (suffix l : Label) → 1 ≤ kind → KnownPart suffix → sort_by (name_for es l) ≡ kind * 8 + part_no suffix
      → (record_by (name_for es l) < length es) × (kind_no es (record_by (name_for es l)) ≡ kind) × (name_no es (record_by (name_for es l)) ++ suffix ≡ l)
  name_so kind suffix l b k e =
      let part : part_by (name_for es l) ≡ part_no suffix = omega (arith, e, part_small suffix) in
      let (inside, decl, sort, label) = told_label l ((says_tells (name_for es l)).back (omega (arith, e), rw part k.one)) in
      (inside, omega (arith, sort, e, part), rw (part, ← suffix_of suffix k.one) at label)

  -- the lowest guess of the part that a label tells is the lowest with that label
  pub guess_named : (l : Label) → tells_part (name_for es l) ≡ true → guess_in es (place_by (name_for es l)) ≡ lowest_or (length es) (labelled es pair_guess number_guess l)
  unfolding guesses_part labelled
  guess_named l t = lowest_same (length es) _ _ (λ i b. ap (λ (x : Bool). within pair_guess number_guess (kind_no es i) && x)
      (says_once (says_iff (λ w. alike (name_no es i) w.0 w.1) (λ e. (rw e t, rw e refl)) (says_and says_so (says_eq _ _))) (says_same (name_no es i) l)))
    where
      -- two labels that tell the same part are the same
      alike : (m : Label) → tells_part (name_for es m) ≡ true → place_by (name_for es m) ≡ place_by (name_for es l) → m ≡ l
      alike m u e =
          let (same-record, same-no) = same_place _ _ _ _ ((says_tells (name_for es m)).so u).1 ((says_tells (name_for es l)).so t).1 e in
          sym (told_label m u).3 ∙ (λ i. name_no es (same-record i) ++ suffix_no (same-no i)) ∙ (told_label l t).3

  -- so it is for the label of a declared shape with a known part behind it
  pub guess_at_lem : (w : Clear es) (j : ℕ) (suffix : Label) → j < length es → Declaration (kind_no es j) → KnownPart suffix
      → guess_in es (j * known_parts + part_no suffix) ≡ lowest_or (length es) (labelled es pair_guess number_guess (name_no es j ++ suffix))
  guess_at_lem w j suffix h d k =
      let n = name_of es w j suffix (name_no es j ++ suffix) h d k.begins refl in
      let (at, sort, part) = unpacked j (kind_no es j) (part_no suffix) (name_for es (name_no es j ++ suffix)) (part_small suffix) d.1 n in
      rw (at, part) at (guess_named (name_no es j ++ suffix) ((says_tells (name_for es (name_no es j ++ suffix))).back (omega (arith, n, d.0), rw part k.one)))
