-- The tests on numbers tell what the tests over labels tell: 31 where no declared label has a point, 32 and 33 where 31 holds nowhere, 34 and 35
-- where 33 holds nowhere either. Assumes nothing.
use mathlib.Core.Path.{◌≡◌, refl, sym, ap, ◌∙◌}
use mathlib.Core.Bool.{Bool, true, false, not, ◌&&◌, ◌||◌}
use mathlib.Core.List.{List, [], ◌∷◌, ◌++◌}
use Prim.Native.Nat.{ℕ, suc, ◌+◌, ◌*◌, ◌%◌, ◌≤◌, ◌<◌}
use native.Mathlib.Omega.{arith}
use lib.Dec.{eqb, ltb, leb}
use lib.ListN.{length, get_or}
use Rattle.ground.proofs.Lists.{and_first, and_second, all, all_at}
use Rattle.refusal.specs.First.{EachBelow, all_below, first}
use Rattle.refusal.proofs.Says.{Says, fails, stable, says_and, says_or, says_not, says_if, says_never, says_iff, says_eq, says_le, says_lt, says_once, says_so, says_any, says_all}
use Rattle.refusal.proofs.Alike.{and_alike, any_alike, none_alike, first_alike}
use Rattle.kinds.specs.Kinds.{kinds, kind_at, Declaration, Guess, new_point, new_arc, first_rule, last_rule, pair_guess, number_guess}
use Rattle.record.specs.Record.{most_records}
use Rattle.record.specs.Entry.{Label, Entry, entry_at, label_no}
use Rattle.kinds.proofs.Table.{few_labels, declared_label, guess_label}
use Rattle.names.specs.Labels.{kind_no, name_no, same, within, labelled, lowest_or}
use Rattle.names.specs.Cut.{stem, Pointless, known_parts, part_no, KnownPart}
use Rattle.names.specs.Names.{declarer, per_kind, per_record, name_for, name_at, names_of, sort_by, record_by, place_by, guesses_of, Clear}
use Rattle.names.proofs.Laws.{says_same, says_within}
use Rattle.names.proofs.First.{lowest_below}
use Rattle.names.proofs.Cut.{part_small}
use Rattle.names.proofs.Names.{says_labelled, name_of, name_so, name_inside, record_told, unpacked, says_tells, guess_named, guess_at_lem}
use Rattle.names.proofs.Tables.{names_at_lem, guesses_at_lem}
use Rattle.drawing.specs.Needs.{Shape, point, circle, arc, declaring, Part, parts, Choice, Need, needs, need_of, need_at, code_at}
use Rattle.drawing.specs.Faults as faults
use faults.{Named, Meets, declared_twice, wrong_label, no_such_part, guessed_twice, without_guess, behind30}
use Rattle.drawing.specs.Check as check
use check.{twice, wrong_place, wrong_label_test, no_such_part_test, guess_at, guessed, any_unguessed, lacks, without_guess_test, test}
use Rattle.drawing.specs.Numbers.{sort_of, by_sort, own_numbers, name_by, declared_before, wrong_name, any_wrong_name, no_part_named, guessed_before, any_lacking, lacks_by, part_lacking, test_by}
use Rattle.drawing.proofs.Agree.{says_meets, agree}

-- ---- what a place needs, by the sort

pub declares : (s : Shape) → Declaration (declaring s)
declares point = (omega arith, omega arith)
declares circle = (omega arith, omega arith)
declares arc = (omega arith, omega arith)

-- a suffix that can stand behind a shape's label, as a test
abbrev pub known_test : Label → Bool
known_test t = same (stem t) [] && ltb (part_no t) known_parts

pub says_known_part : (t : Label) → Says (known_test t) (KnownPart t)
says_known_part t = says_iff (λ w. record { begins = w.0; one = w.1 }) (λ k. (k.begins, k.one)) (says_and (says_same (stem t) []) (says_lt (part_no t) known_parts))

-- those of a need
abbrev all_known : Need → Bool
all_known = all (λ (c : Choice). known_test c.suffix)

-- a sort that a place needs tells a known part
abbrev tells_test : Need → Bool
tells_test need = all_below per_record (λ sort. not (by_sort need sort) || (ltb 0 sort && ltb (sort % per_kind) known_parts))

-- so it is for each code: two computed tests
pub known_needs : (code : ℕ) → all_known (need_of code) ≡ true
known_needs = all_at all_known needs [] refl refl

met_tells : (code sort : ℕ) → sort < per_record → by_sort (need_of code) sort ≡ true → (0 < sort) × (sort % per_kind < known_parts)
met_tells code sort h = (says_all _ _ (λ s. says_if {a = by_sort (need_of code) s} says_so (says_and (says_lt 0 s) (says_lt (s % per_kind) known_parts))) per_record).so (all_at tells_test needs [] refl refl code) sort h

module _ (es : List Entry) (w : Clear es) where
  -- a label is that of a declared shape with a known part behind it exactly if its name has that sort
  pub says_named : (s : Shape) (suffix l : Label) → KnownPart suffix → Says (eqb (sort_by (name_for es l)) (sort_of s suffix)) (Named es s suffix l)
  says_named s suffix l k = says_iff so back (says_eq _ _)
    where
      so : sort_by (name_for es l) ≡ sort_of s suffix → Named es s suffix l
      so e = let (inside, kind, name) = name_so es (declaring s) suffix l (declares s).0 k e in (record_by (name_for es l), inside, (kind, name))

      back : Named es s suffix l → sort_by (name_for es l) ≡ sort_of s suffix
      back (j, h, (e, n)) =
          let d : Declaration (kind_no es j) = rw e (declares s) in
          (unpacked j (kind_no es j) (part_no suffix) (name_for es l) (part_small suffix) d.1 (name_of es w j suffix l h d k.begins n)).1 ∙ rw e refl

  says_met : (need : Need) (l : Label) → all_known need ≡ true → Says (by_sort need (sort_by (name_for es l))) (Meets es need l)
  says_met [] l k = says_never
  says_met (c ∷ cs) l k =
      says_or (says_named c.shape c.suffix l ((says_known_part c.suffix).so (and_first _ (all_known cs) k))) (says_met cs l (and_second (known_test c.suffix) _ k))

-- ---- the parts of a shape

-- a part's suffix is known, it is guessed by a guess, and a guess whose place needs its sort is of its kind
abbrev PartOf : Shape → Part → Type 0
PartOf s p =
    KnownPart p.suffix × (Guess p.guess × EachBelow (length kinds) (λ k. Guess k × (by_sort (need_at k 0) (sort_of s p.suffix) ≡ true) → k ≡ p.guess))

abbrev part_test : Shape → Part → Bool
part_test s p =
    known_test p.suffix
    && (within pair_guess number_guess p.guess && all_below (length kinds) (λ k. not (within pair_guess number_guess k && by_sort (need_at k 0) (sort_of s p.suffix)) || eqb k p.guess))

says_part : (s : Shape) (p : Part) → Says (part_test s p) (PartOf s p)
says_part s p =
    says_and (says_known_part p.suffix)
    (says_and (says_within pair_guess number_guess p.guess) (says_all _ _ (λ k. says_if (says_and (says_within pair_guess number_guess k) says_so) (says_eq k p.guess)) (length kinds)))

parts_of : (s : Shape) → all (part_test s) (parts s) ≡ true
parts_of point = refl
parts_of circle = refl
parts_of arc = refl

not_below : (a n : ℕ) → not (ltb a n) ≡ leb n a
not_below a n = says_once (says_not (says_lt a n)) (says_iff (λ h. λ g. omega (arith, h, g)) (λ h. omega (arith, h)) (says_le n a))

-- ---- a drawing with its own tables

module _ (es : List Entry) (few : length es ≤ most_records) where
  name_here : (i q : ℕ) → i < length es → q < (kind_at (kind_no es i)).labels → name_by (names_of es) i q ≡ name_at es i q
  name_here i q h g = names_at_lem es i q (omega (arith, h, few)) (omega (arith, g, few_labels (kind_no es i))) g

  -- that of a declaration or a guess
  name_first : (i : ℕ) → i < length es → (kind_at (kind_no es i)).labels ≡ 1 → name_by (names_of es) i 0 ≡ name_for es (name_no es i)
  name_first i h one = name_here i 0 h (omega (arith, one))

  -- 31
  module _ (pointless : EachBelow (length es) (λ j. Declaration (kind_no es j) → Pointless (name_no es j))) where
    same_31 : EachBelow (length es) (λ i. twice es new_point new_arc i ≡ declared_before (kind_no es i) (names_of es) i)
    unfolding twice declared_before
    same_31 i h = and_alike (within new_point new_arc (kind_no es i)) _ _ (λ e.
        let d : Declaration (kind_no es i) = (says_within new_point new_arc (kind_no es i)).so e in
        let l = name_no es i in
        let p = labelled es new_point new_arc l in
        let n = length es in
        let up_to : ltb (lowest_or n p) (suc i) ≡ true = lowest_below n p (suc i) h ∙ (says_any p (λ j. p j ≡ true) (λ j. says_so) (suc i)).back (i, omega arith, (says_labelled es new_point new_arc l i).back (d, refl)) in
        let plain : stem l ≡ l = pointless i h d in
        let below : declarer es (stem l) < n = rw plain (omega (arith, (says_lt (lowest_or n p) (suc i)).so up_to, h)) in
        let at : record_by (name_by (names_of es) i 0) ≡ lowest_or n p = rw (name_first i h (declared_label (kind_no es i) d).0) (record_told es l below) ∙ ap (declarer es) plain in
        sym (rw at (lowest_below n p i (omega (arith, h)))))

    -- where it holds nowhere the drawing is clear
    clear_of : EachBelow (length es) (λ i. twice es new_point new_arc i ≡ false) → Clear es
    clear_of none = record { once = λ i j c h d e same. fails (agree es declared_twice i) (none i h) (d, (j, c, (e, same))); pointless = pointless }

  module _ (w : Clear es) where
    met_alike : (i q : ℕ) → i < length es → q < (kind_at (kind_no es i)).labels → wrong_place es i q ≡ wrong_name (kind_no es i) (names_of es) i q
    unfolding wrong_place wrong_name
    met_alike i q h g =
        let need = need_at (kind_no es i) q in
        let l = label_no (entry_at es i) q in
        rw (name_here i q h g) (ap not (says_once (says_meets es need l) (says_met es w need l (known_needs (code_at (kind_no es i) q)))))

    -- 32
    same_32 : EachBelow (length es) (λ i. wrong_label_test es i ≡ any_wrong_name (kind_no es i) (names_of es) i)
    unfolding wrong_label_test any_wrong_name
    same_32 i h = ap (λ (x : Bool). within first_rule last_rule (kind_no es i) && x) (any_alike _ _ (kind_at (kind_no es i)).labels (λ q g. met_alike i q h g))

    -- 33
    same_33 : EachBelow (length es) (λ i. no_such_part_test es i ≡ no_part_named (kind_no es i) (names_of es) i)
    unfolding no_such_part_test no_part_named
    same_33 i h = and_alike (within pair_guess number_guess (kind_no es i)) _ _
        (λ e. met_alike i 0 h (omega (arith, guess_label (kind_no es i) ((says_within pair_guess number_guess (kind_no es i)).so e))))

    -- behind 33 each guess names a part
    module _ (none : EachBelow (length es) (λ i. no_such_part_test es i ≡ false)) where
      met_guess : (i : ℕ) → i < length es → Guess (kind_no es i) → by_sort (need_at (kind_no es i) 0) (sort_by (name_at es i 0)) ≡ true
      met_guess i h g =
          let need = need_at (kind_no es i) 0 in
          (says_met es w need (name_no es i) (known_needs (code_at (kind_no es i) 0))).back (stable (says_meets es need (name_no es i)) (λ n. fails (agree es no_such_part i) (none i h) (g, n)))

      -- 34
      same_34 : EachBelow (length es) (λ i. twice es pair_guess number_guess i ≡ guessed_before (kind_no es i) (names_of es) (guesses_of es) i)
      unfolding twice guessed_before
      same_34 i h = and_alike (within pair_guess number_guess (kind_no es i)) _ _ (λ e.
          let g : Guess (kind_no es i) = (says_within pair_guess number_guess (kind_no es i)).so e in
          let l = name_no es i in
          let name = name_for es l in
          let (some, small) = met_tells (code_at (kind_no es i) 0) (sort_by name) (omega arith) (met_guess i h g) in
          let found : get_or (guesses_of es) (place_by (name_by (names_of es) i 0)) 0 ≡ lowest_or (length es) (labelled es pair_guess number_guess l) =
          rw (name_first i h (guess_label (kind_no es i) g)) (guesses_at_lem es (place_by name) (omega (arith, name_inside es l few, small)) ∙ guess_named es l ((says_tells name).back (omega (arith, some), omega (arith, small)))) in
          sym (rw found (lowest_below (length es) (labelled es pair_guess number_guess l) i (omega (arith, h)))))

      -- the guesses with a part's label are of its sort
      module _ (i : ℕ) (h : i < length es) (s : Shape) (is : kind_no es i ≡ declaring s) (p : Part) (part : PartOf s p) where
        of_sort : (j : ℕ) → j < length es → Guess (kind_no es j) → name_no es j ≡ name_no es i ++ p.suffix → kind_no es j ≡ p.guess
        of_sort j g k e =
            let sort : sort_by (name_at es j 0) ≡ sort_of s p.suffix = (says_eq _ _).so ((says_named es w s p.suffix (name_no es j) part.0).back (i, h, (is, sym e))) in
            part.1.1 (kind_no es j) (omega (arith, k.1)) (k, rw sort at (met_guess j g k))

        guess_alike : EachBelow (length es) (λ j. labelled es pair_guess number_guess (name_no es i ++ p.suffix) j ≡ guess_at es p.guess p.suffix (name_no es i) j)
        unfolding labelled guess_at
        guess_alike j g =
            says_once (says_and (says_within pair_guess number_guess (kind_no es j)) (says_same (name_no es j) (name_no es i ++ p.suffix)))
            (says_iff (λ q. (rw q.0 part.1.0, q.1)) (λ q. (of_sort j g q.0 q.1, q.1))
            (says_and (says_eq (kind_no es j) p.guess) (says_same (name_no es j) (name_no es i ++ p.suffix))))

        lacking_alike : not (guessed es p.guess p.suffix (name_no es i)) ≡ leb (length es) (get_or (guesses_of es) (i * known_parts + part_no p.suffix) 0)
        unfolding guessed
        lacking_alike =
            let n = length es in
            let q = labelled es pair_guess number_guess (name_no es i ++ p.suffix) in
            let at : get_or (guesses_of es) (i * known_parts + part_no p.suffix) 0 ≡ lowest_or n q =
            guesses_at_lem es _ (omega (arith, h, few, part.0.one)) ∙ guess_at_lem es w i p.suffix h (rw is (declares s)) part.0 in
            rw (at, ← any_alike q (guess_at es p.guess p.suffix (name_no es i)) n guess_alike, ← lowest_below n q n (omega arith)) (not_below (lowest_or n q) n)

      lacks_alike : (i : ℕ) → i < length es → (s : Shape) → lacks es i s ≡ lacks_by (kind_no es i) (length es) (guesses_of es) i s
      lacks_alike i h s = and_alike (eqb (kind_no es i) (declaring s)) _ _ (λ e. go ((says_eq _ _).so e) (parts s) (parts_of s))
        where
          go : kind_no es i ≡ declaring s → (ps : List Part) → all (part_test s) ps ≡ true → any_unguessed es (name_no es i) ps ≡ any_lacking (length es) (guesses_of es) i ps
          go is [] e = refl
          go is (p ∷ ps) e = rw (lacking_alike i h s is p ((says_part s p).so (and_first _ (all (part_test s) ps) e)), go is ps (and_second (part_test s p) _ e))

      -- 35
      same_35 : EachBelow (length es) (λ i. without_guess_test es i ≡ part_lacking (kind_no es i) (length es) (guesses_of es) i)
      unfolding without_guess_test part_lacking
      same_35 i h = rw (lacks_alike i h point, lacks_alike i h circle, lacks_alike i h arc)

  -- ---- all of them

  -- behind 30 the numbers tell what the labels tell
  pub by_numbers : EachBelow (length es) (λ j. Declaration (kind_no es j) → Pointless (name_no es j)) → first behind30 (test es) (length es) ≡ first behind30 (test_by (own_numbers es)) (length es)
  by_numbers plain =
      let n = length es in
      let t = test_by (own_numbers es) in
      first_alike declared_twice _ (test es) t n (same_31 plain) (λ none.
      let w = clear_of plain none in
      first_alike wrong_label _ (test es) t n (same_32 w) (λ met.
      first_alike no_such_part _ (test es) t n (same_33 w) (λ named.
      first_alike guessed_twice _ (test es) t n (same_34 w named) (λ once.
      first_alike without_guess [] (test es) t n (same_35 w named) (λ all. none_alike (test es) t n)))))
