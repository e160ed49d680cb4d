-- The chains while they are made, and a walk along one: the next of an entry is the first behind it with its hash, so that the walk finds
-- what the plain search finds. Assumes nothing.
use mathlib.Core.Path.{◌≡◌, sym, ap, ◌∙◌}
use mathlib.Core.Bool.{true, false, true≢false}
use mathlib.Core.List.{List}
use Prim.Native.Nat.{ℕ, ◌+◌, ◌≤◌, ◌<◌}
use native.Mathlib.Omega.{arith}
use native.Mathlib.Decide.{dec_lt}
use lib.ListN.{length, get_or, set}
use Rattle.refusal.proofs.Says.{Says, refuted, says_so, says_and, says_eq}
use Rattle.kinds.specs.Kinds.{new_point, new_arc}
use Rattle.record.specs.Entry.{Label, Entry}
use Rattle.names.specs.Labels.{kind_no, name_no, same, within, labelled, lowest_or}
use Rattle.names.specs.Chains.{chains, hash_of, hashed, first_from, NextsFrom, ChainedFrom, Chained}
use Rattle.names.proofs.Laws.{says_same}
use Rattle.names.proofs.First.{FirstIs, put, skip, from_more, from_stop, from_end, from_is, from_plain, firsts_out, firsts_in}

-- the test of a hash
pub says_hashed : (es : List Entry) (h i : ℕ) → Says (hashed es h i) ((within new_point new_arc (kind_no es i) ≡ true) × (hash_of (name_no es i) ≡ h))
unfolding hashed
says_hashed es h i = says_and says_so (says_eq _ _)

-- ---- one record more

module _ (es : List Entry) (heads nexts : List ℕ) (j : ℕ) (lt : j < length es) (c : ChainedFrom es (j + 1) heads nexts) where
  -- a record that declares nothing is in no chain
  pub links_out : within new_point new_arc (kind_no es j) ≡ false → ChainedFrom es j heads nexts
  links_out d = record {
    head = firsts_out (hashed es) chains (length es) heads j lt c.head (λ h. refuted (says_hashed es h j) (λ g. true≢false (sym g.0 ∙ d)));
    next = λ i a b e. elim (dec_lt j i) [
      | yes l ↦ c.next i (omega (arith, l)) b e
      | no f ↦ (let z : i ≡ j = omega (arith, a, f) in absurd (true≢false (sym e ∙ rw z d)))
    ];
  }

  -- a declaration comes to the front of its chain
  pub links_in : (h : ℕ) → within new_point new_arc (kind_no es j) ≡ true → h ≡ hash_of (name_no es j) → h < chains → j < length nexts → ChainedFrom es j (set heads h j) (set nexts j (get_or heads h 0))
  links_in h d e hb inside = record {
    head = firsts_in (hashed es) chains (length es) heads j lt c.head h hb ((says_hashed es h j).back (d, sym e)) (λ k q. refuted (says_hashed es k j) (λ g. q (sym (e ∙ g.1))));
    next = λ i a b w. put nexts j (get_or heads h 0) i inside _ (λ q. rw (q, ← e) (c.head.each h hb)) (λ q. c.next i (omega (arith, a, q)) b w);
  }

-- ---- a walk

-- it stands at i, in the label's chain, and what is found from its start on is found from i on
pub record Walking (es : List Entry) (l : Label) (start i : ℕ) : Type 0 where
  pub up_to : i ≤ length es
  pub in_chain : i < length es → hashed es (hash_of l) i ≡ true
  pub still : first_from (labelled es new_point new_arc l) (length es) start ≡ first_from (labelled es new_point new_arc l) (length es) i

module _ (es : List Entry) (l : Label) where
  -- what has the label has its hash
  labelled_hashed : (i : ℕ) → labelled es new_point new_arc l i ≡ true → hashed es (hash_of l) i ≡ true
  unfolding labelled
  labelled_hashed i e =
      let w = (says_and says_so (says_same (name_no es i) l)).so e in
      (says_hashed es (hash_of l) i).back (w.0, ap hash_of w.1)

  module _ (start i : ℕ) (w : Walking es l start i) where
    pub walk_end : length es ≤ i → length es ≡ first_from (labelled es new_point new_arc l) (length es) start
    walk_end h =
        let z : length es ≡ i = omega (arith, w.up_to) in
        z ∙ sym (w.still ∙ from_end (labelled es new_point new_arc l) (length es) i h)

    module _ (lt : i < length es) where
      -- a declaration with the label's hash has the label if the two are the same
      labelled_same : labelled es new_point new_arc l i ≡ same (name_no es i) l
      unfolding labelled
      labelled_same = rw ((says_hashed es (hash_of l) i).so (w.in_chain lt)).0

      pub walk_here : same (name_no es i) l ≡ true → i ≡ first_from (labelled es new_point new_arc l) (length es) start
      walk_here e = sym (w.still ∙ from_stop (labelled es new_point new_arc l) (length es) i lt (labelled_same ∙ e))

      module _ (nexts : List ℕ) (c : NextsFrom es 0 nexts) where
        next_is : get_or nexts i 0 ≡ first_from (hashed es (hash_of l)) (length es) (i + 1)
        next_is =
            let h = (says_hashed es (hash_of l) i).so (w.in_chain lt) in
            c i (omega arith) lt h.0 ∙ ap (λ (k : ℕ). first_from (hashed es k) (length es) (i + 1)) h.1

        next_first : FirstIs (hashed es (hash_of l)) (length es) (i + 1) (get_or nexts i 0)
        next_first = rw next_is (from_is (hashed es (hash_of l)) (length es) (i + 1) (omega arith))

        pub walk_up : i < get_or nexts i 0
        walk_up = omega (arith, next_first.after)

        pub walk_more : same (name_no es i) l ≡ false → Walking es l start (get_or nexts i 0)
        walk_more e =
            record {
              up_to = next_first.up_to;
              in_chain = next_first.passes;
              still = w.still ∙ from_more (labelled es new_point new_arc l) (length es) i lt (labelled_same ∙ e)
                  ∙ rw next_is (skip (labelled es new_point new_arc l) (hashed es (hash_of l)) labelled_hashed (length es) (i + 1) (omega arith));
            }

  -- from the head of the label's chain on it finds what the plain search finds
  module _ (heads nexts : List ℕ) (c : Chained es heads nexts) (start : ℕ) (e : start ≡ get_or heads (hash_of l) 0) (b : hash_of l < chains) where
    start_is : start ≡ first_from (hashed es (hash_of l)) (length es) 0
    start_is = e ∙ c.head.each (hash_of l) b

    pub start_first : FirstIs (hashed es (hash_of l)) (length es) 0 start
    start_first = rw start_is (from_is (hashed es (hash_of l)) (length es) 0 (omega arith))

    pub walk_found : first_from (labelled es new_point new_arc l) (length es) start ≡ lowest_or (length es) (labelled es new_point new_arc l)
    walk_found =
        rw start_is (sym (skip (labelled es new_point new_arc l) (hashed es (hash_of l)) labelled_hashed (length es) 0 (omega arith)))
        ∙ from_plain (labelled es new_point new_arc l) (length es)
