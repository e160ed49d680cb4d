-- `names::name_of` meets its contract: the walk begins at the head of the chain of the label's hash, and what it finds is the declaring
-- record. Assumes nothing.
use mathlib.Core.Path.{◌≡◌, sym, ap, ◌∙◌}
use Prim.Native.Nat.{ℕ, ◌+◌, ◌-◌, ◌*◌, ◌≤◌, ◌<◌}
use native.Mathlib.Omega.{arith}
use lib.ListN.{length, get_or, take, drop}
use lib.Seq.{length-take-le}
use mathlib.Core.List.{List}
use Rattle.kinds.specs.Kinds.{new_point, new_arc}
use Rattle.record.specs.Record.{most_records}
use Rattle.record.specs.Entry.{Label, Entry}
use Rattle.names.specs.Labels.{drawn, kind_no, labelled}
use Rattle.names.specs.Cut.{stem, behind, part_no}
use Rattle.names.specs.Chains.{chains, hash_from, hash_of, Chained, first_from}
use Rattle.names.specs.Names.{declarer, name_for}
use Rattle.names.proofs.Laws.{rest_of}
use Rattle.names.proofs.Drawn.{laid_by, drawn_length, drawn_kind}
use Rattle.names.proofs.Cut.{stem_take, behind_drop, stem_short, stem_stem}
use Rattle.names.proofs.Links.{start_first, walk_found}
use Rattle.names.proofs.Names.{name_none, name_sum}
use Rattle.names.proofs.name_of.Goals as goal

-- the label's front is inside it and is its stem, which has the same hash
module _ (l : Label) (len hash : ℕ) (f : (len ≡ length (stem l)) × (hash ≡ hash_of l) × (hash < chains)) where
  short : len ≤ length l
  short = omega (arith, f.0, stem_short l)

  front_is : take len l ≡ stem l
  front_is = rw f.0 (stem_take l)

  hash_is : hash ≡ hash_of (stem l)
  hash_is = f.1 ∙ ap (hash_from 0) (sym (stem_stem l))

  hash_small : hash_of (stem l) < chains
  hash_small = omega (arith, hash_is, f.2)

  -- the walk starts at the head of its chain
  start_is : (heads : List ℕ) (start : ℕ) → start ≡ get_or heads hash 0 → start ≡ get_or heads (hash_of (stem l)) 0
  start_is heads start e = e ∙ ap (λ (h : ℕ). get_or heads h 0) hash_is

  -- what it finds is the declaring record
  found : (es : List Entry) (heads nexts : List ℕ) (start d : ℕ) → Chained es heads nexts → start ≡ get_or heads hash 0
      → d ≡ first_from (labelled es new_point new_arc (take len l)) (length es) start → d ≡ declarer es (stem l)
  found es heads nexts start d c e w = rw (← walk_found es (stem l) heads nexts c start (start_is heads start e) hash_small, ← front_is) w

  -- the name is the sum of its parts
  sum : (es : List Entry) (d kind part : ℕ) → length es ≤ most_records → d < length es → d ≡ declarer es (stem l) → kind ≡ kind_no es d
      → part ≡ part_no (take (length l - len) (drop len l)) → (d < most_records) × (d * 32 + kind * 8 + part ≡ name_for es l) × (kind ≤ 3) × (part ≤ 5)
  sum es d kind part few inside at k p =
      let rest : take (length l - len) (drop len l) ≡ behind l = rw f.0 (rest_of l (length (stem l)) ∙ behind_drop l) in
      let (is, ks, ps) = name_sum es l _ _ _ inside at k (p ∙ ap part_no rest) in
      (omega (arith, inside, few), is, ks, ps)

pub slice_bounds-walk-end : goal.slice_bounds-walk-end
slice_bounds-walk-end c = sym (length-take-le _ _ (short c.args.label.now _ _ c.front-f.ensures))

pub walk-d-requires : goal.walk-d-requires
walk-d-requires c =
    let p = c.front-f.ensures in
    let f = start_first _ (stem c.args.label.now) _ _ c.requires _ (start_is c.args.label.now _ _ p _ _ c.wide.ensures) (hash_small c.args.label.now _ _ p) in
    rw (front_is c.args.label.now _ _ p) (c.requires.next, f.up_to, f.passes)

pub returns-then-count-d : goal.returns-then-count-d
returns-then-count-d c =
    let a = c.args in
    let at = found c.args.label.now _ _ c.front-f.ensures _ _ _ _ _ c.requires c.wide.ensures c.walk-d.ensures in
    sym (name_none _ a.label.now (omega (arith, c.if-count-d.true, at, drawn_length a.page.now.text.now a.page.now.records.now, c.count.ensures)))

pub slice_bounds-part_of-count : goal.slice_bounds-part_of-count
slice_bounds-part_of-count c = omega (arith, short c.args.label.now _ _ c.front-f.ensures)

pub slice_bounds-part_of-start : goal.slice_bounds-part_of-start
slice_bounds-part_of-start c = omega (arith, short c.args.label.now _ _ c.front-f.ensures)

pub overflow_add-result-2 : goal.overflow_add-result-2
overflow_add-result-2 c =
    let p = c.front-f.ensures in
    let at = found c.args.label.now _ _ p _ _ _ _ _ c.requires c.wide.ensures c.walk-d.ensures in
    let s = sum c.args.label.now _ _ p (drawn c.args.page.now.text.now c.args.page.now.records.now) _ _ _ (rw drawn_length (laid_by _ _ c.args.page.now.laid).few) (rw (drawn_length, ← c.count.ensures) c.if-count-d.false) at (c.kind.ensures ∙ sym (drawn_kind _ _ _)) c.part_of.ensures in
    omega (arith, s)

pub overflow_cast-result-2 : goal.overflow_cast-result-2
overflow_cast-result-2 c =
    let p = c.front-f.ensures in
    let at = found c.args.label.now _ _ p _ _ _ _ _ c.requires c.wide.ensures c.walk-d.ensures in
    let s = sum c.args.label.now _ _ p (drawn c.args.page.now.text.now c.args.page.now.records.now) _ _ _ (rw drawn_length (laid_by _ _ c.args.page.now.laid).few) (rw (drawn_length, ← c.count.ensures) c.if-count-d.false) at (c.kind.ensures ∙ sym (drawn_kind _ _ _)) c.part_of.ensures in
    omega (arith, s)

pub returns : goal.returns
returns c =
    let p = c.front-f.ensures in
    let at = found c.args.label.now _ _ p _ _ _ _ _ c.requires c.wide.ensures c.walk-d.ensures in
    let s = sum c.args.label.now _ _ p (drawn c.args.page.now.text.now c.args.page.now.records.now) _ _ _ (rw drawn_length (laid_by _ _ c.args.page.now.laid).few) (rw (drawn_length, ← c.count.ensures) c.if-count-d.false) at (c.kind.ensures ∙ sym (drawn_kind _ _ _)) c.part_of.ensures in
    s.1
