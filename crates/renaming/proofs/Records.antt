-- A drawing and the same with its shapes renamed have the same lines: a label becomes that of the shape that the same record declares, so its name,
-- which is that record with its kind and a part, is the same. Assumes nothing.
use mathlib.Core.Path.{◌≡◌, refl, sym, ap, ◌∙◌}
use mathlib.Core.List.{List, [], ◌++◌, append-nil, map}
use Prim.Native.Nat.{ℕ, ◌<◌}
use native.Mathlib.Omega.{arith}
use lib.ListN.{length, get_or}
use lib.Seq.{ext_get_or}
use Rattle.ground.proofs.Pieces.{each_of, get_or_map, map_both}
use Rattle.kinds.specs.Kinds.{Declaration}
use Rattle.kinds.proofs.Table.{some_label}
use Rattle.record.specs.Entry.{Label, Entry, entry_at, label_no}
use Rattle.names.specs.Labels.{kind_no, name_no}
use Rattle.names.specs.Cut.{stem, behind, Pointless}
use Rattle.names.specs.Names.{declarer, name_for}
use Rattle.names.proofs.Cut.{stem_behind, behind_of}
use Rattle.names.proofs.Names.{declares, name_is, name_of}
use Rattle.lowering.specs.Sketch.{line_for, sketch, blank_line}
use Rattle.lowering.proofs.drawing.Fine.{Fine, clear, label_declared}
use Rattle.lowering.proofs.Sketched.{length_sketch, line_at_lem}
use Rattle.renaming.specs.Renaming.{OneToOne, renamed, Renamed}

-- a label without a point is renamed as a whole
renamed_bare : (becomes : Label → Label) (l : Label) → Pointless l → renamed becomes l ≡ becomes l
renamed_bare becomes l p = rw (p, behind_of l [] l p refl (append-nil l)) (append-nil (becomes l))

module _ {becomes : Label → Label} {es es' : List Entry} (r : Renamed becomes es es') (w : Fine es) (w' : Fine es') where
  inside : (i : ℕ) → i < length es → i < length es'
  inside i h = omega (arith, h, r.count_same)

  kind_becomes : (i : ℕ) → i < length es → Declaration (kind_no es i) → Declaration (kind_no es' i)
  kind_becomes i h d = rw (r.each i h).kind_same d

  -- the first label of a record becomes that of the same record, and a declared one does as a whole
  name_becomes : (i : ℕ) → i < length es → name_no es' i ≡ renamed becomes (name_no es i)
  name_becomes i h =
      let s = w.sound i h in
      ap (λ (ls : List Label). get_or ls 0 []) (r.each i h).labels_become
      ∙ get_or_map (renamed becomes) (entry_at es i).labels 0 [] [] (omega (arith, s.count, some_label (kind_no es i) s.known))

  shape_becomes : (i : ℕ) → i < length es → Declaration (kind_no es i) → name_no es' i ≡ becomes (name_no es i)
  shape_becomes i h d = name_becomes i h ∙ renamed_bare becomes (name_no es i) ((clear es w).pointless i h d)

  -- ---- names

  -- a label that is declared up to its first point has the name of the label that it becomes
  name_same : (l : Label) → declarer es (stem l) < length es → name_for es' (renamed becomes l) ≡ name_for es l
  name_same l h =
      let i = declarer es (stem l) in
      let (d, name) = declares es l h in
      name_of es' (clear es' w') i (behind l) (renamed becomes l) (inside i h) (kind_becomes i h d) (stem_behind l)
      (ap (λ (n : Label). n ++ behind l) (shape_becomes i h d ∙ ap becomes name))
      ∙ rw (r.each i h).kind_same (sym (name_is es l h))

  -- ---- lines

  line_same : (i : ℕ) → i < length es → line_for es' (entry_at es' i) ≡ line_for es (entry_at es i)
  line_same i h j =
      let s = r.each i h in
      record { kind = s.kind_same j; third = s.third_same j; names = names_same j; x = s.x_same j; y = s.y_same j }
    where
      names_same : map (name_for es') (entry_at es' i).labels ≡ map (name_for es) (entry_at es i).labels
      names_same =
          ap (map (name_for es')) (r.each i h).labels_become
          ∙ map_both (name_for es') (name_for es) (renamed becomes) (entry_at es i).labels (each_of _ (entry_at es i).labels [] (λ q g. name_same (label_no (entry_at es i) q) (label_declared es w i h q g)))

  pub same_lines : sketch es' ≡ sketch es
  same_lines =
      ext_get_or blank_line (sketch es') (sketch es) (length_sketch es' ∙ r.count_same ∙ sym (length_sketch es))
      (λ i h. line_at_lem es' i ∙ line_same i (omega (arith, h, length_sketch es', r.count_same)) ∙ sym (line_at_lem es i))

  -- ---- two declared shapes that became one would be declared twice

  pub one_to_one : OneToOne becomes es
  one_to_one k l (i, h, (c, a)) (j, g, (d, b)) e =
      let twice : name_no es' i ≡ name_no es' j = shape_becomes i h c ∙ ap becomes a ∙ e ∙ ap becomes (sym b) ∙ sym (shape_becomes j g d) in
      sym a ∙ ap (name_no es) (w'.once i j (inside i h) (inside j g) (kind_becomes i h c) (kind_becomes j g d) twice) ∙ b
