-- The lines that are read from records and the table of names: of records that are laid right, the drawing's own lines. Assumes nothing.
use mathlib.Core.Path.{◌≡◌, refl, sym, ap, ◌∙◌}
use mathlib.Core.List.{List, [], ◌∷◌, map}
use Prim.Native.Nat.{ℕ, ◌<◌}
use native.Mathlib.Omega.{arith}
use lib.ListN.{length}
use Rattle.ground.specs.Lists.{flat, up_to}
use Rattle.ground.proofs.Pieces.{flat_append}
use Rattle.ground.proofs.UpTo.{get_or_up_to, up_to_same, map_up_to}
use Rattle.kinds.specs.Kinds.{kind_at}
use Rattle.record.specs.Decode.{count_of, decode_at}
use Rattle.record.specs.Entry.{Entry, entry_at, named, entry_of}
use Rattle.record.specs.Laid.{LaidOut}
use Rattle.names.specs.Labels.{drawn, kind_no}
use Rattle.names.specs.Names.{name_for, names_of}
use Rattle.names.proofs.Drawn.{decode_here, drawn_length, drawn_at, drawn_kind}
use Rattle.names.proofs.Tables.{names_at_lem}
use Rattle.kinds.proofs.Table.{few_labels}
use Rattle.row.specs.Row.{encode_row, encode_rows}
use Rattle.lowering.specs.Rows.{rows_of}
use Rattle.lowering.specs.Sketch.{line_for, sketch, first_in, row_if}
use Rattle.lowering.specs.Steps.{names_at, line_in, sketch_in, firsts_of, bytes_by}
use Rattle.lowering.proofs.drawing.Fine.{Fine}
use Rattle.lowering.proofs.Sketched.{rows_by_lem}

-- pieces of pieces
flat_flat : {A B C : Type 0} (f : A → List B) (g : B → List C) (xs : List A) → flat (λ x. flat g (f x)) xs ≡ flat g (flat f xs)
flat_flat f g [] = refl
flat_flat f g (x ∷ xs) = rw (flat_flat f g xs) (sym (flat_append g (f x) (flat f xs)))

module _ (text records names : List ℕ) (laid : LaidOut text records) (are : names ≡ names_of (drawn text records)) where
  abbrev es : List Entry
  es = drawn text records

  line_same : (i : ℕ) → i < count_of records → line_in records names i ≡ line_for es (entry_of text (decode_at records i))
  unfolding entry_of
  line_same i h =
      let r = decode_at records i in
      let count : r.count ≡ (kind_at r.kind).labels = rw (decode_here records i h) (laid.each i h).count in
      let same : names_at names r.kind i ≡ map (name_for es) (entry_of text r).labels =
      up_to_same (kind_at r.kind).labels _ (λ q. name_for es (named text r q))
      (λ q b. rw are
      (names_at_lem es i q (omega (arith, h, laid.few)) (omega (arith, b, few_labels r.kind)) (rw (drawn_kind text records i) b)
      ∙ rw (drawn_at text records i) (ap (name_for es) (get_or_up_to r.count (named text r) q [] (rw count b)))))
      ∙ rw (← count) (sym (map_up_to (name_for es) r.count (named text r))) in
      λ j. record { kind = r.kind; third = r.third; names = same j; x = r.x; y = r.y }

  pub line_is : (i : ℕ) → i < count_of records → line_in records names i ≡ line_for (drawn text records) (entry_at (drawn text records) i)
  line_is i h = line_same i h ∙ ap (line_for es) (sym (drawn_at text records i))

  lines_are : up_to (count_of records) (line_in records names) ≡ sketch (drawn text records)
  unfolding sketch drawn
  lines_are = up_to_same (count_of records) _ _ line_same ∙ sym (map_up_to (line_for es) (count_of records) (λ i. entry_of text (decode_at records i)))

  pub first_is : firsts_of (sketch_in records names) ≡ first_in (kind_no (drawn text records)) (length (drawn text records))
  first_is j = first_in (λ i. sym (drawn_kind text records i) j) (sym (drawn_length text records) j)

  pub bytes_are : Fine (drawn text records) → (next : ℕ) → bytes_by next (sketch_in records names) ≡ encode_rows (rows_of (drawn text records) next)
  bytes_are w next =
      flat_flat (row_if (firsts_of (sketch_in records names)) next) encode_row (up_to (count_of records) (line_in records names))
      ∙ rw (first_is, lines_are, rows_by_lem es w next) refl
