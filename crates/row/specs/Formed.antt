-- Which bytes are well formed rows (docs/FORMAT.md, "Lowering"): in words, and as a test.
use Rattle.std.specs.Prelude.{◌≡◌, Bool, not, ◌&&◌, ◌||◌, List, [], ◌∷◌, ℕ, ◌/◌, ◌%◌, ◌≤◌, leb, ltb, eqb, length, get_or}
use Rattle.ground.specs.Lists.{sum_to}
use Rattle.refusal.specs.First.{EachBelow, all_below}
use Rattle.little.specs.Little.{byte}
use Rattle.layout.specs.Slots.{size_of}
use Rattle.layout.specs.declared.ShapeKind.TheVariants.{Point, Circle, Arc}
use Rattle.kinds.specs.Kinds.{Kind, kind_at, first_rule, last_rule, Rule, numberless, label_places}
use Rattle.record.specs.Sound.{Third}
use Rattle.row.specs.declared.Row.{Row as Held}
use Rattle.row.specs.Row.{row_bytes, row_mark, most_ids, row_no, held_in}

-- ---- the ids of a kind

-- how many ids a label comes to, by what its place needs: the slots of a point, a circle or an arc, or one of a component that is fixed
abbrev pub ids_for : ℕ → ℕ
ids_for code = get_or (0 ∷ size_of Point ∷ size_of Circle ∷ size_of Arc ∷ 1 ∷ 1 ∷ []) code 0

-- how many ids label place q of a kind comes to
abbrev pub ids_at : ℕ → ℕ → ℕ
ids_at kind q = ids_for (get_or (kind_at kind).needs q 0)

-- how many ids the row of a kind has: those of its label places
unfoldable pub ids_of : ℕ → ℕ
ids_of kind = sum_to (ids_at kind) label_places

-- ---- in words

-- a rule's kind, as many ids as it has, a third byte as its record has, no id behind them, and no number where the kind has none
pub record FieldsFormed (h : Held) : Type 0 where
  pub rule : Rule h.kind
  pub count : h.count ≡ ids_of h.kind
  pub third : Third h.kind h.third
  pub unused : EachBelow most_ids (λ q. h.count ≤ q → get_or h.ids q 0 ≡ 0)
  pub no_number : (kind_at h.kind).number ≡ numberless → h.bits ≡ 0

-- the bytes of a row: its mark, and such fields
pub record RowFormed (b : List ℕ) : Type 0 where
  pub marked : byte b 0 ≡ row_mark
  pub fields : FieldsFormed (held_in b)

-- whole rows, each well formed; there may be none
pub record RowsFormed (rows : List ℕ) : Type 0 where
  pub whole : length rows % row_bytes ≡ 0
  pub each : EachBelow (length rows / row_bytes) (λ i. RowFormed (row_no rows i))

-- ---- as a test

-- the id behind the ids is 0
abbrev pub clear_at : Held → ℕ → Bool
clear_at h q = not (leb h.count q) || eqb (get_or h.ids q 0) 0

-- the fields, by their kind
abbrev pub held_test : Kind → Held → Bool
held_test k h =
    leb first_rule h.kind
    && (leb h.kind last_rule
    && (eqb h.count (ids_of h.kind)
    && ((leb h.third k.thirds && (not (ltb 0 k.thirds) || ltb 0 h.third))
    && (all_below most_ids (clear_at h)
    && (not (eqb k.number numberless) || eqb h.bits 0)))))

-- the bytes are a well formed row
unfoldable pub row_test : List ℕ → Bool
row_test b = eqb (byte b 0) row_mark && held_test (kind_at (held_in b).kind) (held_in b)

-- the bytes are well formed rows
unfoldable pub rows_test : List ℕ → Bool
rows_test rows = eqb (length rows % row_bytes) 0 && all_below (length rows / row_bytes) (λ i. row_test (row_no rows i))
