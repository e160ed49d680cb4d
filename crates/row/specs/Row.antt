-- The row of 44 bytes that a rule is lowered to (docs/FORMAT.md, "Lowering"), as bytes and back from them.
use Rattle.std.specs.Prelude.{cond, List, ◌∷◌, ◌++◌, ℕ, ◌+◌, ◌*◌, ◌/◌, ◌^◌, ◌≤◌, ◌<◌, ltb, length, get_or, take, drop, replicate}
use Rattle.ground.specs.Lists.{flat, up_to}
use Rattle.little.specs.Little.{le32, le64, byte, u32, u64}
use Rattle.row.specs.declared.Row.{Row as Held}

-- a rule with ids in the place of labels
pub record Row : Type 0 where
  pub kind : ℕ
  pub third : ℕ
  pub ids : List ℕ
  pub bits : ℕ

-- ---- lengths and marks

-- a row's length in bytes
abbrev pub row_bytes : ℕ
row_bytes = 44

-- the first byte of its mark; the second is the kind
abbrev pub row_mark : ℕ
row_mark = 82

-- the most ids of a row
abbrev pub most_ids : ℕ
most_ids = 8

-- ---- rows as bytes

-- eight ids, 0 where there is none
abbrev pub eight : List ℕ → List ℕ
eight ids = up_to most_ids (λ q. get_or ids q 0)

-- the fields of a row: how many ids it has, and eight of them
abbrev pub held : Row → Held
held r = record { kind = r.kind; third = r.third; count = length r.ids; ids = eight r.ids; bits = r.bits }

-- the bytes of such fields: the mark, the count of ids, the third byte, the eight ids, the bits of the number
unfoldable pub bytes_of : Held → List ℕ
bytes_of h = row_mark ∷ h.kind ∷ h.count ∷ h.third ∷ (flat le32 (eight h.ids) ++ le64 h.bits)

-- the bytes of a row
unfoldable pub encode_row : Row → List ℕ
encode_row r = bytes_of (held r)

-- rows one after another
abbrev pub encode_rows : List Row → List ℕ
encode_rows = flat encode_row

-- ---- and back

-- the bytes of row number k
abbrev pub row_no : List ℕ → ℕ → List ℕ
row_no rows k = take row_bytes (drop (k * row_bytes) rows)

-- the same, and zeros past the last whole row
unfoldable pub row_of : List ℕ → ℕ → List ℕ
row_of rows k = cond (ltb k (length rows / row_bytes)) (row_no rows k) (replicate row_bytes 0)

-- id q of a row's bytes
abbrev pub id_at : List ℕ → ℕ → ℕ
id_at b q = u32 b (4 + q * 4)

-- the fields that a row's bytes have
unfoldable pub held_in : List ℕ → Held
held_in b = record { kind = byte b 1; third = byte b 3; count = byte b 2; ids = up_to most_ids (id_at b); bits = u64 b 36 }

-- how many ids fields have: what they say, but no more than eight
abbrev pub ids_in : Held → ℕ
ids_in h = cond (ltb most_ids h.count) most_ids h.count

-- the row of such fields
unfoldable pub meant : Held → Row
meant h = record { kind = h.kind; third = h.third; ids = up_to (ids_in h) (λ q. get_or h.ids q 0); bits = h.bits }

-- the row that bytes write
abbrev pub decode_row : List ℕ → Row
decode_row b = meant (held_in b)

-- each part of a row fits its bytes
pub record RowFits (r : Row) : Type 0 where
  pub few : length r.ids ≤ most_ids
  pub ids_fit : (q : ℕ) → get_or r.ids q 0 < 2 ^ 32
  pub bits_fit : r.bits < 2 ^ 64
