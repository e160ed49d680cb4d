-- A row has 44 bytes and comes back whole from them: each id from four bytes, and the number from eight; and so does each of a list. Assumes nothing.
use mathlib.Core.Path.{◌≡◌, refl, sym, ap, ◌∙◌}
use mathlib.Core.List.{List, [], append-nil}
use Prim.Native.Nat.{ℕ, ◌*◌, ◌/◌, ◌^◌, ◌<◌}
use native.Mathlib.Omega.{arith}
use lib.ListN.{length, get_or}
use borrow.Author.Tests.{le-ltb}
use Rattle.ground.specs.Lists.{up_to}
use Rattle.ground.proofs.Pieces.{Each, each_of, length_flat, piece_at}
use Rattle.little.proofs.Little.{number_le}
use Rattle.ground.proofs.UpTo.{get_or_up_to, up_to_list}
use Rattle.row.specs.Row.{Row, row_bytes, most_ids, eight, held, bytes_of, encode_row, encode_rows, row_no, id_at, held_in, meant, decode_row, RowFits}

pub length_row : (r : Row) → length (encode_row r) ≡ row_bytes
unfolding encode_row bytes_of
length_row r = refl

module _ (r : Row) where
  -- id q of eight
  eight_at : (q : ℕ) → q < most_ids → get_or (eight r.ids) q 0 ≡ get_or r.ids q 0
  eight_at q b = get_or_up_to most_ids (λ q. get_or r.ids q 0) q 0 b

  module _ (fits : (q : ℕ) → get_or r.ids q 0 < 2 ^ 32) where
    ids_back : up_to most_ids (id_at (encode_row r)) ≡ eight r.ids
    unfolding encode_row bytes_of
    ids_back = λ i. up_to most_ids (λ q. number_le 4 (get_or r.ids q 0) (fits q) i)

    -- id q, and 0 past the last
    pub id_read : (q : ℕ) → q < most_ids → id_at (encode_row r) q ≡ get_or r.ids q 0
    id_read q b = sym (get_or_up_to most_ids (id_at (encode_row r)) q 0 b) ∙ ap (λ (l : List ℕ). get_or l q 0) ids_back ∙ eight_at q b

  module _ (fits : RowFits r) where
    pub fields_back : held_in (encode_row r) ≡ held r
    unfolding held_in encode_row bytes_of
    fields_back =
        λ i. record { kind = r.kind; third = r.third; count = length r.ids; ids = ids_back fits.ids_fit i; bits = number_le 8 r.bits fits.bits_fit i }

    pub decode_encode_row : decode_row (encode_row r) ≡ r
    unfolding meant
    decode_encode_row =
        ap meant fields_back
        ∙ rw (le-ltb most_ids (length r.ids) fits.few)
        (ap (λ (l : List ℕ). record { kind = r.kind; third = r.third; ids = l; bits = r.bits })
        (up_to_list (length r.ids) r.ids 0 (λ q. get_or (eight r.ids) q 0) refl (λ q b. eight_at q (omega (arith, b, fits.few)))))

-- ---- rows one after another

-- what stands past the last row
abbrev pub no_row : Row
no_row = record { kind = 0; third = 0; ids = []; bits = 0 }

module _ (rs : List Row) where
  sizes : Each (λ (r : Row). length (encode_row r) ≡ row_bytes) rs
  sizes = each_of (λ (r : Row). length (encode_row r) ≡ row_bytes) rs no_row (λ k h. length_row (get_or rs k no_row))

  pub rows_length : length (encode_rows rs) ≡ length rs * row_bytes
  rows_length = length_flat encode_row row_bytes rs sizes

  pub rows_count : length (encode_rows rs) / row_bytes ≡ length rs
  rows_count = omega (arith, rows_length)

  pub row_no_lem : (k : ℕ) → k < length rs → row_no (encode_rows rs) k ≡ encode_row (get_or rs k no_row)
  row_no_lem k h = rw append-nil at (piece_at encode_row row_bytes rs [] no_row sizes k h)
