-- Numbers as bytes, the lowest first (docs/FORMAT.md, "Record" and "Row"): written, and read at a place of a list.
use Rattle.std.specs.Prelude.{List, [], ◌∷◌, ℕ, zero, suc, ◌+◌, ◌*◌, ◌/◌, ◌%◌, get_or}

-- ---- written

-- the n lowest bytes of a number
abbrev pub le : ℕ → ℕ → List ℕ
le zero x = []
le (suc n) x = x % 256 ∷ le n (x / 256)

-- a number as two, four and eight bytes
abbrev pub le16 : ℕ → List ℕ
le16 = le 2

abbrev pub le32 : ℕ → List ℕ
le32 = le 4

abbrev pub le64 : ℕ → List ℕ
le64 = le 8

-- ---- read

-- byte k, and 0 past the last
abbrev pub byte : List ℕ → ℕ → ℕ
byte b k = get_or b k 0

-- the number of the n bytes from k on
abbrev pub le_at : ℕ → List ℕ → ℕ → ℕ
le_at zero b k = 0
le_at (suc n) b k = byte b k + 256 * le_at n b (k + 1)

-- the number of the two, four and eight bytes from k on
abbrev pub u16 : List ℕ → ℕ → ℕ
u16 = le_at 2

abbrev pub u32 : List ℕ → ℕ → ℕ
u32 = le_at 4

abbrev pub u64 : List ℕ → ℕ → ℕ
u64 = le_at 8
