-- A label, cut at its first point: a shape's label, and what stands behind it as the number of a part.
use Rattle.std.specs.Prelude.{◌≡◌, cond, [], ◌∷◌, ℕ, ◌<◌, eqb}
use Rattle.ground.specs.Words.{bytes}
use Rattle.record.specs.Entry.{Label}
use Rattle.names.specs.Labels.{same}

-- the byte of a point
abbrev pub dot : ℕ
dot = 46

-- a label up to its first point
abbrev pub stem : Label → Label
stem [] = []
stem (b ∷ l) = cond (eqb b dot) [] (b ∷ stem l)

-- what stands from its first point on
abbrev pub behind : Label → Label
behind [] = []
behind (b ∷ l) = cond (eqb b dot) (b ∷ l) (behind l)

-- a label without a point
abbrev pub Pointless : Label → Type 0
Pointless l = stem l ≡ l

-- how many numbers of parts there are but that of any other: nothing, and the four parts that a shape can have
abbrev pub known_parts : ℕ
known_parts = 5

-- the number of a part
abbrev pub part_no : Label → ℕ
part_no t =
    cond (same t []) 0 (cond (same t (bytes ".center")) 1 (cond (same t (bytes ".radius")) 2 (cond (same t (bytes ".a")) 3 (cond (same t (bytes ".b")) 4 known_parts))))

-- a suffix that can stand behind a shape's label: nothing, or one of the four parts
pub record KnownPart (suffix : Label) : Type 0 where
  pub begins : stem suffix ≡ []
  pub one : part_no suffix < known_parts
