-- Shapes, their parts, and what a label's place needs (docs/FORMAT.md, "Check"): the code in the table of kinds, spelled out.
use Rattle.std.specs.Prelude.{cond, List, [], ◌∷◌, ◌++◌, ℕ, eqb, get_or}
use Rattle.ground.specs.Words.{bytes}
use Rattle.kinds.specs.Kinds.{kind_at, new_point, new_circle, new_arc, pair_guess, number_guess}
use Rattle.record.specs.Entry.{Label}

-- ---- shapes and their parts

pub data Shape : Type 0 where
  point circle arc : Shape

-- the kind that declares a shape
abbrev pub declaring : Shape → ℕ
declaring point = new_point
declaring circle = new_circle
declaring arc = new_arc

-- a part of a shape: what stands behind the shape's label, and the kind of the guess that is due
pub record Part : Type 0 where
  pub suffix : Label
  pub guess : ℕ

-- guesses due: `p`; `c.center`, `c.radius` (a number); `a.a`, `a.b`, `a.center`
abbrev pub parts : Shape → List Part
parts point = record { suffix = []; guess = pair_guess } ∷ []
parts circle = record { suffix = bytes ".center"; guess = pair_guess } ∷ record { suffix = bytes ".radius"; guess = number_guess } ∷ []
parts arc =
    record { suffix = bytes ".a"; guess = pair_guess }
    ∷ record { suffix = bytes ".b"; guess = pair_guess }
    ∷ record { suffix = bytes ".center"; guess = pair_guess }
    ∷ []

-- ---- what a label's place needs

-- the label of a declared shape with this behind it
pub record Choice : Type 0 where
  pub shape : Shape
  pub suffix : Label

-- one of these
abbrev pub Need : Type 0
Need = List Choice

-- the label of a shape as it stands
abbrev pub whole : Shape → Choice
whole s = record { shape = s; suffix = [] }

-- the center of a shape
abbrev pub center_of : Shape → Choice
center_of s = record { shape = s; suffix = bytes ".center" }

-- those parts of a shape that a kind of guess is due for
abbrev pub guessed_by : ℕ → Shape → List Part → Need
guessed_by kind s [] = []
guessed_by kind s (p ∷ ps) = cond (eqb p.guess kind) (record { shape = s; suffix = p.suffix } ∷ guessed_by kind s ps) (guessed_by kind s ps)

-- the parts that a kind of guess is due for
abbrev pub parts_by : ℕ → Need
parts_by kind = guessed_by kind point (parts point) ++ guessed_by kind circle (parts circle) ++ guessed_by kind arc (parts arc)

-- what each code of the table needs
abbrev pub needs : List Need
needs =
    -- a new label
    []
    -- a point, a circle, an arc
    ∷ (whole point ∷ [])
    ∷ (whole circle ∷ [])
    ∷ (whole arc ∷ [])
    -- a circle or an arc
    ∷ (whole circle ∷ whole arc ∷ [])
    -- a point, or the center of a circle or an arc
    ∷ (whole point ∷ center_of circle ∷ center_of arc ∷ [])
    -- a part that is guessed as a pair, or as a number
    ∷ parts_by pair_guess
    ∷ parts_by number_guess
    ∷ []

-- the need of a code
abbrev pub need_of : ℕ → Need
need_of code = get_or needs code []

-- the code of label place q of a kind
abbrev pub code_at : ℕ → ℕ → ℕ
code_at kind q = get_or (kind_at kind).needs q 0

-- what label place q of a kind needs
abbrev pub need_at : ℕ → ℕ → Need
need_at kind q = need_of (code_at kind q)
