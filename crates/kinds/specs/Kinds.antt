-- THE table of the 25 kinds, which reader, check and lowering all read (docs/FORMAT.md, "Kinds", "Check" and "Instruction"). Its places are
-- the kinds' numbers; row 0 is no kind.
use Rattle.std.specs.Prelude.{Bool, true, false, ◌&&◌, cond, List, [], ◌∷◌, ◌++◌, map, ℕ, ◌-◌, ◌≤◌, ◌<◌, ltb, eqb, length, get_or, replicate}
use Prim.Native.String.{String}
use Rattle.ground.specs.Words.{bytes}

-- the label places of a record
abbrev pub label_places : ℕ
label_places = 4

-- one kind of record
pub record Kind : Type 0 where
  -- the word that its form begins with, empty where that is a label
  pub word : List ℕ
  -- how many labels it has, and what each label place needs
  pub labels : ℕ
  pub needs : List ℕ
  -- 2 where the third byte is 1 or 2, and 0 where it is 0
  pub thirds : ℕ
  -- the sort of number that it has
  pub number : ℕ
  -- whether spaces may stand before the closing bracket
  pub gap : Bool
  -- whether its label may have a point and a second part
  pub dotted : Bool

-- ---- the kinds that are told apart

-- the declarations
abbrev pub new_point : ℕ
new_point = 1

abbrev pub new_circle : ℕ
new_circle = 2

abbrev pub new_arc : ℕ
new_arc = 3

-- the first and the last rule
abbrev pub first_rule : ℕ
first_rule = 4

abbrev pub last_rule : ℕ
last_rule = 23

-- a component that is fixed, and one of a center
abbrev pub fix_component : ℕ
fix_component = 4

abbrev pub fix_center : ℕ
fix_center = 18

-- a guess of a pair, and of a number
abbrev pub pair_guess : ℕ
pair_guess = 24

abbrev pub number_guess : ℕ
number_guess = 25

-- a kind is a declaration's, a rule's, a guess's
abbrev pub Declaration : ℕ → Type 0
Declaration kind = (new_point ≤ kind) × (kind ≤ new_arc)

abbrev pub Rule : ℕ → Type 0
Rule kind = (first_rule ≤ kind) × (kind ≤ last_rule)

abbrev pub Guess : ℕ → Type 0
Guess kind = (pair_guess ≤ kind) × (kind ≤ number_guess)

-- ---- what a label's place needs, by its code

abbrev pub new : ℕ
new = 0

abbrev pub a_point : ℕ
a_point = 1

abbrev pub a_circle : ℕ
a_circle = 2

abbrev pub an_arc : ℕ
an_arc = 3

-- a circle or an arc
abbrev pub a_round : ℕ
a_round = 4

-- a point, or the center of a circle or an arc
abbrev pub assigned : ℕ
assigned = 5

-- a part that is guessed as a pair, and one that is guessed as a number
abbrev pub pair_part : ℕ
pair_part = 6

abbrev pub number_part : ℕ
number_part = 7

-- ---- the sorts of number

abbrev pub numberless : ℕ
numberless = 0

abbrev pub number : ℕ
number = 1

abbrev pub expression : ℕ
expression = 2

abbrev pub angle : ℕ
angle = 3

abbrev pub pair : ℕ
pair = 4

-- ---- the kinds

-- a kind by its word, its labels' needs, its third bytes, its number, whether a space may stand before the bracket, and whether its label may have a point
abbrev pub kind : String → List ℕ → ℕ → ℕ → Bool → Bool → Kind
kind w needs thirds number gap dotted =
    record {
      word = bytes w;
      labels = length needs;
      needs = needs ++ replicate (label_places - length needs) 0;
      thirds = thirds;
      number = number;
      gap = gap;
      dotted = dotted;
    }

-- a rule over labels alone: `two_points` and its like allow a space before the bracket
abbrev pub rule : String → List ℕ → Bool → Kind
rule w needs gap = kind w needs 0 numberless gap false

abbrev pub two : ℕ → List ℕ
two n = n ∷ n ∷ []

abbrev pub three : ℕ → List ℕ
three n = n ∷ n ∷ n ∷ []

abbrev pub four : ℕ → List ℕ
four n = n ∷ n ∷ n ∷ n ∷ []

abbrev pub one : ℕ → List ℕ
one n = n ∷ []

-- the third byte is 1 or 2: x or y, deg or rad
abbrev pub either : ℕ
either = 2

abbrev pub no_kind : Kind
no_kind = kind "" [] 0 numberless false false

abbrev pub kinds : List Kind
kinds =
    -- 0 no kind
    no_kind
    -- 1 DeclarePoint
    ∷ rule "point" (one new) false
    -- 2 DeclareCircle
    ∷ rule "circle" (one new) false
    -- 3 DeclareArc
    ∷ rule "arc" (one new) false
    -- 4 FixPointComponent
    ∷ kind "" (one assigned) either number false true
    -- 5 Vertical
    ∷ rule "vertical" (two a_point) true
    -- 6 Horizontal
    ∷ rule "horizontal" (two a_point) true
    -- 7 Distance
    ∷ kind "distance" (two a_point) 0 expression false false
    -- 8 Parallel
    ∷ rule "parallel" (four a_point) true
    -- 9 Perpendicular
    ∷ rule "perpendicular" (four a_point) true
    -- 10 AngleLine
    ∷ kind "lines_at_angle" (four a_point) either angle false false
    -- 11 PointsCoincident
    ∷ rule "coincident" (two a_point) true
    -- 12 PointArcCoincident
    ∷ rule "point_arc_coincident" (a_point ∷ an_arc ∷ []) true
    -- 13 Midpoint
    ∷ rule "midpoint" (three a_point) true
    -- 14 Symmetric
    ∷ rule "symmetric" (four a_point) true
    -- 15 CircleRadius
    ∷ kind "radius" (one a_circle) 0 expression false false
    -- 16 Tangent
    ∷ rule "tangent" (a_point ∷ a_point ∷ a_circle ∷ []) false
    -- 17 ArcRadius
    ∷ kind "arc_radius" (one an_arc) 0 number false false
    -- 18 FixCenterPointComponent
    ∷ kind "" (one a_round) either number false false
    -- 19 LinesEqualLength
    ∷ rule "lines_equal_length" (four a_point) true
    -- 20 IsArc
    ∷ rule "is_arc" (one an_arc) false
    -- 21 PointLineDistance
    ∷ kind "point_line_distance" (three a_point) 0 number true false
    -- 22 Line
    ∷ rule "line" (two a_point) false
    -- 23 ArcLength
    ∷ kind "arc_length" (one an_arc) 0 number false false
    -- 24 point guess
    ∷ kind "" (one pair_part) 0 pair false true
    -- 25 scalar guess
    ∷ kind "" (one number_part) 0 number false true
    ∷ []

-- a kind by its number; there is none past the last
abbrev pub kind_at : ℕ → Kind
kind_at k = get_or kinds k no_kind

-- a kind of the table
abbrev pub Known : ℕ → Type 0
Known kind = (0 < kind) × (kind < length kinds)

-- ---- the kinds as a table of numbers

-- how many rows and columns there are
abbrev pub rows : ℕ
rows = 26

abbrev pub columns : ℕ
columns = 8

-- the columns by their names; the needs take four
abbrev pub labels_column : ℕ
labels_column = 0

abbrev pub needs_column : ℕ
needs_column = 1

abbrev pub thirds_column : ℕ
thirds_column = 5

abbrev pub sort_column : ℕ
sort_column = 6

abbrev pub spelling_column : ℕ
spelling_column = 7

-- the spellings
abbrev pub plain : ℕ
plain = 0

abbrev pub with_gap : ℕ
with_gap = 1

abbrev pub with_point : ℕ
with_point = 2

-- how a kind's form is spelled: no form has both
abbrev pub spelling_of : Kind → ℕ
spelling_of k = cond k.gap with_gap (cond k.dotted with_point plain)

-- the row of a kind
abbrev pub cells_of : Kind → List ℕ
cells_of k = k.labels ∷ (k.needs ++ (k.thirds ∷ k.number ∷ spelling_of k ∷ []))

-- a row for each kind
abbrev pub table : List (List ℕ)
table = map cells_of kinds

-- a cell of a table of that many rows and columns, and 0 past its end
unfoldable pub cell : List (List ℕ) → ℕ → ℕ → ℕ
cell t kind column = cond (ltb kind rows && ltb column columns) (get_or (get_or t kind []) column 0) 0

-- ---- the words

-- the word of a kind's form
abbrev pub word_of : ℕ → List ℕ
word_of k = (kind_at k).word

-- a word padded with blanks to twenty bytes
abbrev pub padded : List ℕ → List ℕ
padded w = w ++ replicate (20 - length w) 32

-- a word, with its padding, begins with two bytes
abbrev pub begins : List ℕ → ℕ → ℕ → Bool
begins w a b = eqb (get_or (padded w) 0 0) a && eqb (get_or (padded w) 1 0) b
