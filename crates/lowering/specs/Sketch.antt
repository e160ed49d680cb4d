-- A drawing without its labels: of each record its kind, its third byte, its numbers, and for each label the number that names it. What a drawing
-- is lowered to is worked out from these lines alone.
use Rattle.std.specs.Prelude.{◌≡◌, Bool, ◌||◌, cond, List, [], ◌∷◌, ◌++◌, map, ℕ, zero, suc, ◌+◌, ◌*◌, eqb, length, get_or, Float}
use Rattle.std.specs.Float.{binary64}
use Rattle.std.specs.Float.Ieee.{of_bits}
use Rattle.ground.specs.Lists.{flat, up_to}
use Rattle.layout.specs.declared.Layout.{Layout}
use Rattle.layout.specs.declared.Stage.TheVariants.{Done}
use Rattle.layout.specs.declared.Point.{Point}
use Rattle.layout.specs.declared.Circle.{Circle}
use Rattle.layout.specs.declared.Arc.{Arc}
use Rattle.layout.specs.Slots.{Figure, point, circle, arc, slot_count}
use Rattle.layout.specs.Push.{onward}
use Rattle.layout.specs.Run.{all_components}
use Rattle.kinds.specs.Kinds.{new_point, new_circle, new_arc, first_rule, last_rule, assigned, a_round}
use Rattle.record.specs.Entry.{Entry}
use Rattle.row.specs.Row.{Row}
use Rattle.names.specs.Labels.{within, lowest_or}
use Rattle.names.specs.Cut.{known_parts}
use Rattle.names.specs.Names.{name_for, record_by, kind_by, guesses_at}
use Rattle.drawing.specs.Needs.{code_at}
use Rattle.drawing.specs.Check.{count_below}
use Rattle.lowering.specs.declared.spans.Span.{Span}
use Rattle.lowering.specs.Slots.{y_axis, slots, layout_of, values_of}
use Rattle.lowering.specs.Rows.{rows_of}

-- ---- lines

-- one record, with names in the place of labels
pub record Line : Type 0 where
  pub kind : ℕ
  pub third : ℕ
  pub names : List ℕ
  pub x : ℕ
  pub y : ℕ

-- the line of an entry
abbrev pub line_for : List Entry → Entry → Line
line_for es e = record { kind = e.kind; third = e.third; names = map (name_for es) e.labels; x = e.x; y = e.y }

-- the lines of a drawing
unfoldable pub sketch : List Entry → List Line
sketch es = map (line_for es) es

-- what stands past the last line
abbrev pub blank_line : Line
blank_line = record { kind = 0; third = 0; names = []; x = 0; y = 0 }

-- line i, counted from 0
abbrev pub line_at : List Line → ℕ → Line
line_at sk i = get_or sk i blank_line

-- its kind
abbrev pub kind_in : List Line → ℕ → ℕ
kind_in sk i = (line_at sk i).kind

-- ---- slots

-- x for a point, y for a circle, and z for an arc
abbrev pub by_kind : {A : Type 0} → ℕ → A → A → A → A
by_kind kind x y z = cond (eqb kind new_point) x (cond (eqb kind new_circle) y z)

-- how many slots a shape of a kind has
abbrev pub size_by : ℕ → ℕ
size_by kind = by_kind kind 2 3 6

-- how many of the first n lines are of a kind
abbrev pub many_of : (ℕ → ℕ) → ℕ → ℕ → ℕ
many_of kinds kind n = count_below kinds kind kind n

-- the layout of n lines
abbrev pub layout_in : (ℕ → ℕ) → ℕ → Layout
layout_in kinds n = record { points = many_of kinds new_point n; circles = many_of kinds new_circle n; arcs = many_of kinds new_arc n; stage = Done }

-- where the slots of a kind begin, with P points and C circles: circles from 2P on, arcs from 2P + 3C on
abbrev pub start_by : ℕ → ℕ → ℕ → ℕ
start_by P C kind = by_kind kind 0 (P * 2) (P * 2 + C * 3)

-- the first slot of the shape that line d of n declares, and 0 where it declares none
unfoldable pub first_in : (ℕ → ℕ) → ℕ → ℕ → ℕ
first_in kinds n d = cond (within new_point new_arc (kinds d)) (start_by (many_of kinds new_point n) (many_of kinds new_circle n) (kinds d) + many_of kinds (kinds d) d * size_by (kinds d)) 0

-- the layout of all lines
abbrev pub sketch_layout : List Line → Layout
sketch_layout sk = layout_in (kind_in sk) (length sk)

-- how many slots they have
abbrev pub sketch_slots : List Line → ℕ
sketch_slots sk = slot_count (sketch_layout sk)

-- the first slot of the shape that line d declares
abbrev pub first_by : List Line → ℕ → ℕ
first_by sk = first_in (kind_in sk) (length sk)

-- ---- rows

-- where the center of a shape of a kind stands among its slots, and x or y in a pair
abbrev pub center_by : ℕ → ℕ
center_by kind = cond (eqb kind new_arc) 4 0

abbrev pub axis_at : ℕ → ℕ
axis_at third = cond (eqb third y_axis) 1 0

-- a place with this code is for one slot
abbrev pub one_slot : ℕ → Bool
one_slot code = eqb code assigned || eqb code a_round

-- the slots that a name stands for, by the code of its place and the third byte of its rule: x or y of a point or a center, or all of a shape
unfoldable pub span_by : ℕ → ℕ → ℕ → Span
span_by code third name =
    cond (one_slot code)
    (record { shape = record_by name; first = center_by (kind_by name) + axis_at third; count = 1 })
    (record { shape = record_by name; first = 0; count = size_by (kind_by name) })

-- what name q of a rule stands for
abbrev pub span_at : ℕ → ℕ → List ℕ → ℕ → Span
span_at kind third names q = span_by (code_at kind q) third (get_or names q 0)

-- its ids, by the first slot of each shape, where the first slot of all has the id next
abbrev pub span_ids : (ℕ → ℕ) → ℕ → Span → List ℕ
span_ids first next s = onward (next + (first s.shape + s.first)) s.count

-- the ids that a rule names
unfoldable pub ids_by : (ℕ → ℕ) → ℕ → ℕ → ℕ → List ℕ → List ℕ
ids_by first next kind third names = flat (λ q. span_ids first next (span_at kind third names q)) (up_to (length names) (λ q. q))

-- the row of a rule
abbrev pub row_by : (ℕ → ℕ) → ℕ → Line → Row
row_by first next l = record { kind = l.kind; third = l.third; ids = ids_by first next l.kind l.third l.names; bits = l.x }

-- it, if the line is a rule
unfoldable pub row_if : (ℕ → ℕ) → ℕ → Line → List Row
row_if first next l = cond (within first_rule last_rule l.kind) (row_by first next l ∷ []) []

-- the rows of all lines
unfoldable pub rows_by : ℕ → List Line → List Row
rows_by next sk = flat (row_if (first_by sk) next) sk

-- ---- starting values

-- line i guesses the part whose place is k
unfoldable pub guesses_by : List Line → ℕ → ℕ → Bool
guesses_by sk k i = guesses_at (kind_in sk i) (get_or (line_at sk i).names 0 0) k

-- the numbers of the lowest line that guesses a part of the shape that line d declares
abbrev pub numbers_by : List Line → ℕ → ℕ → ℕ × ℕ
numbers_by sk d part = let g = line_at sk (lowest_or (length sk) (guesses_by sk (d * known_parts + part))) in (g.x, g.y)

-- what a part, a circle and an arc start at, by the numbers of each part: 0 the whole, 1 the center, 2 the radius, 3 and 4 an arc's a and b
abbrev pub pair_of : (ℕ → ℕ × ℕ) → ℕ → Point
pair_of numbers part = record { x = of_bits binary64 (numbers part).0; y = of_bits binary64 (numbers part).1 }

abbrev pub circle_of : (ℕ → ℕ × ℕ) → Circle
circle_of numbers = record { center = pair_of numbers 1; radius = of_bits binary64 (numbers 2).0 }

abbrev pub arc_of : (ℕ → ℕ × ℕ) → Arc
arc_of numbers = record { a = pair_of numbers 3; b = pair_of numbers 4; center = pair_of numbers 1 }

-- a shape of a kind, as it starts
abbrev pub figure_of : (ℕ → ℕ × ℕ) → ℕ → Figure
figure_of numbers kind = by_kind kind (point (pair_of numbers 0)) (circle (circle_of numbers)) (arc (arc_of numbers))

-- those of the first n lines that are of a kind
unfoldable pub of_kind : (ℕ → ℕ) → ℕ → ℕ → List ℕ
of_kind kinds kind zero = []
of_kind kinds kind (suc n) = of_kind kinds kind n ++ cond (eqb (kinds n) kind) (n ∷ []) []

-- the shapes of a kind, as they start
abbrev pub figures_in : (ℕ → ℕ) → (ℕ → ℕ → ℕ × ℕ) → ℕ → ℕ → List Figure
figures_in kinds numbers n kind = map (λ d. figure_of (numbers d) kind) (of_kind kinds kind n)

-- the starting values of n lines: points, then circles, then arcs
abbrev pub values_in : (ℕ → ℕ) → (ℕ → ℕ → ℕ × ℕ) → ℕ → List Float
values_in kinds numbers n = all_components (figures_in kinds numbers n new_point ++ (figures_in kinds numbers n new_circle ++ figures_in kinds numbers n new_arc))

-- those of all lines
abbrev pub values_by : List Line → List Float
values_by sk = values_in (kind_in sk) (numbers_by sk) (length sk)

-- ---- the claim

-- what a drawing is lowered to depends on its labels through their names alone
pub record Sketched (es : List Entry) : Type 0 where
  pub rows : (next : ℕ) → rows_of es next ≡ rows_by next (sketch es)
  pub values : values_of es ≡ values_by (sketch es)
  pub layout : layout_of es ≡ sketch_layout (sketch es)
  pub slot_count : length (slots es) ≡ sketch_slots (sketch es)
