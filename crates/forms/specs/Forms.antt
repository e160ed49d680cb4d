-- The forms of a page's lines (docs/FORMAT.md, "Instruction" and "Guess"; the parsers of parser.rs, in their order and under their names where they have one).
use Rattle.std.specs.Prelude.{Bool, true, false, cond, List, [], ◌∷◌, ℕ, eqb, ltb, length, get_or}
use Rattle.ground.specs.Words.{bytes}
use Rattle.text.specs.Text.{from, or_stand, no_label, ws_on, word_on, byte_on, label_on, suffixed_on, dotted_on}
use Rattle.text.specs.declared.Stand.{Stand}
use Rattle.text.specs.declared.Stand.TheVariants.{Nothing}
use Rattle.text.specs.declared.ReadLabel.{ReadLabel}
use Rattle.number.specs.Number.{number_on, expr_on}
use Rattle.number.specs.declared.Number.{Number}
use Rattle.kinds.specs.Kinds.{new_point, new_circle, new_arc, fix_component, fix_center, pair_guess, number_guess, kind_at, word_of, numberless, number, expression}
use Rattle.record.specs.Record.{one_label}
use Rattle.record.specs.Decode.{no_record}
use Rattle.record.specs.declared.View.{View}
use Rattle.record.specs.declared.Record.{Record}
use Rattle.forms.specs.declared.Line.{Line}
use Rattle.forms.specs.declared.pieces.Side.{Side}
use Rattle.forms.specs.declared.pieces.Pair.{Pair}
use Rattle.forms.specs.declared.pieces.Amount.{Amount}

-- ---- a line that was read

-- records that were read, and where reading stands behind them
pub record Lines : Type 0 where
  pub records : List Record
  pub then : Stand

-- no line: where reading stands instead
abbrev pub no_line : Stand → Lines
no_line stand = record { records = []; then = stand }

-- the records of a line, where its end was read
abbrev pub line_then : List Record → Stand → Lines
line_then rs stand = record { records = from stand [] (λ next. rs); then = stand }

-- the first, or the second where the first reads nothing
abbrev pub or_line : Lines → Lines → Lines
or_line first second = or_stand first.then first second

-- the part of the text that a label takes
abbrev pub view_from : ReadLabel → View
view_from l = record { start = l.start; len = l.len }

-- a record with one label
abbrev pub one_labelled : ℕ → ℕ → ReadLabel → ℕ → ℕ → Record
one_labelled kind third l x y = one_label kind third (view_from l) x y

-- ---- pieces

-- spaces, a byte, spaces
unfoldable pub around_on : List ℕ → Stand → ℕ → Stand
around_on s stand b = ws_on s (byte_on s (ws_on s stand) b)

-- `commasep`: a comma, with spaces around it
abbrev pub commasep_on : List ℕ → Stand → Stand
commasep_on s stand = around_on s stand 44

-- `=`, with spaces around it
abbrev pub equals_on : List ℕ → Stand → Stand
equals_on s stand = around_on s stand 61

-- one of two words: the third byte 1 for the first, 2 for the second
unfoldable pub either_on : List ℕ → Stand → List ℕ → List ℕ → Side
either_on s stand a b =
    or_stand (word_on s stand a) (record { third = 1; then = word_on s stand a }) (record { third = 2; then = word_on s stand b })

-- `parse_component`: x or y
abbrev pub component_on : List ℕ → Stand → Side
component_on s stand = either_on s stand (bytes "x") (bytes "y")

-- `parse_point`: `(`, spaces, a number, a comma, spaces, a number, `)`
unfoldable pub pair_on : List ℕ → Stand → Pair
pair_on s stand =
    let a = number_on s (ws_on s (byte_on s stand 40)) in
    let b = number_on s (ws_on s (byte_on s a.then 44)) in
    record { x = a.bits; y = b.bits; then = byte_on s b.then 41 }

-- ---- the forms that are no keyword's

-- `point L`, `circle L`, `arc L`; the space may be missing
unfoldable pub declare_on : List ℕ → Stand → ℕ → Lines
declare_on s stand kind =
    let l = label_on s (ws_on s (word_on s stand (word_of kind))) in
    line_then (one_labelled kind 0 l 0 0 ∷ []) l.then

-- what follows the label in `L.x = N` and in `L.center.x = N`
unfoldable pub fixed_on : List ℕ → ReadLabel → ℕ → List ℕ → Lines
fixed_on s l kind between =
    let c = component_on s (word_on s l.then between) in
    let n = number_on s (equals_on s c.then) in
    line_then (one_labelled kind c.third l n.bits 0 ∷ []) n.then

-- `L = (N,N)` or `L.L = (N,N)`: two records, x then y
unfoldable pub assign_on : List ℕ → ReadLabel → Lines
assign_on s first =
    let l = suffixed_on s first in
    let p = pair_on s (equals_on s l.then) in
    line_then (one_labelled fix_component 1 l p.x 0 ∷ one_labelled fix_component 2 l p.y 0 ∷ []) p.then

-- ---- the keyword forms, by their rows in the table

-- one more label behind a comma, where there is one
unfoldable pub more_on : List ℕ → Stand → Bool → ReadLabel
more_on s stand true = label_on s (commasep_on s stand)
more_on s stand false = no_label stand

-- `parse_angle`: a number, then `deg` or `rad`
unfoldable pub angle_on : List ℕ → Stand → Amount
angle_on s stand =
    let n = number_on s stand in
    let u = either_on s n.then (bytes "deg") (bytes "rad") in
    record { bits = n.bits; third = u.third; then = u.then }

-- a number that stands alone in its place
abbrev pub plain_amount : Number → Amount
plain_amount n = record { bits = n.bits; third = 0; then = n.then }

-- the number behind a comma, of the row's sort
unfoldable pub amount_on : List ℕ → Stand → ℕ → Amount
amount_on s stand sort =
    let behind = commasep_on s stand in
    cond (eqb sort numberless) (record { bits = 0; third = 0; then = stand })
    (cond (eqb sort number) (plain_amount (number_on s behind))
    (cond (eqb sort expression) (plain_amount (expr_on s behind))
    (angle_on s behind)))

-- the spaces before the closing bracket, where the row allows them
unfoldable pub gap_on : List ℕ → Stand → Bool → Stand
gap_on s stand true = ws_on s stand
gap_on s stand false = stand

-- a row's form: its word, spaces, `(`, spaces, its labels with commas between them, its number, `)`
unfoldable pub keyword_on : List ℕ → Stand → ℕ → Lines
keyword_on s stand kind =
    let k = kind_at kind in
    let a = label_on s (ws_on s (byte_on s (ws_on s (word_on s stand (word_of kind))) 40)) in
    let b = more_on s a.then (ltb 1 k.labels) in
    let c = more_on s b.then (ltb 2 k.labels) in
    let d = more_on s c.then (ltb 3 k.labels) in
    let n = amount_on s d.then k.number in
    let views = view_from a ∷ view_from b ∷ view_from c ∷ view_from d ∷ [] in
    line_then (record { kind = kind; third = n.third; count = k.labels; labels = views; x = n.bits; y = 0 } ∷ [])
    (byte_on s (gap_on s n.then k.gap) 41)

-- the keyword forms in the order of parser.rs
abbrev pub keyword_kinds : List ℕ
keyword_kinds = 6 ∷ 11 ∷ 12 ∷ 13 ∷ 14 ∷ 5 ∷ 7 ∷ 8 ∷ 9 ∷ 10 ∷ 15 ∷ 16 ∷ 17 ∷ 23 ∷ 20 ∷ 21 ∷ 22 ∷ 19 ∷ []

-- the first of these kinds whose form reads
unfoldable pub first_of : List ℕ → Stand → List ℕ → Lines
first_of s stand [] = no_line Nothing
first_of s stand (k ∷ ks) = or_line (keyword_on s stand k) (first_of s stand ks)

-- ---- lines

-- the forms that begin with a label, then those that begin with a keyword
unfoldable pub label_forms_on : List ℕ → Stand → Lines
label_forms_on s stand =
    let l = label_on s stand in
    or_line (fixed_on s l fix_component (bytes "."))
    (or_line (fixed_on s l fix_center (bytes ".center."))
    (or_line (assign_on s l)
    (first_of s stand keyword_kinds)))

-- `parse_instruction`: spaces, then the first of these that reads
unfoldable pub instruction_on : List ℕ → Stand → Lines
instruction_on s stand =
    let at = ws_on s stand in
    or_line (declare_on s at new_point)
    (or_line (declare_on s at new_circle)
    (or_line (declare_on s at new_arc)
    (label_forms_on s at)))

-- behind a guess's label: a point pair, else a number
unfoldable pub guessed_on : List ℕ → ReadLabel → Stand → Lines
guessed_on s l stand =
    let p = pair_on s stand in
    let n = number_on s stand in
    or_stand p.then (line_then (one_labelled pair_guess 0 l p.x p.y ∷ []) p.then) (line_then (one_labelled number_guess 0 l n.bits 0 ∷ []) n.then)

-- `parse_guess`: spaces, L or L.L, spaces, `roughly`, spaces, and its numbers
unfoldable pub guess_on : List ℕ → Stand → Lines
guess_on s stand =
    let l = dotted_on s (ws_on s stand) in
    guessed_on s l (ws_on s (word_on s (ws_on s l.then) (bytes "roughly")))

-- an instruction or a guess
abbrev pub line_on : Bool → List ℕ → Stand → Lines
line_on false s stand = instruction_on s stand
line_on true s stand = guess_on s stand

-- a line as it is handed out: how many records it has, the first and the second, each no record where there is none, and where reading stands
abbrev pub handed_out : Lines → Line
handed_out l = record { count = length l.records; first = get_or l.records 0 no_record; second = get_or l.records 1 no_record; then = l.then }
