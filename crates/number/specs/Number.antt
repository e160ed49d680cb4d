-- A number and an expression at a place of a text (docs/FORMAT.md, "Number", "Not carried" and "Expression"). Assumes nothing.
use Rattle.std.specs.Prelude.{◌≡◌, Bool, true, false, cond, ◌||◌, ◌&&◌, Option, Some, None, List, [], ◌∷◌, ◌++◌, ℕ, zero, suc, ◌+◌, ◌-◌, ◌*◌, ◌^◌, min, leb, eqb, drop, get_or}
use Rattle.ground.specs.Words.{bytes}
use Rattle.text.specs.Text.{from, refused_at, in_range, leading, run_to, word_at, byte_on}
use Rattle.text.specs.declared.Stand.{Stand}
use Rattle.text.specs.declared.Stand.TheVariants.{At, Nothing}
use Rattle.decimal.specs.Decimal.{limit, carried}
use Rattle.decimal.specs.declared.Scale.{Scale}
use Rattle.decimal.specs.declared.Scale.TheVariants.{Times, Over}
use Rattle.root.specs.Function.{root_of}
use Rattle.number.specs.declared.Number.{Number}
use Rattle.number.specs.declared.Power.{Power}

-- ---- bytes

-- 0 to 9
abbrev pub is_digit : ℕ → Bool
is_digit = in_range 48 57

abbrev pub is_minus : ℕ → Bool
is_minus b = eqb b 45

-- + or -
abbrev pub is_sign : ℕ → Bool
is_sign b = eqb b 43 || is_minus b

abbrev pub is_point : ℕ → Bool
is_point b = eqb b 46

-- e or E
abbrev pub is_exponent : ℕ → Bool
is_exponent b = eqb b 101 || eqb b 69

-- i, I, n or N
abbrev pub is_word : ℕ → Bool
is_word b = eqb b 105 || eqb b 73 || eqb b 110 || eqb b 78

-- the place after a byte that passes a test, and the same place where none stands there
unfoldable pub step_over : (ℕ → Bool) → List ℕ → ℕ → ℕ
step_over test s at = cond (test (get_or s at 0)) (at + 1) at

-- ---- digits

-- the digits at a place, and the place after them
abbrev pub digits_at : List ℕ → ℕ → List ℕ
digits_at s at = leading is_digit (drop at s)

abbrev pub digits_to : List ℕ → ℕ → ℕ
digits_to = run_to is_digit

-- the number that digits write behind those of m
unfoldable pub numeral : ℕ → List ℕ → ℕ
numeral m [] = m
numeral m (d ∷ ds) = numeral (m * 10 + (d - 48)) ds

-- ---- the digits before and after the point, from a place on

-- the first place after the optional point
unfoldable pub part_at : List ℕ → ℕ → ℕ
part_at s first = step_over is_point s (digits_to s first)

-- the place after the digits behind it
unfoldable pub end_at : List ℕ → ℕ → ℕ
end_at s first = digits_to s (part_at s first)

-- the digits before and after the point, joined
unfoldable pub all_digits : List ℕ → ℕ → List ℕ
all_digits s first = digits_at s first ++ digits_at s (part_at s first)

-- no digit stands before the point, and none after it
unfoldable pub no_digit : List ℕ → ℕ → Bool
no_digit s first = eqb (digits_to s first) first && eqb (end_at s first) (part_at s first)

-- ---- the exponent

-- no `e` is the exponent 0; `e` and an optional sign without digits is missing its digits
unfoldable pub exponent_at : List ℕ → ℕ → Option Power
exponent_at s at =
    let first = step_over is_sign s (at + 1) in
    cond (is_exponent (get_or s at 0))
    (cond (leb (digits_to s first) first) None
    (Some (record { negative = is_minus (get_or s (at + 1) 0); size = numeral 0 (digits_at s first); next = digits_to s first })))
    (Some (record { negative = false; size = 0; next = at }))

-- k is the exponent, below zero or not, less the count of digits after the point
abbrev pub scale_of : Bool → ℕ → ℕ → Scale
scale_of true size count = Over (size + count)
scale_of false size count = cond (leb count size) (Times (size - count)) (Over (count - size))

abbrev pub carried_by : ℕ → Bool → Bool → ℕ → ℕ → Option ℕ
carried_by m negative below size count = carried m (scale_of below size count) negative

-- ---- the number

-- no number
abbrev pub no_number : Stand → Number
no_number stand = record { bits = 0; then = stand }

-- the bits of a carried number with the place after it, or 8 at its first byte
abbrev pub valued : ℕ → ℕ → Option ℕ → Number
valued at next (Some bits) = record { bits = bits; then = At next }
valued at next None = no_number (refused_at 8 at)

-- a number by its sign, its digits m, the count of those after the point, and its exponent
abbrev pub scaled : ℕ → Bool → ℕ → ℕ → Option Power → Number
scaled at negative m count (Some power) = valued at power.next (carried_by m negative power.negative power.size count)
scaled at negative m count None = no_number (refused_at 8 at)

-- a number at a place: an optional sign; digits with an optional point and digits; an optional exponent
unfoldable pub number_at : List ℕ → ℕ → Number
number_at s at =
    let first = step_over is_sign s at in
    cond (is_word (get_or s first 0)) (no_number (refused_at 8 at))
    (cond (no_digit s first) (no_number Nothing)
    (scaled at (is_minus (get_or s at 0)) (numeral 0 (all_digits s first)) (end_at s first - part_at s first) (exponent_at s (end_at s first))))

-- a number where reading stands
unfoldable pub number_on : List ℕ → Stand → Number
number_on s stand = from stand (no_number stand) (number_at s)

-- ---- the expression

-- at most this many `sqrt(` stand inside one another
abbrev pub depth : ℕ
depth = 8

-- the root of what was read, where `)` stands behind it
unfoldable pub closed : List ℕ → Number → Number
closed s inner =
    let then = byte_on s inner.then 41 in
    from then (no_number then) (λ next. record { bits = root_of inner.bits; then = At next })

-- a number, or `sqrt(`, an expression, `)`; where no more roots may open, 9 at the next one's first byte
unfoldable pub expr_at : ℕ → List ℕ → ℕ → Number
expr_at zero s at = from (word_at s (bytes "sqrt(") at) (number_at s at) (λ inside. no_number (refused_at 9 at))
expr_at (suc left) s at = from (word_at s (bytes "sqrt(") at) (number_at s at) (λ inside. closed s (expr_at left s inside))

-- an expression where reading stands
unfoldable pub expr_on : List ℕ → Stand → Number
expr_on s stand = from stand (no_number stand) (expr_at depth s)

-- ---- what the code sums up: sizes up to a limit, from which on they are told apart no more

abbrev pub capped : ℕ → ℕ → ℕ
capped most n = min n most

-- no count of digits in a text plus 22 reaches this
abbrev pub exponent_cap : ℕ
exponent_cap = 2 ^ 63 + 22

abbrev pub capped_exponent : Option Power → Option Power
capped_exponent (Some power) = Some (record { negative = power.negative; size = capped exponent_cap power.size; next = power.next })
capped_exponent None = None

-- the digits at a place, behind those of start: the number that they write and the place after them
pub record Run (s : List ℕ) (at start most value next : ℕ) : Type 0 where
  pub value_is : value ≡ capped most (numeral start (digits_at s at))
  pub next_is : next ≡ digits_to s at

-- the digits before and after the point: the number that they write, how many stand after it, and where they end
pub record Joined (s : List ℕ) (first m count end : ℕ) : Type 0 where
  pub m_is : m ≡ capped limit (numeral 0 (all_digits s first))
  pub count_is : count ≡ end_at s first - part_at s first
  pub end_is : end ≡ end_at s first
