-- The header line of a batch's block: a word, a blank and a number of bytes.
use Rattle.std.specs.Prelude.{ℕ, ◌+◌, ◌-◌, ◌*◌, cond, ◌||◌, List, [], ◌∷◌, length, drop, nat_le, nat_lt, Option, None, Some}
use Rattle.ground.specs.Words.{bytes}
use Rattle.text.specs.Text.{starts}
use Rattle.batch.specs.declared.Header.{Header}
use Rattle.batch.specs.declared.Header.TheVariants.{Case, List as Whole, Check, Rows}

-- the most bytes of a text
abbrev pub most_bytes : ℕ
most_bytes = 65536

-- what stands for every larger number, and for no number
abbrev pub too_many : ℕ
too_many = 65537

-- where the digits begin: CHECK has five letters, the other words have four, and a blank follows
unfoldable pub digits_start : List ℕ → ℕ
digits_start s = cond (starts (bytes "CHECK ") s) 6 5

-- a number with one digit more: too many where the number was, or where the byte is no digit
unfoldable pub one_more : ℕ → ℕ → ℕ
one_more n b = cond (nat_lt most_bytes n || (nat_lt b 48 || nat_lt 57 b)) too_many (n * 10 + (b - 48))

-- a number with the digits of a list behind it
unfoldable pub size_after : ℕ → List ℕ → ℕ
size_after n [] = n
size_after n (b ∷ s) = size_after (one_more n b) s

-- the number that the digits of a line write, of which there is at least one
unfoldable pub size_written : List ℕ → ℕ
size_written s = cond (nat_le (length s) (digits_start s)) too_many (size_after 0 (drop (digits_start s) s))

-- a number that is no larger than the most, or none
abbrev pub sized : ℕ → Option ℕ
sized n = cond (nat_lt most_bytes n) None (Some n)

-- what a header line says, or none
unfoldable pub header_of : List ℕ → Option Header
header_of s =
    cond (nat_lt most_bytes (size_written s)) None
    (cond (starts (bytes "CASE ") s) (Some (Case (size_written s)))
    (cond (starts (bytes "LIST ") s) (Some (Whole (size_written s)))
    (cond (starts (bytes "CHECK ") s) (Some (Check (size_written s)))
    (cond (starts (bytes "ROWS ") s) (Some (Rows (size_written s))) None))))
