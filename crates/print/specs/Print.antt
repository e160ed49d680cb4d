-- The bytes that programs print of a number. Assumes nothing.
use Rattle.std.specs.Prelude.{cond, List, [], ◌∷◌, ◌++◌, ℕ, zero, suc, ◌+◌, ◌-◌, ◌*◌, ◌/◌, ◌%◌, ltb, get_or, replicate}
use Rattle.ground.specs.Words.{bytes}
use Rattle.print.specs.declared.Digits.{Digits}

-- the signs of the digits, by their value
abbrev pub signs : List ℕ
signs = bytes "0123456789abcdef"

-- the sign of a digit
abbrev pub sign_of : ℕ → ℕ
sign_of d = get_or signs d 0

-- the last k digits of n in a base, the most significant first
unfoldable pub last_digits : ℕ → ℕ → ℕ → List ℕ
last_digits base zero n = []
last_digits base (suc k) n = last_digits base k (n / base) ++ (sign_of (n % base) ∷ [])

-- zero bytes
abbrev pub zeros : ℕ → List ℕ
zeros k = replicate k 0

-- how many hex digits are printed: one for each four bits of 64
abbrev pub hex_bytes : ℕ
hex_bytes = 16

-- the sixteen hex digits of a number
unfoldable pub hex_of : ℕ → List ℕ
hex_of n = last_digits 16 hex_bytes n

-- the most decimal digits that a number of 64 bits has
abbrev pub most_digits : ℕ
most_digits = 20

-- how many decimal digits a number has, counted up to a limit: below ten one, else one more than its tenth part has
unfoldable pub width_up_to : ℕ → ℕ → ℕ
width_up_to zero n = 0
width_up_to (suc limit) n = cond (ltb n 10) 1 (suc (width_up_to limit (n / 10)))

-- how many decimal digits a number has
abbrev pub width : ℕ → ℕ
width n = width_up_to most_digits n

-- the decimal digits of a number
unfoldable pub decimal_of : ℕ → List ℕ
decimal_of n = last_digits 10 (width n) n

-- the decimal digits of a number in a field of twenty bytes, with zero bytes after them
unfoldable pub digits_of : ℕ → Digits
digits_of n = record { bytes = decimal_of n ++ zeros (most_digits - width n); len = width n }

-- the number that decimal digits write after the number m; the sign of 0 is 48
unfoldable pub number_after : ℕ → List ℕ → ℕ
number_after m [] = m
number_after m (c ∷ s) = number_after (m * 10 + (c - 48)) s

-- the number that decimal digits write
abbrev pub digits_number : List ℕ → ℕ
digits_number s = number_after 0 s
