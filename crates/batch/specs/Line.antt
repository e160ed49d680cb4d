-- Lines that a program is asked by: where one ends, and the numbers among its words.
use Rattle.std.specs.Prelude.{◌≡◌, ℕ, ◌+◌, ◌-◌, ◌*◌, ◌%◌, ◌^◌, ◌≤◌, Bool, cond, not, ◌||◌, List, [], ◌∷◌, length, ◌==◌, nat_lt}
use Rattle.text.specs.Text.{run_to}

-- the place of the first byte b from a place on, or the text's end
abbrev pub until_of : List ℕ → ℕ → ℕ → ℕ
until_of s at b = run_to (λ x. not (x == b)) s at

-- that place, which lies between the one where the search begins and the text's end
pub record Until (s : List ℕ) (at b r : ℕ) : Type 0 where
  pub place : r ≡ until_of s at b
  pub ahead : at ≤ r
  pub inside : r ≤ at + (length s - at)

-- a tenth of 2^64
abbrev pub tenth : ℕ
tenth = 1844674407370955161

-- a number with one digit more, where it is asked for, modulo 2^64; a byte that is no digit is passed over, and so is one behind a number above the tenth
unfoldable pub one_digit : Bool → ℕ → ℕ → ℕ
one_digit asked n b = cond (not asked || (nat_lt b 48 || (nat_lt 57 b || nat_lt tenth n))) n ((n * 10 + (b - 48)) % 2 ^ 64)

-- the word that a byte stands in, from the word before it: a blank begins the next
unfoldable pub word_after : ℕ → ℕ → ℕ
word_after word b = cond (b == 32) (word + 1) word

-- a number with the digits that the bytes of word k add
unfoldable pub number_from : ℕ → ℕ → ℕ → List ℕ → ℕ
number_from k word n [] = n
number_from k word n (b ∷ s) = number_from k (word_after word b) (one_digit (word_after word b == k) n b) s

-- the number that the digits of word k of a line write
abbrev pub word_number : ℕ → List ℕ → ℕ
word_number k s = number_from k 0 0 s
