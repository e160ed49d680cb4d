-- Where reading stands, and what is read at a place (docs/FORMAT.md, "Label and spaces"). A text is the list of its bytes, a place the
-- count of the bytes before it. Past the end stands nothing, so each reading has a meaning at every place.
use Rattle.std.specs.Prelude.{◌≡◌, ℕ, ◌+◌, ◌-◌, Bool, true, false, cond, ◌||◌, ◌&&◌, List, [], ◌∷◌, leb, eqb, length, drop}
use Rattle.refusal.specs.Refusal.{refusal}
use Rattle.text.specs.declared.Stand.{Stand}
use Rattle.text.specs.declared.Stand.TheVariants.{At, Nothing, Refused}
use Rattle.text.specs.declared.ReadLabel.{ReadLabel}

-- ---- the rail

-- what is read at the place where reading stands; where it stands at none, `rest`
abbrev pub from {ℓ} : {X : Type ℓ} → Stand → X → (ℕ → X) → X
from (At n) rest read = read n
from Nothing rest read = rest
from (Refused why) rest read = rest

-- a refusal by its number at a place
abbrev pub refused_at : ℕ → ℕ → Stand
refused_at number place = Refused (refusal number place)

-- the first of two, or the second where the first reads nothing
abbrev pub or_stand : {X : Type 0} → Stand → X → X → X
or_stand (At n) first second = first
or_stand Nothing first second = second
or_stand (Refused why) first second = first

-- something was due at a place, and is refused there by this number
abbrev pub missed : Stand → ℕ → Stand
missed before number = from before Nothing (λ place. refused_at number place)

-- something was due: where nothing was read, it is refused by this number at the place where it was due
abbrev pub due : Stand → Stand → ℕ → Stand
due before read number = or_stand read read (missed before number)

-- ---- bytes

-- blank and tab
abbrev pub is_space : ℕ → Bool
is_space b = eqb b 32 || eqb b 9

abbrev pub in_range : ℕ → ℕ → ℕ → Bool
in_range lo hi b = leb lo b && leb b hi

-- a to z, 0 to 9, A to Z
abbrev pub is_alphanum : ℕ → Bool
is_alphanum b = in_range 97 122 b || in_range 48 57 b || in_range 65 90 b

-- the bytes that a text starts with and that pass a test, before one that does not
abbrev pub leading : (ℕ → Bool) → List ℕ → List ℕ
leading p [] = []
leading p (b ∷ bs) = cond (p b) (b ∷ leading p bs) []

-- the place after such bytes at a place
unfoldable pub run_to : (ℕ → Bool) → List ℕ → ℕ → ℕ
run_to p s at = at + length (leading p (drop at s))

-- what a call answers of each byte is what a test says of it
abbrev pub Tests : (ℕ → Bool → Type 0) → (ℕ → Bool) → Type 0
Tests call p = (b : ℕ) (answer : Bool) → call b answer → answer ≡ p b

-- ---- spaces

-- the place after the spaces at a place
abbrev pub spaces_to : List ℕ → ℕ → ℕ
spaces_to = run_to is_space

-- any count of spaces
unfoldable pub ws_on : List ℕ → Stand → Stand
ws_on s stand = from stand stand (λ at. At (spaces_to s at))

-- ---- words, bytes, new lines

-- a list starts with another
abbrev pub starts : List ℕ → List ℕ → Bool
starts [] s = true
starts (w ∷ ws) [] = false
starts (w ∷ ws) (b ∷ bs) = cond (eqb b w) (starts ws bs) false

-- the place after a word at a place, where it stands there
unfoldable pub word_at : List ℕ → List ℕ → ℕ → Stand
word_at s w at = cond (starts w (drop at s)) (At (at + length w)) Nothing

-- a fixed word
unfoldable pub word_on : List ℕ → Stand → List ℕ → Stand
word_on s stand w = from stand stand (word_at s w)

-- a byte is a word of one byte
unfoldable pub byte_on : List ℕ → Stand → ℕ → Stand
byte_on s stand b = from stand stand (word_at s (b ∷ []))

-- a new line is byte 10 only
abbrev pub newline_on : List ℕ → Stand → Stand
newline_on s stand = byte_on s stand 10

-- ---- labels

-- the place after the letters and digits at a place
abbrev pub alphanum_to : List ℕ → ℕ → ℕ
alphanum_to = run_to is_alphanum

-- no label
abbrev pub no_label : Stand → ReadLabel
no_label stand = record { start = 0; len = 0; then = stand }

-- a label at a place: one or more letters and digits
unfoldable pub label_at : List ℕ → ℕ → ReadLabel
label_at s at =
    let next = alphanum_to s at in
    cond (leb next at) (no_label Nothing) (record { start = at; len = next - at; then = At next })

-- a label
unfoldable pub label_on : List ℕ → Stand → ReadLabel
label_on s stand = from stand (no_label stand) (label_at s)

-- the first label up to the end of the second, where a second was read
abbrev pub with_second : ReadLabel → ReadLabel → ReadLabel
with_second first second =
    from second.then first (λ next. record { start = first.start; len = next - first.start; then = At next })

-- a label that was read, with a point and a second label behind it where both stand there
unfoldable pub suffixed_on : List ℕ → ReadLabel → ReadLabel
suffixed_on s first = with_second first (label_on s (byte_on s first.then 46))

-- a label with an optional point and second label
abbrev pub dotted_on : List ℕ → Stand → ReadLabel
dotted_on s stand = suffixed_on s (label_on s stand)
