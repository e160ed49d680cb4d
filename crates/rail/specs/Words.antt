-- Lines of words (docs/FORMAT.md, "A page read whole").
use Rattle.std.specs.Prelude.{List, [], ◌∷◌, ◌++◌, ℕ}
use Prim.Native.String.{String}
use Rattle.ground.specs.Words.{bytes}

-- a blank
abbrev pub blank : ℕ
blank = 32

-- a new line
abbrev pub newline : List ℕ
newline = 10 ∷ []

-- words, each with a blank before it
unfoldable pub spaced : List (List ℕ) → List ℕ
spaced [] = []
spaced (w ∷ ws) = (blank ∷ w) ++ spaced ws

-- a line: words parted by blanks, and a new line
abbrev pub line_with : List ℕ → List (List ℕ) → List ℕ
line_with w ws = w ++ spaced ws ++ newline

-- lines one after the other
abbrev pub joined : List (List ℕ) → List ℕ
joined [] = []
joined (l ∷ ls) = l ++ joined ls

-- quoted lines
abbrev pub quoted : List String → List ℕ
quoted [] = []
quoted (w ∷ ws) = bytes w ++ newline ++ quoted ws
