-- The lines of a section of a page, one behind another, and where their records go (docs/FORMAT.md, "Problem"; `separated(1.., ..)` of parser.rs).
use Rattle.std.specs.Prelude.{◌≡◌, Bool, cond, List, [], ◌∷◌, ◌++◌, ℕ, zero, suc, ◌+◌, ◌*◌, ltb, length}
use Rattle.text.specs.Text.{from, refused_at, or_stand, due, newline_on}
use Rattle.text.specs.declared.Stand.{Stand}
use Rattle.text.specs.declared.Stand.TheVariants.{At}
use Rattle.store.specs.Store.{room, written}
use Rattle.record.specs.Record.{record_bytes, longest_text, encode}
use Rattle.record.specs.declared.Record.{Record}
use Rattle.forms.specs.declared.Count.{Count}
use Rattle.forms.specs.Forms.{Lines, no_line, line_on}

-- ---- lines behind one another

-- records, and then those of further lines
abbrev pub followed_by : List Record → Lines → Lines
followed_by rs l = record { records = rs ++ l.records; then = l.then }

-- where nothing more reads, reading stands at the last line's end; a refusal is handed on
abbrev pub stopped : ℕ → Stand → Stand
stopped at stand = or_stand stand stand (At at)

-- a line that follows the line that ends at a place, and then the rest
abbrev pub follow : Lines → ℕ → (ℕ → Lines) → Lines
follow l at rest = from l.then (no_line (stopped at l.then)) (λ next. followed_by l.records (rest next))

-- at most so many lines more, each behind one new line
unfoldable pub rest_of : ℕ → Bool → List ℕ → ℕ → Lines
rest_of zero guesses s at = no_line (At at)
rest_of (suc most) guesses s at = follow (line_on guesses s (newline_on s (At at))) at (rest_of most guesses s)

-- one line, which is due, and the lines that follow it: fewer than the text has bytes
unfoldable pub lines_on : Bool → List ℕ → Stand → ℕ → Lines
lines_on guesses s stand number =
    let first = line_on guesses s stand in
    let then = due stand first.then number in
    from then (no_line then) (λ next. followed_by first.records (rest_of (length s) guesses s next))

-- the same for any text: one that is too long is refused by 1
unfoldable pub section_on : Bool → List ℕ → Stand → ℕ → Lines
section_on guesses s stand number = cond (ltb longest_text (length s)) (no_line (refused_at 1 0)) (lines_on guesses s stand number)

-- ---- records in a buffer, each at its place, where there is room for it

-- record n
abbrev pub store : List ℕ → ℕ → Record → List ℕ
store d n r = cond (room d (n * record_bytes) (encode r)) (written d (n * record_bytes) (encode r)) d

-- records from place n on
unfoldable pub stored : List ℕ → ℕ → List Record → List ℕ
stored d n [] = d
stored d n (r ∷ rs) = stored (store d n r) (n + 1) rs

-- the promise of a section whose records go from place n on: the place behind them and where reading stands, and the buffer's later contents
pub record SectionRead (d : List ℕ) (n : ℕ) (l : Lines) (answer : Count) (d' : List ℕ) : Type 0 where
  pub count_is : answer.count ≡ n + length l.records
  pub then_is : answer.then ≡ l.then
  pub buffer : d' ≡ stored d n l.records
