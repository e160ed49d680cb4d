-- How the code chooses among the forms, and what it hands about on the way. It need not be read: no promise of a public function cites it.
use Rattle.std.specs.Prelude.{◌≡◌, Bool, true, not, ◌&&◌, List, [], ◌∷◌, Option, None, Some, ℕ, ◌+◌, eqb, length, take, drop}
use Rattle.ground.specs.Words.{bytes}
use Rattle.text.specs.Text.{refused_at}
use Rattle.text.specs.declared.Stand.{Stand}
use Rattle.text.specs.declared.Stand.TheVariants.{At, Nothing, Refused}
use Rattle.text.specs.declared.ReadLabel.{ReadLabel}
use Rattle.kinds.specs.Kinds.{new_point, new_circle, new_arc, fix_component, fix_center, word_of}
use Rattle.record.specs.declared.Record.{Record}
use Rattle.forms.specs.declared.pieces.Parsed.{Parsed}
use Rattle.forms.specs.Forms.{Lines, line_then, or_line, declare_on, fixed_on, assign_on, keyword_kinds, first_of}
use Rattle.forms.specs.Section.{stored}

-- ---- a line as the code hands it about

-- the second record behind a first one: its third byte is 2, and it has a number of its own
abbrev pub second_of : Record → ℕ → Record
second_of r x = record { kind = r.kind; third = 2; count = r.count; labels = r.labels; x = x; y = r.y }

-- a record, and a second one where it has a number
abbrev pub with_second : Record → Option ℕ → List Record
with_second r None = r ∷ []
with_second r (Some x) = r ∷ second_of r x ∷ []

-- one record, or two
abbrev pub records_of : Parsed → List Record
records_of l = with_second l.first l.second

-- the line that it means
abbrev pub meant_line : Parsed → Lines
meant_line l = line_then (records_of l) l.then

-- what holds where something was read or refused, and what holds where nothing was read
abbrev pub IfRead : Stand → Type 0 → Type 0 → Type 0
IfRead (At n) P Q = P
IfRead Nothing P Q = Q
IfRead (Refused why) P Q = P

-- records stored from a place on, and the next place
pub record Stored (d : List ℕ) (n : ℕ) (rs : List Record) (next : ℕ) (d' : List ℕ) : Type 0 where
  pub next_is : next ≡ n + length rs
  pub buffer : d' ≡ stored d n rs

-- where reading stands without a further line: at the end of the last, or, before the first, refused where that is due
abbrev pub stop_of : ℕ → ℕ → Option ℕ → Stand
stop_of first number None = refused_at number first
stop_of first number (Some last) = At last

-- ---- choices

-- the declarations
abbrev pub declaration_on : List ℕ → Stand → Lines
declaration_on s stand = or_line (declare_on s stand new_point) (or_line (declare_on s stand new_circle) (declare_on s stand new_arc))

-- an assignment, then the keyword forms
abbrev pub assigned_on : List ℕ → Stand → ReadLabel → Lines
assigned_on s at l = or_line (assign_on s l) (first_of s at keyword_kinds)

-- the forms that begin with a label, which was read, then the keyword forms
abbrev pub behind_on : List ℕ → Stand → ReadLabel → Lines
behind_on s at l = or_line (fixed_on s l fix_component (bytes ".")) (or_line (fixed_on s l fix_center (bytes ".center.")) (assigned_on s at l))

-- a word may begin with a byte
abbrev pub opens : ℕ → List ℕ → Bool
opens b [] = true
opens b (w ∷ ws) = eqb b w

-- none of these kinds' words begins with a byte
abbrev pub none_begins : ℕ → List ℕ → Bool
none_begins b [] = true
none_begins b (k ∷ ks) = not (opens b (word_of k)) && none_begins b ks

-- the kinds of the keyword forms but for so many at the start, none of whose words begins with a byte
pub record KindsFrom (b : ℕ) (ks : List ℕ) : Type 0 where
  pub skipped : ℕ
  pub none : none_begins b (take skipped keyword_kinds) ≡ true
  pub rest : ks ≡ drop skipped keyword_kinds
