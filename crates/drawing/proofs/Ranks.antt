-- What the code reads of a record, test by test, and the record's rank in the order. Assumes nothing.
use mathlib.Core.Path.{◌≡◌, refl, ap, ◌∙◌}
use mathlib.Core.Bool.{Bool, not}
use mathlib.Core.List.{List, map}
use Prim.Native.Nat.{ℕ, ◌+◌, ◌<◌}
use lib.Dec.{lit<}
use lib.ListN.{length, get_or}
use Rattle.kinds.specs.Kinds.{table, cell, needs_column, label_places}
use Rattle.kinds.proofs.Cells.{needs_is}
use Rattle.names.specs.Names.{sort_by}
use Rattle.drawing.specs.Needs.{need_of, need_at}
use Rattle.drawing.specs.Faults.{behind30, number_of}
use Rattle.drawing.specs.declared.faults.Fault.{Fault}
use Rattle.drawing.specs.declared.faults.Fault.TheVariants.{DeclaredTwice, WrongLabel, NoSuchPart, GuessedTwice, WithoutGuess}
use Rattle.drawing.specs.contracts.faults.Fault.{the_type}
use Rattle.drawing.specs.Ranks.{rank}
use denote.Enum.Declared.{tag_of}
use Rattle.drawing.specs.Numbers.{by_sort, name_by, wrong_name}

-- ---- what a code needs

pub by_code : (code k sort : ℕ) (a : Bool) → code ≡ k → a ≡ by_sort (need_of k) sort → a ≡ by_sort (need_of code) sort
by_code code k sort a e h = rw e h

-- a name and the code of its place, as they are read
pub wrong_name_is : (names : List ℕ) (kind i q code name : ℕ) (r : Bool) → q < label_places → code ≡ cell table kind (needs_column + q) → name ≡ name_by names i q
    → r ≡ by_sort (need_of code) (sort_by name) → not r ≡ wrong_name kind names i q
unfolding wrong_name
wrong_name_is names kind i q code name r h ec en er =
    let same : r ≡ by_sort (need_at kind q) (sort_by (name_by names i q)) = er ∙ rw (ec ∙ needs_is kind q h, en) refl in
    ap not same

-- ---- the faults by their ranks

-- a fault has a place in the order
pub rank_small : (f : Fault) → rank f < length behind30
rank_small DeclaredTwice = lit< tt
rank_small WrongLabel = lit< tt
rank_small NoSuchPart = lit< tt
rank_small GuessedTwice = lit< tt
rank_small WithoutGuess = lit< tt

-- its number in the code is that of the fault at its place
pub number_at : (f : Fault) → tag_of the_type f + 31 ≡ get_or (map number_of behind30) (rank f) 0
number_at DeclaredTwice = refl
number_at WrongLabel = refl
number_at NoSuchPart = refl
number_at GuessedTwice = refl
number_at WithoutGuess = refl
