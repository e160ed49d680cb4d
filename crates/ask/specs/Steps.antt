-- What the contract of a private function goes by. It need not be read: it is said of what Ask defines.
use Rattle.std.specs.Prelude.{◌≡◌, List, ℕ, ◌+◌, ◌≤◌, length}
use Rattle.record.specs.declared.View.{View}
use Rattle.record.specs.Entry.{part}
use Rattle.ask.specs.Ask.{label_of, label_from}

-- a view that lies inside the text, starts where label q of a record does and names that label
pub record NamesLabel (text b : List ℕ) (q : ℕ) (v : View) : Type 0 where
  pub inside : v.start + v.len ≤ length text
  pub starts : v.start ≡ label_from text b q
  pub is : part text v.start v.len ≡ label_of text b q
