-- The faults behind 30 as the code has them: a rank is a place in their order. It mirrors the code and need not be read.
use Rattle.std.specs.Prelude.{Option, Some, None, ℕ}
use Rattle.refusal.specs.Worst.{Worst}
use Rattle.drawing.specs.declared.faults.Fault.{Fault}
use Rattle.drawing.specs.declared.faults.Fault.TheVariants.{DeclaredTwice, WrongLabel, NoSuchPart, GuessedTwice, WithoutGuess}
use Rattle.drawing.specs.declared.faults.Told.{Told}

-- a fault's place in the order
abbrev pub rank : Fault → ℕ
rank DeclaredTwice = 0
rank WrongLabel = 1
rank NoSuchPart = 2
rank GuessedTwice = 3
rank WithoutGuess = 4

-- no fault has the place behind the last
abbrev pub rank_or : Option Fault → ℕ
rank_or None = 5
rank_or (Some f) = rank f

-- what was found, as a rank and a place
abbrev pub found_as : Option Told → Worst
found_as None = record { rank = 5; place = 0 }
found_as (Some t) = record { rank = rank t.fault; place = t.place }
