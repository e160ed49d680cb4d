-- What the loop keeps.
use mathlib.Core.Path.{◌≡◌}
use Prim.Native.Nat.{◌^◌}
use Rattle.decimal.specs.Decimal.{whole_number}
use Rattle.decimal.proofs.ten_to.Given as goal

abbrev pub invariant-loop : goal.invariant-loop
invariant-loop l = l.p ≡ whole_number (10 ^ l.counter)
