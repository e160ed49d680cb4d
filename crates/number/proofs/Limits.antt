-- What the code sums up only to a limit is carried as the whole of it would be. Assumes nothing.
use mathlib.Core.Path.{◌≡◌, refl, ap, ◌∙◌}
use mathlib.Core.Bool.{Bool, true, false}
use mathlib.Core.List.{List}
use Prim.Native.Nat.{ℕ, ◌+◌, ◌-◌, ◌^◌, ◌≤◌, ◌<◌}
use native.Mathlib.Omega.{arith}
use borrow.Author.Tests.{le-leb}
use lib.ListN.{length}
use Rattle.text.proofs.Within.{run_to_within}
use Rattle.decimal.specs.Decimal.{limit, carried}
use Rattle.std.specs.Prelude.{Option, Some, None}
use Rattle.decimal.proofs.Laws.{outside_big, outside_times, outside_over}
use Rattle.number.specs.Number.{is_digit, part_at, end_at, Joined, capped, exponent_cap, scale_of, carried_by, scaled, capped_exponent, valued}
use Rattle.number.specs.declared.Power.{Power}
use Rattle.number.proofs.Numerals.{capped_same}

-- no text has more digits than bytes
pub few : {s : List ℕ} {first m count end : ℕ} → Joined s first m count end → count ≤ length s
unfolding end_at
few {s} {first} d = omega (arith, d.count_is, run_to_within is_digit s (part_at s first))

-- an exponent that is over 22 more than the count of digits is not carried, below zero or above
long_outside : (m : ℕ) (s below : Bool) (size count : ℕ) → count < 2 ^ 63 → exponent_cap ≤ size → carried_by m s below size count ≡ None
long_outside m s true size count c h = outside_over m (size + count) s (omega arith)
long_outside m s false size count c h = rw (le-leb count size (omega arith)) (outside_times m (size - count) s (omega arith))

pub scaled_capped : (at : ℕ) (s : Bool) (m count : ℕ) (e : Option Power) → count < 2 ^ 63
    → scaled at s (capped limit m) count (capped_exponent e) ≡ scaled at s m count e
scaled_capped at s m count (Some power) c =
    ap (valued at power.next)
    (capped_same (λ n. carried n (scale_of power.negative (capped exponent_cap power.size) count) s) limit m (λ n l. outside_big n _ s l)
    ∙ capped_same (λ n. carried_by m s power.negative n count) exponent_cap power.size (λ n l. long_outside m s power.negative n count c l))
scaled_capped at s m count None c = refl
