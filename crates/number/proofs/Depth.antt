-- An expression by the count of roots that may still open. Assumes nothing.
use mathlib.Core.Path.{◌≡◌, refl}
use mathlib.Core.Bool.{cond}
use mathlib.Core.List.{List}
use Prim.Native.Nat.{ℕ, zero, suc, ◌-◌}
use native.Mathlib.Omega.{arith}
use borrow.Author.Tests.{ne_eqb}
use lib.Dec.{eqb}
use Rattle.ground.specs.Words.{bytes}
use Rattle.text.specs.Text.{from, refused_at, word_at}
use Rattle.number.specs.Number.{no_number, number_at, closed, expr_at}

-- it goes by whether `sqrt(` stands there, and then by whether one more root may open
pub opened : (s : List ℕ) (at left : ℕ) → expr_at left s at
    ≡ from (word_at s (bytes "sqrt(") at) (number_at s at) (λ inside. cond (eqb left 0) (no_number (refused_at 9 at)) (closed s (expr_at (left - 1) s inside)))
unfolding expr_at
opened s at zero = refl
opened s at (suc left) = let one_less : suc left - 1 ≡ left = omega arith in rw (one_less, ne_eqb (suc left) 0 (λ (e : suc left ≡ 0). omega arith))
