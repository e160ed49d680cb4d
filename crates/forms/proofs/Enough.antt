-- The count that bounds the lines of a section is always enough: a larger one reads the same lines. Assumes nothing.
use mathlib.Core.Path.{◌≡◌, refl, ap}
use mathlib.Core.Bool.{Bool}
use mathlib.Core.List.{List, [], ◌∷◌}
use Prim.Native.Nat.{ℕ, zero, suc, ◌+◌, ◌≤◌}
use native.Mathlib.Omega.{arith}
use lib.ListN.{length, drop}
use Rattle.text.specs.Text.{from, starts, word_at, byte_on, newline_on}
use Rattle.text.specs.declared.Stand.{Stand}
use Rattle.text.specs.declared.Stand.TheVariants.{At, Nothing, Refused}
use Rattle.text.proofs.Laws.{starts_short, cond_of}
use Rattle.forms.specs.Forms.{Lines, no_line, line_on}
use Rattle.forms.specs.Section.{followed_by, rest_of}
use Rattle.forms.proofs.Kept.{line_kept}
use Rattle.forms.proofs.Stands.{In, kept_in}
use Rattle.forms.proofs.Begin.{line_nowhere}

module _ (s : List ℕ) where
  -- ---- a line that follows ends further on

  newline_in : (at : ℕ) → In s (at + 1) (newline_on s (At at))
  unfolding byte_on word_at
  newline_in at = cond_of (In s (at + 1)) (starts (10 ∷ []) (drop at s)) _ _ (λ e. record { is = (omega arith, omega arith) }) (λ e. record { is = tt })

  -- ---- what follows by another count

  same_from : (t : Stand) (rest : Lines) (f h : ℕ → Lines) → ((next : ℕ) → t ≡ At next → f next ≡ h next) → from t rest f ≡ from t rest h
  same_from (At next) rest f h e = e next refl
  same_from Nothing rest f h e = refl
  same_from (Refused why) rest f h e = refl

  -- one line more than none makes no difference past the end
  none_past : (k : ℕ) (g : Bool) (at : ℕ) → length s ≤ at → rest_of k g s at ≡ no_line (At at)
  unfolding rest_of byte_on word_at
  none_past zero g at h = refl
  none_past (suc k) g at h = rw (starts_short (10 ∷ []) s 0 at (omega arith) h, line_nowhere s g)

  enough : (m : ℕ) (g : Bool) (at k : ℕ) → length s ≤ at + m → rest_of (m + k) g s at ≡ rest_of m g s at
  unfolding rest_of
  enough zero g at k h = let e : 0 + k ≡ k = omega arith in rw (e, none_past k g at (omega arith))
  enough (suc m) g at k h =
      let e : suc m + k ≡ suc (m + k) = omega arith in
      let l = line_on g s (newline_on s (At at)) in
      rw e (same_from l.then _ _ _
      (λ next i.
      let after : In s (at + 1) (At next) = rw i at (line_kept (kept_in s (at + 1)) g (newline_in at)) in
      ap (followed_by l.records) (enough m g next k (omega (arith, after.is)))))

-- the text has as many bytes as lines may follow, and more make no difference
pub always_enough : (s : List ℕ) (g : Bool) (at k : ℕ) → rest_of (length s + k) g s at ≡ rest_of (length s) g s at
always_enough s g at k = enough s (length s) g at k (omega arith)
