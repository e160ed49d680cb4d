-- The keyword forms by their order: what is left of it after a form that reads nothing. Assumes nothing.
use mathlib.Core.Path.{◌≡◌, ap}
use mathlib.Core.List.{List}
use Prim.Native.Nat.{ℕ, ◌+◌, ◌≤◌, ◌<◌}
use native.Mathlib.Numerals.{add-one}
use native.Mathlib.Omega.{arith}
use lib.ListN.{length, get_or, drop, drop_of_length-le}
use lib.Seq.{drop-cons}
use Rattle.std.proofs.lemmas.List.{get_or-drop, length-drop}
use Rattle.kinds.specs.Kinds.{word_of}
use Rattle.text.specs.declared.Stand.{Stand}
use Rattle.text.specs.declared.Stand.TheVariants.{Nothing}
use Rattle.forms.specs.Forms.{no_line, or_line, keyword_on, keyword_kinds, first_of}
use Rattle.forms.specs.Steps.{KindsFrom}
use Rattle.forms.proofs.Table.{keyword_long}

module _ (s : List ℕ) (stand : Stand) (ks : List ℕ) (i : ℕ) where
  pub first_here : i < length ks → first_of s stand (drop i ks) ≡ or_line (keyword_on s stand (get_or ks i 0)) (first_of s stand (drop (i + 1) ks))
  unfolding first_of
  first_here h = rw (add-one, drop-cons ks i 0)

  pub first_none : length ks ≤ i → first_of s stand (drop i ks) ≡ no_line Nothing
  unfolding first_of
  first_none h = rw (drop_of_length-le ks h)

-- each keyword that is left has at least two bytes
pub long_left : {b : ℕ} {ks : List ℕ} → KindsFrom b ks → (i : ℕ) → i < length ks → 2 ≤ length (word_of (get_or ks i 0))
long_left {b} {ks} from i h =
    let n = from.skipped in
    let inside : n + i < length keyword_kinds = omega (arith, length-drop n keyword_kinds, ap length from.rest) in
    rw (from.rest, get_or-drop n keyword_kinds i 0) (keyword_long (n + i) inside)
