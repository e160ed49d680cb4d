-- The laws of the lines of slots, by the ids and values that are left. Assumes nothing.
use mathlib.Core.Path.{◌≡◌, refl}
use mathlib.Core.List.{List, [], ◌∷◌, ◌++◌, append_assoc, append-nil}
use Prim.Native.Nat.{ℕ}
use native.Mathlib.Omega.{arith}
use lib.ListN.{length, get_or}
use lib.Ieee.{Float, nan}
use Rattle.ground.specs.Lists.{up_to}
use Rattle.rail.specs.Words.{joined}
use Rattle.rail.specs.Rail.{Added}
use Rattle.rail.specs.declared.Rail.{Rail}
use Rattle.rail.proofs.Added.{Behind, behind_none, behind_more}
use Rattle.lines.specs.Drawn.{slot_line}

-- a line for each id, with its value
abbrev pub lines_for : List ℕ → List Float → List (List ℕ)
lines_for ids values = up_to (length ids) (λ j. slot_line (get_or ids j 0) (get_or values j nan))

-- what holds on the way: behind whatever was added before stand the lines of the slots passed, and with those of the slots left they are all
pub record Passed (start now : Rail) (ids rest : List ℕ) (values left : List Float) : Type 0 where
  pub done : List ℕ
  pub behind : Behind start done now
  pub all : done ++ joined (lines_for rest left) ≡ joined (lines_for ids values)
  pub even : length rest ≡ length left

pub none_passed : {r : Rail} (ids : List ℕ) (values : List Float) → length ids ≡ length values → Passed r r ids ids values values
none_passed ids values e = record { done = []; behind = behind_none; all = refl; even = e }

pub one_passed : {r s t : Rail} {ids rest : List ℕ} {values left : List Float} (i : ℕ) (v : Float)
    → Passed r s ids (i ∷ rest) values (v ∷ left) → Added s (slot_line i v) t → Passed r t ids rest values left
one_passed i v p x =
    record { done = p.done ++ slot_line i v; behind = behind_more p.behind x; all = rw append_assoc p.all; even = omega (arith, p.even) }

pub all_passed : {r s : Rail} {ids rest : List ℕ} {values left : List Float} → Passed r s ids rest values left → length rest ≡ 0 → Behind r (joined (lines_for ids values)) s
all_passed p e = rw (← p.all, e, append-nil) p.behind
