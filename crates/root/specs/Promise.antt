-- What `root_bits` promises. Assumes nothing.
use Rattle.std.specs.Prelude.{◌≡◌, ℕ}
use Rattle.root.specs.Root.{IsRoot}
use Rattle.root.specs.Function.{root_of}

-- r is the root of b as docs/FORMAT.md has it, and what `root_of` computes
pub record Rooted (b r : ℕ) : Type 0 where
  pub relation : IsRoot b r
  pub function : r ≡ root_of b
