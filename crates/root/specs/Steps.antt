-- What the functions inside the crate promise beside the function. It mirrors the code and need not be read. Assumes nothing.
use Rattle.std.specs.Prelude.{◌≡◌, ℕ, ◌*◌, ◌^◌, ◌≤◌, ◌<◌}

-- v is m * 2 ^ g, with 53 binary digits in m
pub record Scaling (v m g : ℕ) : Type 0 where
  pub least : 2 ^ 52 ≤ m
  pub most : m < 2 ^ 53
  pub value : v ≡ m * 2 ^ g
