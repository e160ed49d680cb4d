-- `row::formed::ids_at` meets its contract: what the table says that the place needs comes to so many ids, and past those needs to none. Assumes nothing.
use mathlib.Core.Path.{◌≡◌}
use native.Mathlib.Omega.{arith}
use Rattle.std.proofs.lemmas.Grind.{common_steps}
use Rattle.row.specs.Formed.{ids_for}
use Rattle.row.proofs.Rows.{by_need}
use Rattle.row.proofs.formed.ids_at.Goals as goal

pub returns : goal.returns
returns c =
    let found : c.unwrap_or.result ≡ ids_for c.cell_of-need.result = grind (arith, common_steps) in
    by_need _ _ _ _ c.requires c.cell_of-need.ensures found
