-- `forms::keywords::kinds_from` meets its contract: what is left of the order is all of it from there on. Assumes nothing.
use native.Mathlib.Omega.{arith}
use Prim.Native.Nat.{◌-◌, ◌≤◌}
use lib.ListN.{length, drop}
use Rattle.std.proofs.lemmas.List.{length-drop, take_all}
use Rattle.forms.specs.Forms.{keyword_kinds}
use Rattle.forms.proofs.keywords.kinds_from.Goals as goal

pub returns : goal.returns
returns c =
    let n = c.skip_to.result in
    let few : length (drop n keyword_kinds) ≤ 18 - n = omega (arith, length-drop n keyword_kinds) in
    record { skipped = n; none = c.skip_to.ensures.1; rest = take_all (18 - n) (drop n keyword_kinds) few }
