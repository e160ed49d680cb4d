-- `record::sound::spelled_at` meets its contract: the part stands between the view's start and its end. Assumes nothing.
use mathlib.Core.Path.{◌≡◌}
use Prim.Native.Nat.{◌+◌, ◌-◌}
use native.Mathlib.Omega.{arith}
use Rattle.record.proofs.sound.spelled_at.Goals as goal

pub returns : goal.returns
returns c =
    let a = c.args in let e : a.v.start + a.v.len - a.v.start ≡ a.v.len = omega arith in
    rw (← e) c.spelled.ensures
