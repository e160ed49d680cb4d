-- `layout::push::store` meets its contract: what is put over a part is laid over the whole. Assumes nothing.
use mathlib.Core.Path.{sym, ◌∙◌, ap}
use native.Mathlib.Omega.{arith}
use Rattle.std.proofs.lemmas.Slice.{put_mid-paste}
use Rattle.layout.specs.Slots.{size_of}
use Rattle.layout.proofs.Runs.{components_length}
use Rattle.layout.proofs.Storing.{whole}
use Rattle.layout.proofs.push.store.Goals as goal

pub returns-clause-values : goal.returns-clause-values
returns-clause-values g c =
    let long = c.requires.3 ∙ sym (components_length (g.S.Shape.figure c.args.shape) ∙ ap size_of (g.met.S.Shape.is_of_kind c.args.shape)) in
    whole _ _ _ c.args.at c.args.size long (put_mid-paste _ _ _ _ _ c.args.size c.put.ensures (omega arith) long)
