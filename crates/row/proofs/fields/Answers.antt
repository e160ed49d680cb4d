-- `row::fields` meets its contract: field by field. Assumes nothing.
use Rattle.row.specs.Row.{held_in}
use Rattle.row.proofs.fields.Goals as goal

pub returns : goal.returns
unfolding held_in
returns c = rw (← c.u32_at.ensures, ← c.u32_at-2.ensures, ← c.u32_at-3.ensures, ← c.u32_at-4.ensures, ← c.u32_at-5.ensures, ← c.u32_at-6.ensures, ← c.u32_at-7.ensures, ← c.u32_at-8.ensures, ← c.u64_at.ensures)
