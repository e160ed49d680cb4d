-- `reader::page::read_page` meets its contract: it is its definition, call by call, with the two sections stored one behind the other
-- (`Sections`). Assumes nothing.
use native.Mathlib.Omega.{arith}
use Rattle.reader.proofs.Sections.{few, paged}
use Rattle.reader.proofs.page.read_page.Goals as goal

pub overflow_cast-i : goal.overflow_cast-i
overflow_cast-i c = omega (arith, few _ c.requires _ _ _ _ c.read_section-instructions.ensures)

pub returns : goal.returns
returns c =
    rw (c.ws.ensures, c.opt_newline-s.ensures)
    (paged _ c.requires _ _ _ _ c.read_section-instructions.ensures _ _ _ c.read_section-guesses.ensures
    (rw (← c.heading-s.ensures) c.refuse-s.ensures)
    (rw (← c.newline-s.ensures, ← c.newline-s-2.ensures, ← c.refuse-gap.ensures) (rw (← c.ws-s.ensures, ← c.heading-s-2.ensures) c.refuse-s-2.ensures)))
