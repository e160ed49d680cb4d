-- `kinds::word_of` meets its contract: each word of the static is its kind's, and past the last there is none. Assumes nothing.
use Rattle.std.proofs.Common.{[], ◌<◌, ◌≤◌, List, ℕ, Bor, sym, ap, ◌∙◌, arith}
use Rattle.std.proofs.lemmas.List.{get_or-map}
use lib.ListN.{get_or-eq_default}
use Rattle.kinds.specs.Kinds.{Kind, kinds, no_kind, rows, word_of}
use Rattle.kinds.proofs.word_of.Goals as goal

pub returns-then-row-lt-ROWS : goal.returns-then-row-lt-ROWS
returns-then-row-lt-ROWS c =
    let h : c.from-row.result < rows = omega arith in
    rw (← get_or-map (λ (lent : Bor (List ℕ)). lent.now) _ _ _ [] h)
    (get_or-map (λ (row : Kind). row.word) kinds _ no_kind [] h ∙ ap word_of c.from-row.ensures)

pub returns-else-row-lt-ROWS : goal.returns-else-row-lt-ROWS
returns-else-row-lt-ROWS c =
    let h : rows ≤ c.args.kind = omega (arith, c.from-row.ensures) in sym (ap (λ (row : Kind). row.word) (get_or-eq_default kinds no_kind h))
