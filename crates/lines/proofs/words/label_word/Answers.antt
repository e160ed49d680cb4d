-- `lines::words::label_word` meets its contract: what lies in the text of the label's part is all that the part has. Assumes nothing.
use mathlib.Core.Path.{◌≡◌}
use lib.ListN.{get_or}
use borrow.Author.Rules.{rules}
use Rattle.std.proofs.lemmas.List.{take_min}
use Rattle.record.specs.Entry.{no_view}
use Rattle.rail.proofs.Added.{added}
use Rattle.lines.proofs.Spaced.{rest_inside}
use Rattle.lines.proofs.words.label_word.Goals as goal

pub returns : goal.returns
returns c =
    let v : c.unwrap_or-v.result ≡ get_or c.args.r.labels c.args.q no_view = search rules in
    rw (c.min-2.ensures, c.min.ensures, rest_inside, take_min, v) at (added c.word.ensures)
