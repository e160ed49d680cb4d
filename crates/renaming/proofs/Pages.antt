-- Two pages that differ by names alone are answered alike: each line is made of what is worked out from the lines of the drawing. Assumes nothing.
use mathlib.Core.Path.{◌≡◌}
use mathlib.Core.List.{List, ◌++◌, map}
use lib.ListN.{get_or}
use lib.Ieee.{nan}
use Rattle.lowering.specs.Lower.{good_lowering}
use Rattle.ground.specs.Lists.{up_to}
use Rattle.refusal.specs.First.{passed}
use Rattle.record.specs.Entry.{Entry}
use Rattle.reader.specs.Page.{lines_of}
use Rattle.lowering.proofs.Alike.{Alike}
use Rattle.rail.specs.Words.{joined}
use Rattle.lines.specs.Drawn.{lowered_line, slot_line, row_line}
use Rattle.answers.specs.Answers.{drawing_lines, lowering_of}
use Rattle.renaming.specs.Pages.{PrintedAlike}
use Rattle.renaming.proofs.Names.{alike_renamed}

same_print : {es es' : List Entry} → Alike es es' → drawing_lines passed es ≡ drawing_lines passed es'
same_print k j =
    lowered_line (good_lowering (k.layout j) (k.slot_count j) (k.rule_count j))
    ++ joined (up_to (k.slot_count j) (λ i. slot_line i (get_or (k.values j) i nan)))
    ++ joined (map row_line (k.rows 0 j))

pub printed_alike : PrintedAlike
unfolding lowering_of
printed_alike text text' g g' becomes r =
    let k = alike_renamed (lines_of text) (lines_of text') g.passes g'.passes becomes r in
    rw (g.reads, g'.reads, k.passes, k.passes') (same_print k)
