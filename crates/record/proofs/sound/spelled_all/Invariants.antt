-- What the loop keeps: each label passed is spelled as one.
use mathlib.Core.Path.{◌≡◌}
use mathlib.Core.Bool.{true}
use Rattle.refusal.specs.First.{all_below}
use Rattle.record.specs.Decode.{decode}
use Rattle.record.specs.Entry.{named}
use Rattle.record.specs.Sound.{spelled_test}
use Rattle.record.proofs.sound.spelled_all.Given as goal

abbrev pub invariant-loop-q : goal.invariant-loop-q
invariant-loop-q l = all_below l.q (λ j. spelled_test l.dotted (named l.text (decode l.b) j)) ≡ true
