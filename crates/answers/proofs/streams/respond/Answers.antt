-- `answers::streams::respond` meets its contract: what was read is the page, and what is written is its answer, or that it is too long.
-- Assumes nothing.
use mathlib.Core.Path.{◌∙◌}
use Prim.Native.Nat.{ℕ}
use lib.ListN.{length-replicate}
use Rattle.answers.specs.Responds.{most_read, longest_answer}
use Rattle.answers.proofs.Sent.{whole_sent, none_sent, responds, on_ok}
use Rattle.answers.proofs.streams.respond.Goals as goal

pub returns-in-Some : goal.returns-in-Some
returns-in-Some g c =
    let read = c.in_ok-n.ensures in
    let size = c.read_full.auto.buf ∙ length-replicate {0} {A = ℕ} most_read 0 in
    let is = whole_sent (length-replicate {0} {A = ℕ} longest_answer 0) c.tell.ensures _ c.in-Some.is in
    on_ok c.write_all.result (λ told. responds c.in_ok-n.n c.read_full.new.buf size read.within read.bytes read.whole (rw is told)) c.write_all.ensures.bytes

pub returns-in-None : goal.returns-in-None
returns-in-None g c =
    let read = c.in_ok-n.ensures in
    let size = c.read_full.auto.buf ∙ length-replicate {0} {A = ℕ} most_read 0 in
    let is = none_sent (length-replicate {0} {A = ℕ} longest_answer 0) c.tell.ensures c.in-None.is in
    on_ok c.write_all-in-None.result (λ told. responds c.in_ok-n.n c.read_full.new.buf size read.within read.bytes read.whole (rw is told))
    c.write_all-in-None.ensures.bytes
