-- `ask::part_of` meets its contract: a label of a good record lies inside the text. Assumes nothing.
use mathlib.Core.Path.{◌≡◌, sym, ◌∙◌}
use native.Mathlib.Omega.{arith}
use Rattle.record.specs.Decode.{decode}
use Rattle.record.specs.Sound.{Good}
use Rattle.record.proofs.Back.{decode_one}
use Rattle.ask.proofs.Cases.{good_of_kind, bad_of_kind, no_record_lem, no_label, label_named}
use Rattle.ask.proofs.part_of.Goals as goal

pub returns-then-good_kind-eq0 : goal.returns-then-good_kind-eq0
returns-then-good_kind-eq0 c = no_record_lem _ _ _ (bad_of_kind _ _ (sym c.good_kind.ensures ∙ c.if-good_kind-eq0.true))

pub returns-then-r-q : goal.returns-then-r-q
returns-then-r-q c =
    let good : let a = c.args in Good a.text.now a.bytes.now = good_of_kind _ _ (λ e. c.if-good_kind-eq0.false (c.good_kind.ensures ∙ e)) in
    let read : c.decode_record-r.result ≡ decode c.args.bytes.now = c.decode_record-r.ensures ∙ decode_one _ (good).framed.whole in
    no_label _ _ _ (good) (rw (read) at c.if-r-q.true)

pub bounds-r-q : goal.bounds-r-q
bounds-r-q c =
    let good : let a = c.args in Good a.text.now a.bytes.now = good_of_kind _ _ (λ e. c.if-good_kind-eq0.false (c.good_kind.ensures ∙ e)) in
    let read : c.decode_record-r.result ≡ decode c.args.bytes.now = c.decode_record-r.ensures ∙ decode_one _ (good).framed.whole in
    let few = (good).framed.few in omega (arith, c.if-r-q.false, rw (← read) at few)

pub returns : goal.returns
returns c =
    let good : let a = c.args in Good a.text.now a.bytes.now = good_of_kind _ _ (λ e. c.if-good_kind-eq0.false (c.good_kind.ensures ∙ e)) in
    let read : c.decode_record-r.result ≡ decode c.args.bytes.now = c.decode_record-r.ensures ∙ decode_one _ (good).framed.whole in
    rw (read) (label_named _ _ _ (good) (rw (read) at c.if-r-q.false))
