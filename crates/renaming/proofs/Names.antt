-- Names do not matter: drawings with the same lines are lowered alike, and what is written stands at the front of what is lent. Assumes nothing.
use mathlib.Core.Path.{◌≡◌, refl, sym, ◌∙◌}
use mathlib.Core.List.{List}
use Prim.Native.Nat.{ℕ}
use lib.ListN.{length}
use Rattle.refusal.specs.First.{passed}
use Rattle.record.specs.Entry.{Label, Entry}
use Rattle.record.specs.Formed.{entries}
use Rattle.drawing.specs.Check.{check_of}
use Rattle.lowering.specs.Slots.{slots}
use Rattle.lowering.specs.Rows.{rules_of}
use Rattle.lowering.specs.Lower.{room_in}
use Rattle.lowering.proofs.answer.Lacking.{lower_good}
use Rattle.lowering.proofs.answer.Ends.{fronts}
use Rattle.lowering.proofs.drawing.Counts.{passed_with}
use Rattle.lowering.proofs.drawing.Fine.{fine}
use Rattle.lowering.proofs.Alike.{Alike, alike, call_same}
use Rattle.renaming.specs.Renaming.{Passes, Renamed, Call, SameLowering, NamesDoNotMatter, NeverTwoToOne, NoCallTells}
use Rattle.renaming.proofs.Records.{same_lines, one_to_one}

none_told : (es : List Entry) → Passes es → check_of es ≡ passed
none_told es (P, C, A, R, e) = (passed_with es P C A R e).none_found

-- a drawing and the same renamed, and the other way round
module _ (es es' : List Entry) (p : Passes es) (p' : Passes es') (becomes : Label → Label) (r : Renamed becomes es es') where
  pub alike_renamed : Alike es es'
  alike_renamed = alike es es' (none_told es p) (none_told es' p') (sym (same_lines r (fine es (none_told es p)) (fine es' (none_told es' p'))))

  alike_before : Alike es' es
  alike_before = alike es' es (none_told es' p') (none_told es p) (same_lines r (fine es (none_told es p)) (fine es' (none_told es' p')))

-- ---- two calls

module _ {text records text' records' : List ℕ} (k : Alike (entries text records) (entries text' records')) {next : ℕ} (a : Call text records next) (b : Call text' records' next) where
  same_lowering : SameLowering (length (slots (entries text records))) (length (rules_of (entries text records))) a b
  same_lowering =
      let es = entries text records in
      let es' = entries text' records' in
      let one = fronts es next a.ids a.values a.rows a.enough k.passes a.answer a.ids_after a.values_after a.rows_after a.promised in
      let other = fronts es' next b.ids b.values b.rows b.enough k.passes' b.answer b.ids_after b.values_after b.rows_after b.promised in
      record {
        answer =
            a.promised.answer
            ∙ lower_good es (room_in next a.ids a.values a.rows) a.enough k.passes
            ∙ rw (k.layout, k.slot_count, k.rule_count) refl
            ∙ sym (b.promised.answer ∙ lower_good es' (room_in next b.ids b.values b.rows) b.enough k.passes');
        ids = one.ids_first ∙ rw k.slot_count (sym other.ids_first);
        values = one.values_first ∙ rw (k.slot_count, k.values) (sym other.values_first);
        rows = one.rows_first ∙ rw (k.rule_count, k.rows next) (sym other.rows_first);
      }

-- ---- the claim, and what holds beside it

pub names_do_not_matter : NamesDoNotMatter
names_do_not_matter text records text' records' p p' becomes apart r next a b = same_lowering (alike_renamed (entries text records) (entries text' records') p p' becomes r) a b

pub never_two_to_one : NeverTwoToOne
never_two_to_one es es' p p' becomes r = one_to_one r (fine es (none_told es p)) (fine es' (none_told es' p'))

pub no_call_tells : NoCallTells
no_call_tells text records text' records' p p' becomes r next ids values rows answer ids' values' rows' =
    let es = entries text records in
    let es' = entries text' records' in (
      call_same (alike_renamed es es' p p' becomes r) next ids values rows answer ids' values' rows',
      call_same (alike_before es es' p p' becomes r) next ids values rows answer ids' values' rows',
    )
