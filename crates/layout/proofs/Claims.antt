-- What is claimed of the layout, each from the laws of its subject. Assumes nothing.
use Rattle.layout.specs.Claims.{ArcsAgree, GoodPush, RefusedPush, AnyRun, AllAccepted, AllReadBack, OneSlotOnePart}
use mathlib.Core.Path.{◌≡◌, refl, sym, ◌∙◌, ap}
use Prim.Native.Nat.{◌+◌}
use lib.ListN.{length}
use Rattle.refusal.proofs.Once.{answered_pair}
use Rattle.layout.specs.declared.Pushed.{Pushed}
use Rattle.std.specs.Prelude.{Result, Ok, Err}
use Rattle.refusal.specs.declared.Refusal.{Refusal}
use Rattle.layout.specs.Slots.{kind_of, components, with_one}
use Rattle.layout.specs.Refusals.{reason_number}
use Rattle.layout.specs.Push.{State, state, told_in, after}
use Rattle.layout.proofs.Agree.{agree, circles_or_arcs}
use Rattle.layout.proofs.Runs.{kept, kept_laid}
use Rattle.layout.proofs.Accepted.{all_in}
use Rattle.layout.proofs.Parts.{read_out, read_back}

pub arcs_agree : ArcsAgree
arcs_agree l ids possible long distinct = (circles_or_arcs l ids possible long distinct, agree l ids possible long)

-- a good answer's value
of_ok : {A : Type 0} {x y : A} → ◌≡◌ {A = Result A Refusal} (Ok x) (Ok y) → x ≡ y
of_ok e = cc

pub good_push : GoodPush
good_push shape s l next ids values p =
    answered_pair reason_number (λ (z : Result Pushed Refusal) (t : State). Ok (record { layout = l; next = next }) ≡ z → ids ≡ t.ids → values ≡ t.values → state l next ids values ≡ t) _ _
    (told_in (kind_of shape) s) _ _ (λ r e i v. absurd cc)
    (λ c e i v. let a : l ≡ with_one (kind_of shape) s.layout = ap (λ (p : Pushed). p.layout) (of_ok e) in let b : next ≡ s.next + length (components shape) = ap (λ (p : Pushed). p.next) (of_ok e) in rw (a, b, i, v))
    p.answer p.ids_are p.values_are

pub refused_push : RefusedPush
refused_push shape s r ids values p =
    let same : s ≡ after shape s =
    answered_pair reason_number (λ (z : Result Pushed Refusal) (t : State). Err r ≡ z → s ≡ t) _ _ (told_in (kind_of shape) s) _ _ (λ r' e. refl) (λ c e. cc) p.answer in
    (p.ids_are ∙ ap (λ (z : State). z.ids) (sym same), p.values_are ∙ ap (λ (z : State). z.values) (sym same), same)

pub any_run : AnyRun
any_run next ids values acts = kept_laid _ _ _ (kept next ids values acts)

pub all_accepted : AllAccepted
all_accepted next ids values ps cs xs room = all_in next ids values ps cs xs room

pub all_read_back : AllReadBack
all_read_back next ids values ps cs xs room = read_back next ids values ps cs xs room

pub one_slot_one_part : OneSlotOnePart
one_slot_one_part l values possible long p x has = read_out l values possible long p x has
