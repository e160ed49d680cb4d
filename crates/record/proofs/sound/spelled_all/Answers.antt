-- `record::sound::spelled_all` meets its contract: the loop's invariant is that each label passed is spelled as one. Assumes nothing.
use mathlib.Core.Path.{◌≡◌, sym, ap, ◌∙◌}
use mathlib.Core.Bool.{Bool}
use mathlib.Core.List.{List}
use Prim.Native.Nat.{ℕ, ◌+◌, ◌*◌, ◌≤◌, ◌<◌}
use native.Mathlib.Numerals.{add-one}
use native.Mathlib.Omega.{arith}
use Rattle.refusal.proofs.Says.{says_so, says_all, refuted, fails}
use Rattle.little.specs.Little.{byte}
use Rattle.record.specs.declared.View.{View}
use Rattle.record.specs.Decode.{view_at, decode}
use Rattle.record.specs.Entry.{part, named}
use Rattle.record.specs.Sound.{spelled_test}
use Rattle.record.specs.Steps.{Shaped}
use Rattle.record.proofs.Records.{few_count, view_here, inside_here}
use Rattle.record.proofs.sound.spelled_all.Goals as goal

-- the label that is read is that of the place
label_is : (text b : List ℕ) (q : ℕ) (dotted answer : Bool) (v : View) → Shaped text b → q < byte b 3 → v ≡ view_at b (4 + q * 4)
    → answer ≡ spelled_test dotted (part text v.start v.len) → answer ≡ spelled_test dotted (named text (decode b) q)
unfolding decode
label_is text b q dotted answer v s h e a = a ∙ ap (λ (w : View). spelled_test dotted (part text w.start w.len)) (e ∙ view_here text b s q h)

pub view_at-requires : goal.view_at-requires
unfolding decode
view_at-requires c =
    let few : byte c.args.b.now 3 ≤ 4 = few_count _ _ c.requires in
    omega (arith, few)

pub spelled_at-requires : goal.spelled_at-requires
unfolding decode
spelled_at-requires c = rw c.view_at.ensures (inside_here _ _ c.requires c.loop-q.q c.loop-q-test.true)

pub returns-then-not-spelled_at : goal.returns-then-not-spelled_at
unfolding decode
returns-then-not-spelled_at c =
    let a = c.args in let is = label_is _ _ _ _ _ _ c.requires c.loop-q-test.true c.view_at.ensures c.spelled_at.ensures in
    sym (refuted (says_all _ _ (λ q. says_so) (byte a.b.now 3)) (λ w. fails says_so (sym is ∙ c.if-not-spelled_at.true) (w c.loop-q.q c.loop-q-test.true)))

pub loop-q-preserved : goal.loop-q-preserved
unfolding decode
loop-q-preserved c =
    let is = label_is _ _ _ _ _ _ c.requires c.loop-q-test.true c.view_at.ensures c.spelled_at.ensures in
    rw (add-one, c.loop-q.invariant) (sym is ∙ c.if-not-spelled_at.false)

pub returns : goal.returns
unfolding decode
returns c =
    let n : c.loop-q.q ≡ byte c.args.b.now 3 = omega arith in
    sym (rw n at c.loop-q.invariant)
