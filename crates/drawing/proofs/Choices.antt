-- Labels that are what their places need: each is one of the choices there, and where 32 and 33 do not hold each label of a rule or a guess is so.
-- Assumes nothing.
use mathlib.Core.Path.{◌≡◌}
use mathlib.Core.Logic.{◌⊎◌, inl, inr}
use mathlib.Core.Bool.{Bool, true}
use mathlib.Core.List.{List, [], ◌∷◌}
use Prim.Native.Nat.{ℕ, zero, suc, ◌<◌}
use native.Mathlib.Omega.{arith}
use Rattle.ground.proofs.Lists.{all, and_first, and_second}
use Rattle.refusal.proofs.Says.{stable}
use Rattle.kinds.specs.Kinds.{kind_at, Rule, Guess}
use Rattle.kinds.proofs.Table.{guess_label}
use Rattle.record.specs.Entry.{Label, Entry, entry_at, label_no}
use Rattle.names.specs.Labels.{kind_no, name_no}
use Rattle.drawing.specs.Needs.{Choice, Need, need_at}
use Rattle.drawing.specs.Faults.{Named, Meets, WrongLabel, NoSuchPart}
use Rattle.drawing.proofs.Agree.{says_meets}

-- one of the labels that a place needs is met
pub choice : (es : List Entry) (l : Label) (p : Choice → Bool) (n : Need) → all p n ≡ true → Meets es n l → (c : Choice) × (p c ≡ true) × Named es c.shape c.suffix l
choice es l p [] a m = absurd m
choice es l p (c ∷ cs) a (inl m) = (c, and_first (p c) (all p cs) a, m)
choice es l p (c ∷ cs) a (inr m) = choice es l p cs (and_second (p c) (all p cs) a) m

-- where a record has neither fault, each of its labels is met
pub met_at : (es : List Entry) (i : ℕ) → (WrongLabel es i → ⊥) → (NoSuchPart es i → ⊥) → Rule (kind_no es i) ⊎ Guess (kind_no es i) → (q : ℕ) → q < (kind_at (kind_no es i)).labels
    → Meets es (need_at (kind_no es i) q) (label_no (entry_at es i) q)
met_at es i right named (inl r) q g = stable (says_meets es (need_at (kind_no es i) q) (label_no (entry_at es i) q)) (λ n. right (r, (q, g, n)))
met_at es i right named (inr r) zero g = stable (says_meets es (need_at (kind_no es i) 0) (name_no es i)) (λ n. named (r, n))
met_at es i right named (inr r) (suc q) g = absurd (omega (arith, g, guess_label (kind_no es i) r))
