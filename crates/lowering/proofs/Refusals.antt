-- Lowering is refused with a number at a place exactly if that is the first of 30 to 38 that holds, at its lowest place: the check and what is lacking,
-- one behind the other, are one search through the one order. Assumes nothing.
use Rattle.std.specs.Prelude.{Result, Err}
use mathlib.Core.Path.{◌≡◌, refl, ap, ◌∙◌, sym}
use mathlib.Core.Logic.{◌↔◌}
use mathlib.Core.Bool.{Bool, true, false, ◌&&◌}
use mathlib.Core.Option.{Option, none, some}
use mathlib.Core.List.{List, [], ◌∷◌, ◌++◌, map}
use Prim.Native.Nat.{ℕ, zero, suc, ◌+◌}
use native.Mathlib.Omega.{arith}
use lib.Dec.{eqb}
use lib.ListN.{length}
use borrow.Author.Tests.{ne_eqb}
use Rattle.refusal.specs.declared.Refusal.{Refusal}
use Rattle.refusal.specs.Refusal.{refusal}
use Rattle.refusal.specs.First.{Answer, passed, refused, lowest, tell, first, once, answered, Told, NoneHolds}
use Rattle.refusal.proofs.Once.{answered_good}
use Rattle.refusal.proofs.Says.{Says, says_and, says_eq}
use Rattle.refusal.proofs.Right.{refused_iff, passed_iff}
use Rattle.record.specs.Entry.{Entry}
use Rattle.record.specs.Formed.{places}
use Rattle.drawing.specs.Faults.{Fault, order, number_of}
use Rattle.drawing.specs.Check.{test, check_of}
use Rattle.drawing.proofs.Agree.{agree}
use Rattle.lowering.specs.declared.Lowered.{Lowered}
use Rattle.lowering.specs.Slots.{slots, layout_of}
use Rattle.lowering.specs.Rows.{rules_of}
use Rattle.lowering.specs.Lower.{Room, Lack, few_ids, short_slices, short_rows, lack_order, lack_number, lacking, lack_of, lower_of, good_lowering}
use Rattle.lowering.specs.Refusals.{Cause, fault, lack, causes, cause_number, Causes}
use Rattle.lowering.proofs.answer.Lacking.{says_lacking}

-- ---- one answer behind another

-- an answer as a cause, or else what comes behind it
abbrev behind : {F : Type 0} → (F → Cause) → Answer F → Answer Cause → Answer Cause
behind g (refused f i) rest = refused (g f) i
behind g passed rest = rest

in_turn : (a : Answer Fault) (b : Answer Lack) (last : Result Lowered Refusal)
    → answered number_of Err a (answered lack_number Err b last) ≡ answered cause_number Err (behind fault a (behind lack b passed)) last
unfolding answered
in_turn (refused f i) b last = refl
in_turn passed (refused l i) last = refl
in_turn passed passed last = refl

-- ---- one search

-- a search through one list and then another
module _ {F : Type 0} (g : F → Cause) (tests : Cause → ℕ → Bool) (n : ℕ) where
  first_behind : (fs : List F) (rest : List Cause) → first (map g fs ++ rest) tests n ≡ behind g (first fs (λ f. tests (g f)) n) (first rest tests n)
  unfolding first
  first_behind [] rest = refl
  first_behind (f ∷ fs) rest = rw (first_behind fs rest) (go (lowest n (tests (g f))) (first fs (λ f. tests (g f)) n))
    where
      go : (o : Option ℕ) (a : Answer F) → tell (g f) o (behind g a (first rest tests n)) ≡ behind g (tell f o a) (first rest tests n)
      go (some i) a = refl
      go none a = refl

-- what holds at 0 alone is looked for there
at_zero : (n : ℕ) (b : Bool) → lowest (suc n) (λ i. eqb i 0 && b) ≡ lowest 1 (λ i. b)
unfolding lowest
at_zero zero b = refl
at_zero (suc n) true = rw (at_zero n true) refl
at_zero (suc n) false = rw (at_zero n false, ne_eqb (suc n) 0 (λ e. omega arith)) refl

module _ (es : List Entry) (room : Room) where
  -- what a drawing is lowered to where nothing is refused
  abbrev pub good : Result Lowered Refusal
  good = good_lowering (layout_of es) (room.next + length (slots es)) (length (rules_of es))

  abbrev tests : Cause → ℕ → Bool
  tests (fault f) i = test es f i
  tests (lack l) i = eqb i 0 && lacking es room l

  says : (c : Cause) (i : ℕ) → Says (tests c i) (Causes es room c i)
  says (fault f) i = agree es f i
  says (lack l) i = says_and (says_eq i 0) (says_lacking es room l i)

  lower_is : lower_of es room ≡ answered cause_number Err (first causes tests (places es)) good
  unfolding lower_of check_of lack_of once first
  lower_is =
      in_turn (check_of es) (lack_of es room) good
      ∙ rw (first_behind fault tests (places es) order (map lack lack_order), first_behind lack tests (places es) lack_order [])
      (rw (at_zero _ (lacking es room few_ids), at_zero _ (lacking es room short_slices), at_zero _ (lacking es room short_rows)) refl)

  -- ---- in words

  -- the cause behind a number
  because : (a : Answer Cause) (number place : ℕ) → answered cause_number Err a good ≡ Err (refusal number place) → (c : Cause) × (cause_number c ≡ number) × (a ≡ refused c place)
  unfolding answered
  because (refused c i) number place e =
      let same : refusal (cause_number c) i ≡ refusal number place = cc in
      (c, ap (λ (r : Refusal). r.number) same, ap (λ (r : Refusal). refused c r.place) same)
  because passed number place e = let z : ◌≡◌ {A = ℕ} 0 1 = cc in absurd (omega arith)

  -- a number is told at a place exactly if it is that of the first cause of the order that holds anywhere, and the place is the lowest where it holds
  pub lower_refused_iff : (number place : ℕ) → (lower_of es room ≡ Err (refusal number place)) ↔ ((c : Cause) × (cause_number c ≡ number) × Told (Causes es room) (places es) causes c place)
  unfolding answered
  lower_refused_iff number place = (
    λ e. let (c, n, w) = because _ number place (sym lower_is ∙ e) in (c, n, (refused_iff tests (Causes es room) says (places es) causes c place).0 w),
    λ w. lower_is ∙ rw ((refused_iff tests (Causes es room) says (places es) causes w.0 place).1 w.2, w.1) refl,
  )

  -- and a drawing is lowered exactly if none of them holds
  pub lower_good_iff : (lower_of es room ≡ good) ↔ NoneHolds (Causes es room) (places es) causes
  unfolding answered
  lower_good_iff = (
    λ e. (passed_iff tests (Causes es room) says (places es) causes).0
        (answered_good cause_number Err (first causes tests (places es)) good good (λ r q. let z : ◌≡◌ {A = ℕ} 0 1 = cc in omega arith) (sym lower_is ∙ e)),
    λ n. lower_is ∙ rw ((passed_iff tests (Causes es room) says (places es) causes).1 n) refl,
  )
