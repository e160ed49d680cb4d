-- What the check tells by the tables that were resolved: they are the drawing's, so the numbers tell what the labels tell; and a list that is laid
-- out, of which nothing is told, is well formed. Assumes nothing.
use mathlib.Core.Path.{◌≡◌, refl, sym, ap, ◌∙◌}
use mathlib.Core.Bool.{Bool, true, false, not, ◌||◌, cond, true≢false}
use mathlib.Core.List.{List}
use Prim.Native.Nat.{ℕ}
use native.Mathlib.Omega.{arith}
use lib.Dec.{ltb}
use borrow.Author.Tests.{le-ltb}
use Rattle.refusal.specs.Refusal.{refusal}
use Rattle.refusal.specs.First.{Answer, passed, refused, first}
use Rattle.record.specs.Record.{most_records}
use Rattle.record.specs.Decode.{count_of}
use Rattle.record.specs.Laid.{LaidOut, laid_out}
use Rattle.record.specs.Formed.{entries}
use Rattle.record.proofs.Laid.{says_laid_out, formed_laid}
use Rattle.names.specs.Labels.{drawn}
use Rattle.names.specs.Names.{names_of, guesses_of, Resolves}
use Rattle.names.proofs.Drawn.{drawn_length, drawn_kind}
use Rattle.drawing.specs.Faults.{Fault, malformed, behind30, number_of}
use Rattle.drawing.specs.Check.{test, checked_of}
use Rattle.drawing.specs.Numbers.{lent_numbers, own_numbers, test_by}
use Rattle.drawing.specs.Judged.{tells_of, judged_of}
use Rattle.drawing.proofs.Numbers.{by_numbers}
use Rattle.drawing.proofs.Order.{told_behind, told_none, told_right}
use Rattle.drawing.proofs.Spelled.{declared_pointless, then_formed}

module _ (text bs was_names was_guesses : List ℕ) (answer : Bool) (names guesses : List ℕ) (r : Resolves text bs was_names was_guesses answer names guesses) where
  -- records that are laid out: the tables are the drawing's
  module _ (yes : laid_out text bs ≡ true) where
    laid : LaidOut text bs
    laid = (says_laid_out text bs).so yes

    pub names_so : names ≡ names_of (drawn text bs)
    names_so = r.names_are ∙ rw yes refl

    pub guesses_so : guesses ≡ guesses_of (drawn text bs)
    guesses_so = r.guesses_are ∙ rw yes refl

    own : lent_numbers bs names guesses ≡ own_numbers (drawn text bs)
    own j = record { count = sym (drawn_length text bs) j; kinds = λ i. sym (drawn_kind text bs i) j; names = names_so j; guesses = guesses_so j }

    -- the numbers tell what the labels tell
    labels_tell : first behind30 (test_by (lent_numbers bs names guesses)) (count_of bs) ≡ first behind30 (test (drawn text bs)) (count_of bs)
    labels_tell =
        let n = drawn_length text bs in
        (λ j. first behind30 (test_by (own j)) (sym n j)) ∙ sym (by_numbers (drawn text bs) (omega (arith, n, laid.few)) (declared_pointless text bs laid)) ∙ ap (first behind30 (test (drawn text bs))) n

    -- where they tell nothing the list is well formed
    told : (a : Answer Fault) → first behind30 (test (drawn text bs)) (count_of bs) ≡ a → tells_of text bs a ≡ checked_of (entries text bs)
    told passed e = told_none text bs (then_formed text bs laid (rw (drawn_length text bs) e)) e
    told (refused f i) e = told_right text bs (refusal (number_of f) i) (λ w. told_behind text bs w f i e)

  -- so the answer is the check's
  pub judged : judged_of text bs answer names guesses ≡ checked_of (entries text bs)
  unfolding judged_of
  judged = go (laid_out text bs) refl
    where
      go : (t : Bool) → laid_out text bs ≡ t
          → tells_of text bs (cond (not answer || ltb most_records (count_of bs)) (refused malformed 0) (first behind30 (test_by (lent_numbers bs names guesses)) (count_of bs))) ≡ checked_of (entries text bs)
      go true e = rw (r.told ∙ e, le-ltb most_records (count_of bs) (laid e).few) (ap (tells_of text bs) (labels_tell e) ∙ told e _ refl)
      go false e = rw (r.told ∙ e) (told_right text bs (refusal 30 0) (λ w. absurd (true≢false (sym ((says_laid_out text bs).back (formed_laid text bs w)) ∙ e))))
