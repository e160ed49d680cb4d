-- Every record that a reading writes fits its bytes, so that it comes back whole from them: its labels lie in a text that is not too
-- long, and what its kind has no bytes for is 0. Assumes nothing.
use mathlib.Core.Path.{◌≡◌, refl, sym, ◌∙◌}
use mathlib.Core.Bool.{Bool, not, cond}
use mathlib.Core.List.{List}
use Prim.Native.Nat.{ℕ, ◌≤◌, ◌<◌}
use native.Mathlib.Omega.{arith}
use native.Mathlib.Decide.{dec_lt}
use lib.Dec.{leb, eqb}
use lib.ListN.{length, get_or}
use Rattle.ground.proofs.Lists.{get_or_inside}
use Rattle.refusal.proofs.Says.{says_so, says_not, says_eq, says_le, says_cond, says_all}
use Rattle.kinds.specs.Kinds.{kinds, kind_at, pair}
use Rattle.record.specs.Record.{longest_text, first_guess, encode_all}
use Rattle.record.specs.Decode.{Fits, no_record, decode_at}
use Rattle.record.specs.Entry.{named, entry_of}
use Rattle.record.specs.declared.Record.{Record}
use Rattle.record.proofs.Back.{decode_all}
use Rattle.ground.proofs.UpTo.{length_up_to}
use Rattle.forms.proofs.SoundLines.{Proper}
use Rattle.reader.specs.Page.{records_in}
use Rattle.reader.proofs.SoundPage.{record_at}

-- a guess has one label, and an instruction no pair: one computed test
abbrev shaped : ℕ → Bool
shaped k = cond (leb first_guess k) (eqb (kind_at k).labels 1) (not (eqb (kind_at k).number pair))

module _ (s : List ℕ) (short : length s ≤ longest_text) (guess : Bool) (r : Record) (p : Proper s guess r) where
  shape : (first_guess ≤ r.kind → r.count ≡ 1) × ((first_guess ≤ r.kind → ⊥) → (kind_at r.kind).number ≡ pair → ⊥)
  unfolding entry_of
  shape =
      let n = length_up_to r.count (named s r) in
      let w = (says_cond (says_le first_guess r.kind) (says_eq (kind_at r.kind).labels 1) (says_not (says_eq (kind_at r.kind).number pair))
      ).so ((says_all shaped _ (λ k. says_so) (length kinds)).so refl r.kind p.sound.known.1) in
      (λ g. sym n ∙ p.sound.count ∙ w.0 g, w.1)

  -- a place that its form does not have lies behind the one label of a guess
  proper_fits : Fits r
  unfolding entry_of
  proper_fits =
      record {
        places = p.places;
        short = λ q h. elim (dec_lt q r.count) [
          | yes a ↦ (let e = (p.placed q h).used a in record { start_fits = omega arith; len_fits = omega arith })
          | no a ↦ rw ((p.placed q h).unused (omega (arith, a))) (record { start_fits = omega arith; len_fits = omega arith })
        ];
        absent = λ g q h b. (p.placed q h).unused (omega (arith, shape.0 g));
        x_fits = p.x_fits;
        y_fits = p.y_fits;
        no_y = λ h. p.sound.no_y (shape.1 (λ g. omega (arith, g, h)));
      }

-- each record of a page that is not too long fits its bytes
pub written_fits : (s : List ℕ) → length s ≤ longest_text → (d : Record) (i : ℕ) → i < length (records_in s) → Fits (get_or (records_in s) i d)
written_fits s h d i l = rw (get_or_inside (records_in s) i d no_record l) (proper_fits s h _ (get_or (records_in s) i no_record) (record_at s i l))

-- and comes back whole from them
pub read_back : (s : List ℕ) → length s ≤ longest_text → (i : ℕ) → i < length (records_in s) → decode_at (encode_all (records_in s)) i ≡ get_or (records_in s) i no_record
read_back s h i l = decode_all (records_in s) i l (written_fits s h no_record i l)
