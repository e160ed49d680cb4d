-- What is written of an answer, by the place that printing told. Assumes nothing.
use mathlib.Core.Path.{◌≡◌}
use mathlib.Core.Bool.{true}
use mathlib.Core.List.{List, ◌++◌}
use Prim.Native.Nat.{ℕ, ◌≤◌, ◌<◌}
use native.Mathlib.Nat.{zero-add}
use native.Mathlib.Decide.{dec_le}
use native.Mathlib.Omega.{arith}
use lib.ListN.{length, take}
use borrow.Author.Tests.{le-leb, lt-leb}
use Rattle.std.specs.Prelude.{Option, Some, None, Result, Ok, Err, OnOk}
use Rattle.std.specs.Io.KnownBytes.{Appends, Consumes, IsAtEnd}
use lib.Seq.{length-take-le}
use Rattle.ground.specs.Words.{bytes}
use Rattle.store.proofs.Laws.{written_first}
use Rattle.rail.specs.Words.{newline}
use Rattle.rail.specs.Rail.{Prints}
use Rattle.answers.specs.declared.Way.{Way}
use Rattle.answers.specs.Answers.{answer_of}
use Rattle.answers.specs.Responds.{most_read, longest_answer, sent, Responds}

module _ {d bs after : List ℕ} {end : Option ℕ} (size : length d ≡ longest_answer) (p : Prints true d (Some 0) bs end after) where
  -- an answer that was printed stands at the front
  pub whole_sent : (m : ℕ) → end ≡ Some m → sent bs ≡ take m after
  whole_sent m e = elim (dec_le (length bs) (length d)) [
    | yes h ↦
        let fits = le-leb (length bs) (length d) h in
        let told = rw (zero-add, fits) at p.told in
        let buffer = rw (zero-add, fits) at p.buffer in
        let n : m ≡ length bs = cc (told, e) in
        rw (← size, fits, buffer, n, written_first d bs)
    | no f ↦
        let told = rw (zero-add, lt-leb (length bs) (length d) (omega arith)) at p.told in
        absurd (cc (told, e))
  ]

  -- and one that was not is too long
  pub none_sent : end ≡ None → sent bs ≡ bytes "answer too long" ++ newline
  none_sent e = elim (dec_le (length bs) (length d)) [
    | yes h ↦ let told = rw (zero-add, le-leb (length bs) (length d) h) at p.told in absurd (cc (told, e))
    | no f ↦ rw (← size, lt-leb (length bs) (length d) (omega arith))
  ]

-- what was read is the page
pub responds : {way : Way} {input input_after output output_after : Option (List ℕ)} (n : ℕ) (buf : List ℕ)
    → length buf ≡ most_read → n ≤ length buf → Consumes input input_after (take n buf) → (n < length buf → IsAtEnd input_after)
    → Appends output output_after (sent (answer_of way (take n buf))) → Responds way input input_after output output_after
responds n buf size few read whole told =
    let taken = length-take-le n buf few in
    record { page = take n buf; short = omega arith; read = read; whole = λ h. whole (omega arith); told = told }

-- what holds on good, holds of what follows from it
pub on_ok : {A E P Q : Type 0} (r : Result A E) → (P → Q) → OnOk r P → OnOk r Q
on_ok (Ok x) f p = f p
on_ok (Err e) f p = p
