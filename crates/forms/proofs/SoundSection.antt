-- Each record of a section is sound over the text, a line has two at most, and a section that is read to a place has one: by its lines, one
-- behind another. Assumes nothing.
use mathlib.Core.Bool.{Bool}
use mathlib.Core.List.{List}
use Prim.Native.Nat.{ℕ, zero, suc, ◌*◌, ◌≤◌, ◌<◌}
use native.Mathlib.Omega.{arith}
use lib.ListN.{length, length-append}
use Rattle.ground.proofs.Pieces.{Each, each_append}
use Rattle.text.specs.Text.{from, due, newline_on}
use Rattle.text.specs.declared.Stand.{Stand}
use Rattle.text.specs.declared.Stand.TheVariants.{At, Nothing, Refused}
use Rattle.text.proofs.Laws.{Reached, here, from_of}
use Rattle.forms.specs.Forms.{Lines, no_line, line_on}
use Rattle.forms.specs.Section.{followed_by, rest_of, lines_on}
use Rattle.forms.proofs.Kept.{line_kept}
use Rattle.forms.proofs.Stands.{Behind, same, kept_behind, due_behind}
use Rattle.forms.proofs.SoundLines.{Proper, Lined, line_lined}

module _ (s : List ℕ) (guess : Bool) where
  -- the records of so many lines
  pub record Sound (most : ℕ) (l : Lines) : Type 0 where
    pub proper : Each (Proper s guess) l.records
    pub few : length l.records ≤ 2 * most

  none_sound : (most : ℕ) (t : Stand) → Sound most (no_line t)
  none_sound most t = record { proper = tt; few = omega arith }

  one_more : (most : ℕ) (l rest : Lines) → Lined s guess l → Sound most rest → Sound (suc most) (followed_by l.records rest)
  one_more most l rest f g =
      let n = length-append l.records rest.records in
      record { proper = each_append (Proper s guess) l.records rest.records f.proper g.proper; few = omega arith }

  rest_sound : (most at : ℕ) → Sound most (rest_of most guess s at)
  unfolding rest_of
  rest_sound zero at = none_sound 0 (At at)
  rest_sound (suc most) at =
      from_of (Sound (suc most)) (line_on guess s (newline_on s (At at))).then _ _ (none_sound (suc most) _)
      (λ next e. one_more most _ _ (line_lined s guess (newline_on s (At at))) (rest_sound most next))

  -- the first line is due, so where reading stands at a place behind the lines it stood at one before them, and there is a record
  pub record Due (t : Stand) (l : Lines) : Type 0 where
    pub sound : Sound (suc (length s)) l
    pub behind : Behind t l.then
    pub some : Reached l.then → 0 < length l.records

  unread_due : (t u : Stand) → (Reached u → ⊥) → Due t (no_line u)
  unread_due t u f = record { sound = none_sound _ u; behind = record { back = λ h. absurd (f h) }; some = λ h. absurd (f h) }

  pub lines_due : (t : Stand) (number : ℕ) → Due t (lines_on guess s t number)
  unfolding lines_on
  lines_due t number = go (due t (line_on guess s t).then number) (due_behind t (line_on guess s t).then number (same _))
    where
      go : (u : Stand) → Behind (line_on guess s t).then u → Due t (from u (no_line u) (λ next. followed_by (line_on guess s t).records (rest_of (length s) guess s next)))
      go (At next) b =
          let l = line_on guess s t in
          let f = line_lined s guess t in
          let k = b.back (here next) in
          let rest = rest_of (length s) guess s next in
          record {
            sound = one_more (length s) l rest f (rest_sound (length s) next);
            behind = record { back = λ h. (line_kept (kept_behind s t) guess (same t)).back k };
            some = λ h. omega (arith, f.some k, length-append l.records rest.records);
          }
      go Nothing b = unread_due t Nothing (λ h. h.is)
      go (Refused why) b = unread_due t (Refused why) (λ h. h.is)
