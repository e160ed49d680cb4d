-- Reading a page never ends with nothing read: it ends at a place, or is refused. Assumes nothing.
use mathlib.Core.Path.{◌≡◌, refl}
use mathlib.Core.Bool.{Bool, true, false}
use mathlib.Core.List.{List}
use Prim.Native.Nat.{ℕ, zero, suc}
use lib.ListN.{length}
use Rattle.ground.specs.Words.{bytes}
use Rattle.refusal.specs.declared.Refusal.{Refusal}
use Rattle.text.specs.Text.{or_stand, due, refused_at, ws_on, word_on, byte_on, newline_on}
use Rattle.text.specs.declared.Stand.{Stand}
use Rattle.text.specs.declared.Stand.TheVariants.{At, Nothing, Refused}
use Rattle.text.proofs.Laws.{from_of}
use Rattle.forms.specs.Forms.{Lines, line_on}
use Rattle.forms.specs.Section.{rest_of, lines_on}
use Rattle.forms.proofs.Begin.{line_refused}
use Rattle.reader.specs.Page.{heading_on, opt_newline_on, problem_of}

-- a place or a refusal
abbrev Some : Stand → Type 0
Some (At n) = Unit {0}
Some Nothing = ⊥
Some (Refused why) = Unit {0}

-- what is read, or else something that is there
either_some : (t u : Stand) → Some u → Some (or_stand t t u)
either_some (At n) u h = tt
either_some Nothing u h = h
either_some (Refused why) u h = tt

-- what is due behind a stand is read, or refused there; a refusal is handed on
due_some : (f : Stand → Stand) (number : ℕ) → ((why : Refusal) → f (Refused why) ≡ Refused why) → (t : Stand) → Some t → Some (due t (f t) number)
due_some f number e (At p) h = either_some (f (At p)) (refused_at number p) tt
due_some f number e Nothing h = absurd h
due_some f number e (Refused why) h = rw (e why) tt

module _ (s : List ℕ) where
  rest_some : (m : ℕ) (g : Bool) (at : ℕ) → Some (rest_of m g s at).then
  unfolding rest_of
  rest_some zero g at = tt
  rest_some (suc m) g at =
      let l = line_on g s (newline_on s (At at)) in
      from_of (λ (x : Lines). Some x.then) l.then _ _ (either_some l.then (At at) tt) (λ next e. rest_some m g next)

  lines_some : (g : Bool) (number : ℕ) (t : Stand) → Some t → Some (lines_on g s t number).then
  unfolding lines_on
  lines_some g number t h =
      from_of (λ (x : Lines). Some x.then) (due t (line_on g s t).then number) _ _
      (due_some (λ u. (line_on g s u).then) number (line_refused s g) t h) (λ next e. rest_some (length s) g next)

  pub never_nothing : Some (problem_of s).then
  unfolding problem_of opt_newline_on heading_on byte_on word_on ws_on
  never_nothing =
      let top = due (At 0) (heading_on s (At 0) (bytes "constraints")) 3 in
      let is = (lines_on false s top 4).then in
      let gap = due is (newline_on s (newline_on s is)) 5 in
      let next = due gap (heading_on s (ws_on s gap) (bytes "guesses")) 6 in
      let gs = (lines_on true s next 7).then in
      let some_is = lines_some false 4 top (either_some (heading_on s (At 0) (bytes "constraints")) (refused_at 3 0) tt) in
      let some-gap = due_some (λ u. newline_on s (newline_on s u)) 5 (λ why. refl) is some_is in
      let some_next = due_some (λ u. heading_on s (ws_on s u) (bytes "guesses")) 6 (λ why. refl) gap some-gap in
      from_of Some (opt_newline_on s gs) (opt_newline_on s gs) _ (either_some (newline_on s gs) gs (lines_some true 7 next some_next)) (λ n e. tt)
