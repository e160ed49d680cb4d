-- A number or an expression that is read has bits that fit 64 bits, and reading it never goes back and never leaves the text. Assumes nothing.
use mathlib.Core.Path.{◌≡◌, refl}
use mathlib.Core.Bool.{Bool, false}
use mathlib.Core.List.{List}
use Prim.Native.Nat.{ℕ, zero, suc, ◌+◌, ◌^◌, ◌<◌}
use native.Mathlib.Omega.{arith}
use lib.Dec.{leb, lit<}
use lib.ListN.{get_or}
use Rattle.ground.specs.Words.{bytes}
use Rattle.text.specs.Text.{refused_at, word_at, byte_on}
use Rattle.text.specs.declared.Stand.{Stand}
use Rattle.text.specs.declared.Stand.TheVariants.{At}
use Rattle.text.proofs.Laws.{from_of, cond_of}
use Rattle.text.proofs.Within.{Within, earlier, within_of, run_to_within, word_at_within, byte_within}
use Rattle.std.specs.Prelude.{Option, Some, None}
use Rattle.decimal.proofs.Small.{Small, carried_small}
use Rattle.root.proofs.Small.{root_small}
use Rattle.number.specs.Number.{is_digit, is_sign, is_point, is_exponent, is_word, step_over, digits_to, part_at, end_at, no_digit, exponent_at, scale_of, carried_by, no_number, valued, scaled, number_at, number_on, depth, closed, expr_at, expr_on}
use Rattle.number.specs.declared.Power.{Power}
use Rattle.number.specs.declared.Number.{Number}
use Rattle.number.proofs.Places.{inside}

module _ (s : List ℕ) where
  -- what was read from a place on
  pub record Read (p : ℕ) (n : Number) : Type 0 where
    pub fits : n.bits < 2 ^ 64
    pub within : Within s p n.then

  unread : {p : ℕ} (t : Stand) → Within s p t → Read p (no_number t)
  unread t h = record { fits = lit< tt; within = h }

  -- the place behind an exponent
  abbrev Reaches : ℕ → Option Power → Type 0
  Reaches p (Some power) = Within s p (At power.next)
  Reaches p None = Unit {0}

  valued_read : {p : ℕ} (at next : ℕ) (c : Option ℕ) → Small c → Within s p (At next) → Read p (valued at next c)
  valued_read at next (Some b) h k = record { fits = h; within = k }
  valued_read at next None h k = unread (refused_at 8 at) tt

  scaled_read : {p : ℕ} (at : ℕ) (negative : Bool) (m count : ℕ) (e : Option Power) → Reaches p e → Read p (scaled at negative m count e)
  scaled_read at negative m count (Some power) h =
      valued_read at power.next (carried_by m negative power.negative power.size count) (carried_small m (scale_of power.negative power.size count) negative) h
  scaled_read at negative m count None h = unread (refused_at 8 at) tt

  step_within : (test : ℕ → Bool) (at : ℕ) → test 0 ≡ false → Within s at (At (step_over test s at))
  unfolding step_over
  step_within test at z =
      cond_of (λ n. Within s at (At n)) (test (get_or s at 0)) (at + 1) at (λ e. (omega arith, omega (arith, inside test s at z e))) (λ e. (omega arith, omega arith))

  exponent_within : (p at : ℕ) → Within s p (At at) → Reaches p (exponent_at s at)
  unfolding exponent_at
  exponent_within p at h =
      let first = step_over is_sign s (at + 1) in
      cond_of (Reaches p) (is_exponent (get_or s at 0)) _ _
      (λ e. cond_of (Reaches p) (leb (digits_to s first) first) None _ (λ f. tt)
      (λ f.
      let letter : Within s p (At (at + 1)) = (omega arith, omega (arith, inside is_exponent s at refl e)) in
      earlier s (At _) (earlier s (At first) letter (step_within is_sign (at + 1) refl)) (run_to_within is_digit s first)))
      (λ e. h)

  pub number_at_read : (at : ℕ) → Read at (number_at s at)
  unfolding number_at end_at part_at
  number_at_read at =
      let first = step_over is_sign s at in
      let part = step_over is_point s (digits_to s first) in
      let whole = earlier s (At (digits_to s first)) (step_within is_sign at refl) (run_to_within is_digit s first) in
      cond_of (Read at) (is_word (get_or s first 0)) _ _ (λ e. unread _ tt)
      (λ e. cond_of (Read at) (no_digit s first) _ _ (λ f. unread _ tt)
      (λ f. scaled_read at _ _ _ (exponent_at s (digits_to s part)) (exponent_within at (digits_to s part)
      (earlier s (At (digits_to s part)) (earlier s (At part) whole (step_within is_point (digits_to s first) refl)) (run_to_within is_digit s part)))))

  closed_read : {p : ℕ} (inner : Number) → Read p inner → Read p (closed s inner)
  unfolding closed
  closed_read {p} inner r =
      let t = byte_on s inner.then 41 in
      let i = byte_within s p 41 inner.then r.within in
      from_of (Read p) t _ _ (unread t i) (λ n e. record { fits = root_small inner.bits r.fits; within = rw e at i })

  pub expr_at_read : (left at : ℕ) → Read at (expr_at left s at)
  unfolding expr_at
  expr_at_read zero at = from_of (Read at) (word_at s (bytes "sqrt(") at) _ _ (number_at_read at) (λ n e. unread (refused_at 9 at) tt)
  expr_at_read (suc left) at =
      from_of (Read at) (word_at s (bytes "sqrt(") at) _ _ (number_at_read at)
      (λ n e.
      let r = expr_at_read left n in
      let i : Within s at (At n) = rw e at (word_at_within s (bytes "sqrt(") at) in
      closed_read (expr_at left s n) (record { fits = r.fits; within = earlier s (expr_at left s n).then i r.within }))

  -- ---- where reading stands

  pub number_fits : (t : Stand) → (number_on s t).bits < 2 ^ 64
  unfolding number_on
  number_fits t = from_of (λ (n : Number). n.bits < 2 ^ 64) t _ _ (lit< tt) (λ n e. (number_at_read n).fits)

  pub expr_fits : (t : Stand) → (expr_on s t).bits < 2 ^ 64
  unfolding expr_on
  expr_fits t = from_of (λ (n : Number). n.bits < 2 ^ 64) t _ _ (lit< tt) (λ n e. (expr_at_read depth n).fits)

  pub number_within : (p : ℕ) (t : Stand) → Within s p t → Within s p (number_on s t).then
  unfolding number_on
  number_within p t h = within_of s p (λ (n : Number). n.then) t (no_number t) _ (λ n. (number_at_read n).within) h h

  pub expr_within : (p : ℕ) (t : Stand) → Within s p t → Within s p (expr_on s t).then
  unfolding expr_on
  expr_within p t h = within_of s p (λ (n : Number). n.then) t (no_number t) _ (λ n. (expr_at_read depth n).within) h h
