-- A label that was read lies inside the text and is spelled as a label: each byte of a run passes, and a point parts two runs. Assumes nothing.
use mathlib.Core.Path.{◌≡◌, refl, sym, ap, ◌∙◌}
use mathlib.Core.Logic.{inl, inr}
use mathlib.Core.Bool.{Bool, true, false, true≢false}
use mathlib.Core.List.{List, [], ◌∷◌, ◌++◌}
use Prim.Native.Nat.{ℕ, suc, ◌+◌, ◌-◌, ◌≤◌, ◌<◌}
use native.Mathlib.Omega.{arith}
use lib.Dec.{leb, eqb}
use lib.ListN.{length, take, drop}
use lib.Seq.{take_at, take-add, drop-drop}
use borrow.Author.Tests.{eqb-true, leb-false}
use Rattle.ground.proofs.Pieces.{each_at}
use Rattle.text.specs.Text.{leading, run_to, starts, is_alphanum, alphanum_to, word_at, byte_on, label_at, label_on, with_second, suffixed_on}
use Rattle.text.specs.declared.Stand.{Stand}
use Rattle.text.specs.declared.Stand.TheVariants.{At, Nothing, Refused}
use Rattle.text.specs.declared.ReadLabel.{ReadLabel}
use Rattle.text.proofs.Laws.{Reached, here, from_of, cond_of, run_each, run_split}
use Rattle.text.proofs.Within.{run_to_read}
use Rattle.record.specs.Entry.{part}
use Rattle.record.specs.Sound.{Plain, Spelled}

-- a label that was read
pub record Found (s : List ℕ) (dotted : Bool) (l : ReadLabel) : Type 0 where
  pub inside : l.start + l.len ≤ length s
  pub spelled : Spelled dotted (part s l.start l.len)
  pub ends : l.then ≡ At (l.start + l.len)

-- a list that starts with a byte
first_is : (b : ℕ) (l : List ℕ) → starts (b ∷ []) l ≡ true → l ≡ b ∷ drop 1 l
first_is b [] e = absurd (true≢false (sym e))
first_is b (c ∷ l) e =
    cond_of (λ (t : Bool). t ≡ true → c ∷ l ≡ b ∷ l) (eqb c b) true false (λ f g. ap (λ (x : ℕ). x ∷ l) (eqb-true c b f)) (λ f g. absurd (true≢false (sym g))) e

module _ (s : List ℕ) where
  -- the letters and digits from a place on
  run_plain : (at : ℕ) → at < alphanum_to s at → Plain (part s at (alphanum_to s at - at))
  unfolding run_to
  run_plain at h =
      let a = leading is_alphanum (drop at s) in
      let n : at + length a - at ≡ length a = omega arith in
      let e : take (length a) (drop at s) ≡ a = ap (take (length a)) (sym (run_split is_alphanum (drop at s))) ∙ take_at a _ (length a) refl in
      rw (n, e) (record { some = omega arith; each = each_at _ a 0 (run_each is_alphanum (drop at s)) })

  pub label_at_lem : (at : ℕ) → Reached (label_on s (At at)).then → ((label_on s (At at)).start ≡ at) × Found s false (label_on s (At at))
  unfolding label_on label_at
  label_at_lem at =
      cond_of (λ (l : ReadLabel). Reached l.then → (l.start ≡ at) × Found s false l) (leb (alphanum_to s at) at) _ _ (λ e h. absurd h.is)
      (λ e h.
      let l : at < alphanum_to s at = leb-false (alphanum_to s at) at e in
      let n : alphanum_to s at ≡ at + (alphanum_to s at - at) = omega arith in
      (refl, record { inside = omega (arith, run_to_read is_alphanum s at l); spelled = run_plain at l; ends = ap At n }))

  pub label_found : (t : Stand) → Reached (label_on s t).then → Found s false (label_on s t)
  unfolding label_on
  label_found (At n) h = (label_at_lem n h).1
  label_found Nothing h = absurd h.is
  label_found (Refused why) h = absurd h.is

  -- ---- two labels around a point

  pub dotted : (l : ReadLabel) → Found s false l → Found s true l
  dotted l f = record { inside = f.inside; spelled = inl f.spelled; ends = f.ends }

  -- a byte at a place
  byte_at : (p q b : ℕ) → byte_on s (At p) b ≡ At q → (q ≡ p + 1) × (drop p s ≡ b ∷ drop q s)
  unfolding byte_on word_at
  byte_at p q b =
      cond_of (λ (t : Stand). t ≡ At q → (q ≡ p + 1) × (drop p s ≡ b ∷ drop q s)) (starts (b ∷ []) (drop p s)) _ _
      (λ e g.
      let n : q ≡ p + 1 = cc in
      (n, rw n (first_is b (drop p s) e ∙ ap (λ (l : List ℕ). b ∷ l) (drop-drop 1 p s))))
      (λ e g. let z : ◌≡◌ {A = ℕ} 0 1 = cc in absurd (omega arith))

  -- the first label, the point behind it and the second label, as one part of the text
  both_found : (l : ReadLabel) → Found s false l → (q : ℕ) → byte_on s l.then 46 ≡ At q → (next : ℕ) → (label_on s (At q)).then ≡ At next
      → Found s true (record { start = l.start; len = next - l.start; then = At next })
  both_found l f q e next k =
      let m = label_on s (At q) in
      let g = label_at_lem q (rw k (here next)) in
      let b = byte_at (l.start + l.len) q 46 (rw f.ends at e) in
      let n : next ≡ m.start + m.len = place (sym k ∙ g.1.ends) in
      let long : next - l.start ≡ l.len + suc m.len = omega (arith, b.0, g.0, n) in
      let parts : part s l.start (next - l.start) ≡ part s l.start l.len ++ 46 ∷ part s m.start m.len
      = rw (long, take-add l.len (suc m.len) (drop l.start s), drop-drop l.len l.start s, b.1, g.0) in
      record {
        inside = omega (arith, g.1.inside, n, g.0, b.0);
        spelled = inr (part s l.start l.len, part s m.start m.len, parts, f.spelled, g.1.spelled);
        ends = ap At (omega (arith, b.0, g.0, n));
      }
    where
      place : {a b : ℕ} → At a ≡ At b → a ≡ b
      place e = cc

  pub suffixed_found : (l : ReadLabel) → Found s false l → Found s true (suffixed_on s l)
  unfolding suffixed_on label_on
  suffixed_found l f = onward (byte_on s l.then 46) refl
    where
      onward : (t : Stand) → byte_on s l.then 46 ≡ t → Found s true (with_second l (label_on s t))
      onward (At q) e = from_of (Found s true) (label_on s (At q)).then l _ (dotted l f) (both_found l f q e)
      onward Nothing e = dotted l f
      onward (Refused why) e = dotted l f
