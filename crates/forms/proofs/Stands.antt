-- Three things that every form keeps: reading stands at no place where it stood at none; it stands inside the text, and never goes back; and where
-- nothing was read, nothing is read. Assumes nothing.
use mathlib.Core.Path.{◌≡◌, refl}
use mathlib.Core.List.{List, []}
use Prim.Native.Nat.{ℕ}
use Rattle.text.specs.Text.{due}
use Rattle.text.specs.declared.Stand.{Stand}
use Rattle.text.specs.declared.Stand.TheVariants.{At, Nothing}
use Rattle.text.proofs.Laws.{handed, Reached, here, from_of, either_of}
use Rattle.text.proofs.Within.{Within, within_of}
use Rattle.record.specs.declared.Record.{Record}
use Rattle.forms.specs.Forms.{line_then, no_line}
use Rattle.forms.proofs.Kept.{Kept, kept_of}

-- ---- a place

-- u is a place only where t is one
pub record Behind (t u : Stand) : Type 0 where
  pub back : Reached u → Reached t

pub same : (t : Stand) → Behind t t
same t = record { back = λ h. h }

pub kept_behind : (s : List ℕ) (t : Stand) → Kept s (Behind t)
kept_behind s t =
    kept_of (record { back = λ h. absurd h.is })
    (λ X then u rest read a f g. from_of (λ x. Behind t (then x)) u rest read f (λ n e. record { back = λ h. g.back (rw e (here n)) }))

-- what is due at a place stands at one only where it was read
pub due_behind : {t : Stand} (before read : Stand) (number : ℕ) → Behind t read → Behind t (due before read number)
due_behind {t} before read number f =
    either_of (Behind t) read _ _ f (from_of (Behind t) before _ _ (record { back = λ h. absurd h.is }) (λ n e. record { back = λ h. absurd h.is }))

-- ---- inside the text

-- reading stands within p, if at a place
pub record In (s : List ℕ) (p : ℕ) (t : Stand) : Type 0 where
  pub is : Within s p t

pub kept_in : (s : List ℕ) (p : ℕ) → Kept s (In s p)
kept_in s p = kept_of (record { is = tt }) (λ X then u rest read a f g. record { is = within_of s p then u rest read a f.is g.is })

-- ---- nothing read

pub kept_nothing : (s : List ℕ) → Kept s (λ (t : Stand). t ≡ Nothing)
kept_nothing s = kept_of refl (λ X then u rest read a f e. rw e f)

-- ---- lines by their ends

pub halted : (t : Stand) (rs : List Record) → ((n : ℕ) → t ≡ At n → ⊥) → line_then rs t ≡ no_line t
halted t rs h = rw (← handed t [] (λ next. rs) h)
