-- What a drawing that the check passes is like: each fault that holds nowhere is a fact of it. Assumes nothing.
use mathlib.Core.Path.{◌≡◌, refl, sym, ap, ◌∙◌}
use mathlib.Core.Logic.{◌⊎◌, inl, inr}
use mathlib.Core.Bool.{false}
use mathlib.Core.List.{List, [], ◌∷◌, ◌++◌, append-nil}
use Prim.Native.Nat.{ℕ, zero, suc, ◌<◌}
use native.Mathlib.Omega.{arith}
use lib.ListN.{length}
use Rattle.refusal.specs.First.{passed, EachBelow, SomeBelow}
use Rattle.refusal.proofs.Says.{stable}
use Rattle.kinds.specs.Kinds.{kind_at, Declaration, Rule, Guess}
use Rattle.record.specs.Entry.{Label, Entry, entry_at, label_no}
use Rattle.record.specs.Sound.{Sound}
use Rattle.record.specs.Formed.{unsound}
use Rattle.record.proofs.Agree.{says_sound}
use Rattle.names.specs.Labels.{kind_no, name_no}
use Rattle.names.specs.Cut.{stem, Pointless, part_no, KnownPart}
use Rattle.names.specs.Names.{declarer, name_for, record_by, kind_by, Clear}
use Rattle.names.proofs.Cut.{plain_pointless, part_small}
use Rattle.names.proofs.Names.{unpacked, declarer_of, name_of}
use Rattle.drawing.specs.Needs.{Shape, point, circle, arc, declaring, Part, parts, Choice, code_at, need_at}
use Rattle.drawing.specs.Faults as faults
use faults.{Meets, Guessed, AnyUnguessed, malformed, declared_twice, wrong_label, no_such_part, guessed_twice, without_guess}
use Rattle.drawing.specs.Check.{check_of}
use Rattle.drawing.proofs.Agree.{says_guessed, check_passes}
use Rattle.drawing.proofs.Choices.{choice, met_at}
use Rattle.kinds.proofs.Table.{declared_label, one_of_three}
use Rattle.drawing.proofs.Numbers.{declares, known_test, says_known_part, known_needs}
use Rattle.lowering.specs.Demand.{Declares}
use Rattle.lowering.specs.Sketch.{by_kind}
use Rattle.ground.proofs.Pieces.{Each}

-- records are sound; a label is declared once, and a part guessed once; each label of a rule or a guess is what its place needs; each part is guessed
pub record Fine (es : List Entry) : Type 0 where
  pub sound : EachBelow (length es) (λ i. Sound (entry_at es i))
  pub once : (i j : ℕ) → i < length es → j < length es → Declaration (kind_no es i) → Declaration (kind_no es j) → name_no es i ≡ name_no es j → i ≡ j
  pub met : EachBelow (length es) (λ i. Rule (kind_no es i) ⊎ Guess (kind_no es i) → EachBelow (kind_at (kind_no es i)).labels (λ q. Meets es (need_at (kind_no es i) q) (label_no (entry_at es i) q)))
  pub guess_once : (i j : ℕ) → i < length es → j < length es → Guess (kind_no es i) → Guess (kind_no es j) → name_no es i ≡ name_no es j → i ≡ j
  pub guessed_all : (i : ℕ) (s : Shape) → Declares es i s → Each (Guessed es (name_no es i)) (parts s)

-- a name that none has after another is had once
one_only : (es : List Entry) (P : ℕ → Type 0) → ((i : ℕ) → i < length es → P (kind_no es i) × SomeBelow i (λ j. P (kind_no es j) × (name_no es j ≡ name_no es i)) → ⊥)
    → (i j : ℕ) → i < length es → j < length es → P (kind_no es i) → P (kind_no es j) → name_no es i ≡ name_no es j → i ≡ j
one_only es P none i j h g a b same =
    let low : j < i → ⊥ = λ c. none i h (a, (j, c, (b, sym same))) in
    let high : i < j → ⊥ = λ c. none j g (b, (i, c, (a, same))) in
    omega (arith, low, high)

each_guessed : (es : List Entry) (l : Label) (ps : List Part) → (AnyUnguessed es l ps → ⊥) → Each (Guessed es l) ps
each_guessed es l [] f = tt
each_guessed es l (p ∷ ps) f = (stable (says_guessed es l p) (λ n. f (inl n)), each_guessed es l ps (λ u. f (inr u)))

pub fine : (es : List Entry) → check_of es ≡ passed → Fine es
fine es e =
    let none-holds = (check_passes es).0 e in
    record {
      sound = λ i h. stable (says_sound (entry_at es i)) (λ n. none-holds malformed i (omega (arith, h)) (unsound h n));
      once = one_only es Declaration (λ i h. none-holds declared_twice i (omega (arith, h)));
      met = λ i h. met_at es i (none-holds wrong_label i (omega (arith, h))) (none-holds no_such_part i (omega (arith, h)));
      guess_once = one_only es Guess (λ i h. none-holds guessed_twice i (omega (arith, h)));
      guessed_all = λ i s d. each_guessed es (name_no es i) (parts s) (λ u. none-holds without_guess i (omega (arith, d.inside)) (s, d.kind_is, u));
    }

-- ---- the kinds that declare

-- the shape that a kind declares
abbrev shape_of : ℕ → Shape
shape_of kind = by_kind kind point circle arc

-- it is the only one, and its label has no point
shape_back : (s : Shape) → (shape_of (declaring s) ≡ s) × ((kind_at (declaring s)).dotted ≡ false)
shape_back point = (refl, refl)
shape_back circle = (refl, refl)
shape_back arc = (refl, refl)

pub declaration : (s : Shape) (k : ℕ) → k ≡ declaring s → Declaration k
declaration s k e = rw e (declares s)

pub shape_of_lem : (k : ℕ) → Declaration k → (s : Shape) × (k ≡ declaring s)
shape_of_lem zero d = absurd (omega (arith, d.0))
shape_of_lem (suc zero) d = (point, refl)
shape_of_lem (suc (suc zero)) d = (circle, refl)
shape_of_lem (suc (suc (suc zero))) d = (arc, refl)
shape_of_lem (suc (suc (suc (suc k)))) d = absurd (omega (arith, d.1))

-- a label is declared by one record, and so as one shape
pub same_shape : (es : List Entry) → Fine es → (i i' : ℕ) (s s' : Shape) → Declares es i s → Declares es i' s' → name_no es i ≡ name_no es i' → (i ≡ i') × (s ≡ s')
same_shape es w i i' s s' d d' same =
    let one = w.once i i' d.inside d'.inside (declaration s (kind_no es i) d.kind_is) (declaration s' (kind_no es i') d'.kind_is) same in
    (one, sym (shape_back s).0 ∙ ap shape_of (sym d.kind_is ∙ ap (kind_no es) one ∙ d'.kind_is) ∙ (shape_back s').0)

-- ---- labels without a point

-- a declared label has none
pub pointless : (es : List Entry) → Fine es → (i : ℕ) (s : Shape) → Declares es i s → Pointless (name_no es i)
pointless es w i s d =
    let sound = w.sound i d.inside in
    let one = (declared_label (kind_no es i) (declaration s (kind_no es i) d.kind_is)).0 in
    plain_pointless (name_no es i) (rw (d.kind_is, (shape_back s).1) at (sound.spelled 0 (omega (arith, sound.count, one))))

-- so names say what labels say
pub clear : (es : List Entry) → Fine es → Clear es
clear es w = record {
  once = λ i j b h d d' same. omega (arith, b, w.once j i (omega (arith, b, h)) h d' d same);
  pointless = λ j h d. let (s, is) = shape_of_lem (kind_no es j) d in pointless es w j s (record { inside = h; kind_is = is });
}

-- the name of the label of a declared shape with a known part behind it
pub name_told : (es : List Entry) → Fine es → (j : ℕ) (s : Shape) → Declares es j s → (suffix l : Label) → KnownPart suffix → name_no es j ++ suffix ≡ l
    → (record_by (name_for es l) ≡ j) × (kind_by (name_for es l) ≡ declaring s)
name_told es w j s d suffix l k e =
    let decl = declaration s (kind_no es j) d.kind_is in
    let (at, sort, part) = unpacked j (kind_no es j) (part_no suffix) (name_for es l) (part_small suffix) decl.1 (name_of es (clear es w) j suffix l d.inside decl k.begins e) in
    (at, omega (arith, sort, d.kind_is, part_small suffix))

-- ---- each label of it is declared, up to its first point

module _ (es : List Entry) (w : Fine es) where
  -- one that its place needs
  met_declared : (kind q : ℕ) (l : Label) → Meets es (need_at kind q) l → declarer es (stem l) < length es
  met_declared kind q l m =
      let (c, known, (j, h, (is, name))) = choice es l (λ (c : Choice). known_test c.suffix) (need_at kind q) (known_needs (code_at kind q)) m in
      rw (declarer_of es (clear es w) j c.suffix l h (declaration c.shape (kind_no es j) is) ((says_known_part c.suffix).so known).begins name) h

  -- and a declared one itself
  own_declared : (i : ℕ) → i < length es → Declaration (kind_no es i) → declarer es (stem (name_no es i)) < length es
  own_declared i h d = rw (declarer_of es (clear es w) i [] (name_no es i) h d refl (append-nil (name_no es i))) h

  pub label_declared : (i : ℕ) → i < length es → (q : ℕ) → q < length (entry_at es i).labels → declarer es (stem (label_no (entry_at es i) q)) < length es
  label_declared i h q g = go (one_of_three (kind_no es i) (w.sound i h).known) q (rw (w.sound i h).count at g)
    where
      go : Declaration (kind_no es i) ⊎ (Rule (kind_no es i) ⊎ Guess (kind_no es i)) → (q : ℕ) → q < (kind_at (kind_no es i)).labels → declarer es (stem (label_no (entry_at es i) q)) < length es
      go (inr u) q b = met_declared (kind_no es i) q (label_no (entry_at es i) q) (w.met i h u q b)
      go (inl d) zero b = own_declared i h d
      go (inl d) (suc q) b = absurd (omega (arith, b, (declared_label (kind_no es i) d).0))
