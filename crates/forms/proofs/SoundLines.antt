-- Each record of a line that was read is sound over the text: its form gives it a known kind, the labels, the third byte and the numbers
-- that the table has for that kind, and each label was read out of the text. Assumes nothing.
use mathlib.Core.Path.{◌≡◌, refl}
use mathlib.Core.Bool.{Bool, true, false, not, cond, ◌&&◌}
use mathlib.Core.List.{List, [], ◌∷◌}
use Prim.Native.Nat.{ℕ, ◌+◌, ◌^◌, ◌≤◌, ◌<◌}
use native.Mathlib.Omega.{arith}
use lib.Dec.{leb, eqb, ltb, lit<}
use lib.ListN.{length}
use borrow.Author.Tests.{not-true, lt-ltb, le-ltb, lt-leb}
use Rattle.ground.specs.Words.{bytes}
use Rattle.ground.proofs.Lists.{and_first}
use Rattle.ground.proofs.Pieces.{Each}
use Rattle.refusal.specs.First.{EachBelow}
use Rattle.refusal.proofs.Says.{says_so, says_and, says_le, says_lt}
use Rattle.text.specs.Text.{ws_on, word_on, byte_on, label_on, suffixed_on}
use Rattle.text.specs.declared.Stand.{Stand}
use Rattle.text.specs.declared.Stand.TheVariants.{At, Nothing, Refused}
use Rattle.text.specs.declared.ReadLabel.{ReadLabel}
use Rattle.text.proofs.Laws.{Reached, here, either_of, cond_of}
use Rattle.number.specs.Number.{number_on}
use Rattle.number.proofs.Within.{number_fits, expr_fits}
use Rattle.kinds.specs.Kinds.{fix_component, fix_center, kind_at, word_of, numberless, number, expression, label_places}
use Rattle.record.specs.Record.{first_guess}
use Rattle.record.specs.Decode.{is_guess}
use Rattle.record.specs.Entry.{no_view, view_of, part, entry_of}
use Rattle.record.specs.Sound.{Spelled, Placed, Sound, fields_test}
use Rattle.record.specs.declared.View.{View}
use Rattle.record.specs.declared.Record.{Record}
use Rattle.record.proofs.Places.{each_place}
use Rattle.record.proofs.Found.{Found, dotted, label_found, suffixed_found}
use Rattle.record.proofs.Agree.{sound_of}
use Rattle.forms.specs.declared.pieces.Amount.{Amount}
use Rattle.forms.specs.declared.pieces.Side.{Side}
use Rattle.forms.specs.Forms.{Lines, line_then, view_from, one_labelled, around_on, either_on, component_on, pair_on, declare_on, fixed_on, assign_on, more_on, angle_on, amount_on, gap_on, keyword_on, guessed_on, guess_on, line_on}
use Rattle.forms.proofs.Kept.{instruction_of, fixed_kept, assign_kept, pair_kept, suffixed_kept, around_kept, gap_kept, amount_kept}
use Rattle.forms.proofs.Stands.{Behind, same, kept_behind}

-- ---- a record over a text, of an instruction or of a guess

pub record Proper (s : List ℕ) (guess : Bool) (r : Record) : Type 0 where
  pub sort : is_guess r.kind ≡ guess
  pub few : r.count ≤ label_places
  pub places : length r.labels ≡ label_places
  pub placed : EachBelow label_places (Placed s r)
  pub sound : Sound (entry_of s r)
  pub x_fits : r.x < 2 ^ 64
  pub y_fits : r.y < 2 ^ 64

-- ---- a record by its label places

-- a label place that is used names a label of the text, and one that is not has zeros
abbrev Held : List ℕ → Bool → Bool → View → Type 0
Held s dotted true v = (v.start + v.len ≤ length s) × Spelled dotted (part s v.start v.len)
Held s dotted false v = v ≡ no_view

module _ (s : List ℕ) where
  label_held : (t : Stand) → Reached (label_on s t).then → Held s false true (view_from (label_on s t))
  label_held t h = let f = label_found s t h in (f.inside, f.spelled)

  -- one more label, where a row has one
  more_held : (t : Stand) (used : Bool) → Reached (more_on s t used).then → Reached t × Held s false used (view_from (more_on s t used))
  unfolding more_on
  more_held t true h = let on = kept_behind s t in ((on.label (around_kept on 44 (same t))).back h, label_held (around_on s t 44) h)
  more_held t false h = (h, refl)

  proper_of : {guess : Bool} (r : Record) → is_guess r.kind ≡ guess → fields_test (kind_at r.kind) r.third r.count r.x r.y ≡ true
      → r.count ≤ label_places → length r.labels ≡ label_places → EachBelow label_places (λ q. Held s (kind_at r.kind).dotted (ltb q r.count) (view_of r q))
      → r.x < 2 ^ 64 → r.y < 2 ^ 64 → Proper s guess r
  proper_of r sort fields few places held x_fits y_fits =
      let there : (q : ℕ) → q < label_places → q < r.count → Held s (kind_at r.kind).dotted true (view_of r q)
      = λ q h u. rw (lt-ltb q r.count u) at (held q h) in
      record {
        sort = sort;
        few = few;
        places = places;
        placed = λ q h. record { used = λ u. (there q h u).0; unused = λ u. rw (le-ltb q r.count u) at (held q h) };
        sound = sound_of s r few fields (λ q h u. (there q h u).1);
        x_fits = x_fits;
        y_fits = y_fits;
      }

  -- a record with one label
  one_proper : {guess : Bool} {kind third x y : ℕ} (l : ReadLabel) → is_guess kind ≡ guess → fields_test (kind_at kind) third 1 x y ≡ true
      → x < 2 ^ 64 → y < 2 ^ 64 → Found s (kind_at kind).dotted l → Proper s guess (one_labelled kind third l x y)
  one_proper l sort fields x_fits y_fits f = proper_of _ sort fields (omega arith) refl (each_place _ (f.inside, f.spelled) refl refl refl) x_fits y_fits

-- ---- third bytes

-- the first of two words or the second
side_third : (s : List ℕ) (t : Stand) (a b : List ℕ) (Q : ℕ → Type 0) → Q 1 → Q 2 → Q (either_on s t a b).third
unfolding either_on
side_third s t a b Q f g = either_of (λ (i : Side). Q i.third) (word_on s t a) _ _ f g

-- ---- numbers fit eight bytes

small : 0 < 2 ^ 64
small = lit< tt

-- ---- a line

-- its records are proper; it has two at most, and where its end was read one at least
pub record Lined (s : List ℕ) (guess : Bool) (l : Lines) : Type 0 where
  pub proper : Each (Proper s guess) l.records
  pub some : Reached l.then → 0 < length l.records
  pub few : length l.records ≤ 2

module _ {s : List ℕ} {guess : Bool} where
  lined : (rs : List Record) (u : Stand) → 0 < length rs → length rs ≤ 2 → (Reached u → Each (Proper s guess) rs) → Lined s guess (line_then rs u)
  lined rs (At n) some few p = record { proper = p (here n); some = λ h. some; few = few }
  lined rs Nothing some few p = record { proper = tt; some = λ h. absurd h.is; few = omega arith }
  lined rs (Refused why) some few p = record { proper = tt; some = λ h. absurd h.is; few = omega arith }

  one_lined : (r : Record) (u : Stand) → (Reached u → Proper s guess r) → Lined s guess (line_then (r ∷ []) u)
  one_lined r u p = lined (r ∷ []) u (omega arith) (omega arith) (λ h. (p h, tt))

-- ---- forms

-- what the table has for the kind of a keyword form, as a test: its fields with each third byte that its sort of number gives
abbrev amounts : ℕ → Bool
amounts k =
    let z = kind_at k in
    let fields : ℕ → Bool = λ third. fields_test z third z.labels 0 0 in
    cond (eqb z.number numberless) (fields 0) (cond (eqb z.number number) (fields 0) (cond (eqb z.number expression) (fields 0) (fields 1 && fields 2)))

abbrev row : ℕ → Bool
row k = leb (kind_at k).labels label_places && (ltb k first_guess && (not (kind_at k).dotted && amounts k))

amount_fields : (s : List ℕ) (t : Stand) (k : ℕ) → amounts k ≡ true → let n = amount_on s t (kind_at k).number in
    (fields_test (kind_at k) n.third (kind_at k).labels n.bits 0 ≡ true) × (n.bits < 2 ^ 64)
unfolding amount_on angle_on
amount_fields s t k h =
    let z = kind_at k in
    let Q : Amount → Type 0 = λ n. (fields_test z n.third z.labels n.bits 0 ≡ true) × (n.bits < 2 ^ 64) in
    cond_of Q (eqb z.number numberless) _ _ (λ e. (rw e (rw e at h), small))
    (λ e. cond_of Q (eqb z.number number) _ _ (λ f. (rw e (rw (e, f) at h), number_fits s _))
    (λ f. cond_of Q (eqb z.number expression) _ _ (λ g. (rw e (rw (e, f, g) at h), expr_fits s _))
    (λ g.
    let w = (says_and says_so says_so).so (rw (e, f, g) at h) in
    let x = (number_on s (around_on s t 44)).bits in
    (side_third s _ (bytes "deg") (bytes "rad") (λ third. fields_test z third z.labels x 0 ≡ true) (rw e w.0) (rw e w.1), number_fits s _))))

module _ (s : List ℕ) where
  fixed_lined : (l : ReadLabel) (k : ℕ) (between : List ℕ) → is_guess k ≡ false → ((x : ℕ) → (fields_test (kind_at k) 1 1 x 0 ≡ true) × (fields_test (kind_at k) 2 1 x 0 ≡ true))
      → (Reached l.then → Found s (kind_at k).dotted l) → Lined s false (fixed_on s l k between)
  unfolding fixed_on
  fixed_lined l k between sort fields f =
      let n = number_on s (around_on s (component_on s (word_on s l.then between)).then 61) in
      let on = kept_behind s l.then in
      let w = side_third s _ (bytes "x") (bytes "y") (λ third. fields_test (kind_at k) third 1 n.bits 0 ≡ true) (fields n.bits).0 (fields n.bits).1 in
      one_lined _ n.then (λ h. one_proper s l sort w (number_fits s _) small (f ((fixed_kept on l k between (on.word between (same l.then))).back h)))

  assign_lined : (l : ReadLabel) → (Reached l.then → Found s false l) → Lined s false (assign_on s l)
  unfolding assign_on pair_on
  assign_lined l f =
      let m = suffixed_on s l in
      let p = pair_on s (around_on s m.then 61) in
      let on = kept_behind s l.then in
      let found : Reached p.then → Found s true m = λ h. suffixed_found s l (f ((assign_kept on l (around_kept on 61 (suffixed_kept on l (same l.then)))).back h)) in
      lined (one_labelled fix_component 1 m p.x 0 ∷ one_labelled fix_component 2 m p.y 0 ∷ []) p.then (omega arith) (omega arith)
      (λ h. (one_proper s m refl refl (number_fits s _) small (found h), (one_proper s m refl refl (number_fits s _) small (found h), tt)))

  keyword_lined : (k : ℕ) (t : Stand) → row k ≡ true → Lined s false (keyword_on s t k)
  unfolding keyword_on
  keyword_lined k t e =
      let z = kind_at k in
      let w = (says_and (says_le z.labels label_places) (says_and (says_lt k first_guess) (says_and says_so says_so))).so e in
      let at = ws_on s (byte_on s (ws_on s (word_on s t (word_of k))) 40) in
      let a = label_on s at in
      let b = more_on s a.then (ltb 1 z.labels) in
      let c = more_on s b.then (ltb 2 z.labels) in
      let d = more_on s c.then (ltb 3 z.labels) in
      let n = amount_on s d.then z.number in
      let on = kept_behind s d.then in
      let fields = amount_fields s d.then k w.1.1.1 in
      let r : Record = record { kind = k; third = n.third; count = z.labels; labels = view_from a ∷ view_from b ∷ view_from c ∷ view_from d ∷ []; x = n.bits; y = 0 } in
      one_lined r (byte_on s (gap_on s n.then z.gap) 41)
      (λ h.
      let fourth = more_held s c.then (ltb 3 z.labels) ((on.byte 41 (gap_kept on z.gap (amount_kept on z.number (same d.then)))).back h) in
      let third = more_held s b.then (ltb 2 z.labels) fourth.0 in
      let second = more_held s a.then (ltb 1 z.labels) third.0 in
      let first : Held s false (ltb 0 z.labels) (view_from a) = rw (and_first (ltb 0 z.labels) _ fields.0) (label_held s at second.0) in
      proper_of s r (lt-leb first_guess k w.1.0) fields.0 w.0 refl
      (rw (not-true z.dotted w.1.1.0) (each_place (λ q. Held s false (ltb q z.labels) (view_of r q)) first second.1 third.1 fourth.1))
      fields.1 small)

  -- ---- lines

  pub line_lined : (guess : Bool) (t : Stand) → Lined s guess (line_on guess s t)
  unfolding declare_on guess_on guessed_on pair_on
  line_lined false t =
      let at = ws_on s t in
      let l = label_on s at in
      instruction_of s (Lined s false) (record { proper = tt; some = λ h. absurd h.is; few = omega arith }) t
      (λ k d.
      let u = ws_on s (word_on s at (word_of k)) in
      one_lined _ _ (λ h. one_proper s (label_on s u) d.0 d.1 small small (rw d.2 (label_found s u h))))
      (fixed_lined l fix_component (bytes ".") refl (λ x. (refl, refl)) (λ h. dotted s l (label_found s at h)))
      (fixed_lined l fix_center (bytes ".center.") refl (λ x. (refl, refl)) (label_found s at))
      (assign_lined l (label_found s at)) row refl (λ k. keyword_lined k at)
  line_lined true t =
      let l = label_on s (ws_on s t) in
      let m = suffixed_on s l in
      let u = ws_on s (word_on s (ws_on s m.then) (bytes "roughly")) in
      let on = kept_behind s l.then in
      let b : Behind l.then u = on.ws (on.word (bytes "roughly") (on.ws (suffixed_kept on l (same l.then)))) in
      let found : (v : Stand) → Behind l.then v → Reached v → Found s true m = λ v f h. suffixed_found s l (label_found s (ws_on s t) (f.back h)) in
      either_of (Lined s true) (pair_on s u).then _ _
      (one_lined _ _ (λ h. one_proper s m refl refl (number_fits s _) (number_fits s _) (found _ (pair_kept on b) h)))
      (one_lined _ _ (λ h. one_proper s m refl refl (number_fits s u) small (found _ (on.number b) h)))
