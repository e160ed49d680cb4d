-- What a good record is, judged by itself (docs/FORMAT.md, "Well formed"), in the document's words and then as tests.
use Rattle.std.specs.Prelude.{◌≡◌, ◌⊎◌, Bool, true, false, not, ◌&&◌, ◌||◌, cond, List, ◌∷◌, ◌++◌, ℕ, ◌+◌, ◌≤◌, ◌<◌, leb, ltb, eqb, length, get_or}
use Rattle.text.specs.Text.{is_alphanum, label_on, dotted_on}
use Rattle.text.specs.declared.Stand.TheVariants.{At}
use Rattle.text.specs.declared.ReadLabel.{ReadLabel}
use Rattle.refusal.specs.First.{EachBelow, all_below}
use Rattle.little.specs.Little.{byte}
use Rattle.record.specs.declared.View.{View}
use Rattle.record.specs.declared.Record.{Record}
use Rattle.kinds.specs.Kinds.{Kind, Known, kind_at, numberless, pair, label_places}
use Rattle.record.specs.Record.{record_bytes, longest_text, mark, first_guess}
use Rattle.record.specs.Decode.{is_guess, decode}
use Rattle.record.specs.Entry.{Label, Entry, label_no, no_view, view_of, entry_of}

-- ---- where a guess ends

-- where the numbers of a guess end
abbrev pub guess_end : ℕ
guess_end = 24

-- the zeros that follow them
abbrev pub guess_zeros : ℕ
guess_zeros = 4

-- ---- labels

-- one or more ASCII letters and digits
pub record Plain (l : Label) : Type 0 where
  pub some : 0 < length l
  pub each : EachBelow (length l) (λ k. is_alphanum (get_or l k 0) ≡ true)

-- spelled as a label; where the kind allows it, also as two around a point
abbrev pub Spelled : Bool → Label → Type 0
Spelled false l = Plain l
Spelled true l = Plain l ⊎ ((a : Label) × (b : Label) × (l ≡ a ++ 46 ∷ b) × Plain a × Plain b)

-- a label place that is used lies inside the text, and one that is not has zeros
pub record Placed (text : List ℕ) (r : Record) (q : ℕ) : Type 0 where
  pub used : q < r.count → (view_of r q).start + (view_of r q).len ≤ length text
  pub unused : r.count ≤ q → view_of r q ≡ no_view

-- ---- the bytes, and what they say

-- bytes that hold a record over a text: whole, with the mark, labels inside the text, and zeros where its form has no field
pub record Framed (text b : List ℕ) : Type 0 where
  pub whole : length b ≡ record_bytes
  pub marked : byte b 0 ≡ mark
  pub few : (decode b).count ≤ label_places
  pub placed : EachBelow label_places (Placed text (decode b))
  pub ended : first_guess ≤ (decode b).kind → EachBelow guess_zeros (λ k. byte b (guess_end + k) ≡ 0)

-- a third byte that the kind has: 0 where it has none, and else from 1 on
abbrev pub Third : ℕ → ℕ → Type 0
Third kind third = (third ≤ (kind_at kind).thirds) × (0 < (kind_at kind).thirds → 0 < third)

-- a known kind, third byte and labels as the kind allows, labels spelled as labels, and numbers only where the kind has them
pub record Sound (e : Entry) : Type 0 where
  pub known : Known e.kind
  pub third : Third e.kind e.third
  pub count : length e.labels ≡ (kind_at e.kind).labels
  pub spelled : EachBelow (length e.labels) (λ q. Spelled (kind_at e.kind).dotted (label_no e q))
  pub no_x : (kind_at e.kind).number ≡ numberless → e.x ≡ 0
  pub no_y : ((kind_at e.kind).number ≡ pair → ⊥) → e.y ≡ 0

-- the bytes of a good record over a text
pub record Good (text b : List ℕ) : Type 0 where
  pub short : length text ≤ longest_text
  pub framed : Framed text b
  pub sound : Sound (entry_of text (decode b))

-- ---- the same, as tests

-- a label that was read has n bytes
abbrev pub reads_all : ReadLabel → ℕ → Bool
reads_all l n = ltb 0 l.len && eqb l.len n

-- reading a label takes all of it
unfoldable pub spelled_test : Bool → Label → Bool
spelled_test dotted l = reads_all (cond dotted (dotted_on l (At 0)) (label_on l (At 0))) (length l)

-- a label's view, whether its place is used, and the length of the text
abbrev pub placed_test : View → Bool → ℕ → Bool
placed_test v used n = cond used (leb (v.start + v.len) n) (eqb v.start 0 && eqb v.len 0)

-- each label place of a record, over a text of n bytes
abbrev pub all_placed : Record → ℕ → Bool
all_placed r n = all_below label_places (λ q. placed_test (view_of r q) (ltb q r.count) n)

-- a guess ends in zeros
abbrev pub ended_test : List ℕ → Bool → Bool
ended_test b guess = not guess || all_below guess_zeros (λ k. eqb (byte b (guess_end + k)) 0)

-- the bytes hold a record over a text of n bytes
unfoldable pub framed_test : ℕ → List ℕ → Bool
framed_test n b =
    eqb (length b) record_bytes
    && (eqb (byte b 0) mark
    && (leb (decode b).count label_places
    && (all_placed (decode b) n
    && ended_test b (is_guess (decode b).kind))))

-- the fields but for the labels' text: third byte, count of labels, x and y, by the kind
abbrev pub fields_test : Kind → ℕ → ℕ → ℕ → ℕ → Bool
fields_test k third count x y =
    ltb 0 k.labels
    && ((leb third k.thirds && (not (ltb 0 k.thirds) || ltb 0 third))
    && (eqb count k.labels
    && ((not (eqb k.number numberless) || eqb x 0)
    && (eqb k.number pair || eqb y 0))))

-- an entry is sound
unfoldable pub sound_test : Entry → Bool
sound_test e =
    fields_test (kind_at e.kind) e.third (length e.labels) e.x e.y
    && all_below (length e.labels) (λ q. spelled_test (kind_at e.kind).dotted (label_no e q))

-- the bytes are a good record's
unfoldable pub good_test : List ℕ → List ℕ → Bool
good_test text b = leb (length text) longest_text && (framed_test (length text) b && sound_test (entry_of text (decode b)))

-- the kind of a good record, and 0 of any other bytes
unfoldable pub good_kind : List ℕ → List ℕ → ℕ
good_kind text b = cond (good_test text b) (decode b).kind 0
