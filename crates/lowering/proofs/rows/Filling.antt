-- A row's ids are put down label by label, and the rows rule by rule: each piece stands behind those before it. Assumes nothing.
use mathlib.Core.Path.{◌≡◌, refl, sym, ◌∙◌, ap}
use mathlib.Core.Bool.{Bool, true, false}
use mathlib.Core.List.{List, [], ◌∷◌, ◌++◌, append-nil}
use Prim.Native.Nat.{ℕ, zero, suc, ◌+◌, ◌-◌, ◌*◌, ◌≤◌, ◌<◌}
use native.Mathlib.Nat.{le_refl, add-zero}
use native.Mathlib.Omega.{arith}
use lib.ListN.{length, get_or, drop, replicate, length-append}
use lib.Seq.{get_or-drop}
use borrow.Author.Tests.{le-leb}
use Rattle.ground.specs.Lists.{flat, up_to}
use Rattle.ground.proofs.Pieces.{flat_append}
use Rattle.ground.proofs.UpTo.{get_or_up_to, up_to_more}
use Rattle.store.specs.Store.{written, Put}
use Rattle.store.proofs.Laws.{written_length, written_none}
use Rattle.layout.proofs.Onward.{over_front}
use Rattle.kinds.specs.Kinds.{kind_at, needs_column, table, cell, first_rule, last_rule, label_places}
use Rattle.kinds.proofs.Cells.{needs_is}
use Rattle.names.specs.Labels.{within}
use Rattle.drawing.specs.Needs.{code_at}
use Rattle.kinds.proofs.Table.{few_labels}
use Rattle.row.specs.Row.{most_ids, row_bytes, eight, bytes_of, encode_row}
use Rattle.row.proofs.Back.{length_row}
use Rattle.lowering.specs.Lower.{onto}
use Rattle.lowering.specs.Sketch.{Line, span_by, span_at, row_by, row_if}
use Rattle.lowering.specs.Steps.{names_at, Added, Begins, bytes_if, Writing}
use Rattle.lowering.proofs.ids.Firsts.{zeros_at}

-- ---- pieces put behind one another

-- the pieces of the first n elements
abbrev pub joined : {A : Type 0} → (A → List ℕ) → (ℕ → A) → ℕ → List ℕ
joined f g n = flat f (up_to n g)

module _ {A : Type 0} (f : A → List ℕ) (g : ℕ → A) where
  joined_more : (n : ℕ) → joined f g (n + 1) ≡ joined f g n ++ f (g n)
  joined_more n = rw (up_to_more n g, flat_append f (up_to n g) (g n ∷ []), append-nil (f (g n))) refl

  joined_le : (q k : ℕ) → length (joined f g q) ≤ length (joined f g (q + k))
  joined_le q zero = rw (add-zero q) (le_refl _)
  joined_le q (suc k) = let e : q + suc k ≡ q + k + 1 = omega arith in rw (e, joined_more (q + k), length-append) (omega (arith, joined_le q k))

-- those of the first q of n are in their places
pub record Pieces {A : Type 0} (f : A → List ℕ) (g : ℕ → A) (n : ℕ) (was : List ℕ) (m : ℕ) (out : List ℕ) (q : ℕ) : Type 0 where
  pub is : out ≡ onto was (joined f g q)
  pub place : m ≡ length (joined f g q)
  pub long : length out ≡ length was
  pub most : q ≤ n

module _ {A : Type 0} {f : A → List ℕ} {g : ℕ → A} {n : ℕ} {was : List ℕ} {m : ℕ} {out : List ℕ} {q : ℕ} (p : Pieces f g n was m out q) where
  pub pieces_end : n ≤ q → Begins (joined f g n) was m out
  pieces_end h = let e : q ≡ n = omega (arith, h, p.most) in record { count_is = rw e at p.place; list_is = rw e at p.is }

  module _ (h : q < n) (room : length (joined f g n) ≤ length was) where
    -- the next has room where all have
    pub piece_fits : m + length (f (g q)) ≤ length out
    piece_fits =
        let e : q + 1 + (n - (q + 1)) ≡ n = omega arith in
        omega (arith, room, p.place, p.long, rw (e, joined_more f g q, length-append) at (joined_le f g (q + 1) (n - (q + 1))))

    pub pieces_turn : (k : ℕ) (out' : List ℕ) → Added (f (g q)) out m k out' → Pieces f g n was k out' (q + 1)
    unfolding written
    pieces_turn k out' a = record {
      is = a.list_is ∙ rw (p.is, p.place, joined_more, length-append) (over_front (joined f g q) (f (g q)) was (length (joined f g q)) refl);
      place = a.count_is ∙ rw (p.place, joined_more, length-append) refl;
      long = ap length a.list_is ∙ written_length out m (f (g q)) piece_fits ∙ p.long;
      most = omega arith;
    }

-- ---- the ids of a row

-- the bytes of a row by eight places that begin with its ids: zeros behind ids change none of them
pub row_is : (kind third bits : ℕ) (ids : List ℕ) (m : ℕ) (out : List ℕ) → Begins ids (replicate most_ids 0) m out → (b : List ℕ)
    → b ≡ bytes_of (record { kind = kind; third = third; count = m; ids = out; bits = bits }) → b ≡ encode_row (record { kind = kind; third = third; ids = ids; bits = bits })
unfolding encode_row bytes_of
row_is kind third bits ids m out begins b eb =
    let same : eight (ids ++ drop (length ids) (replicate most_ids 0)) ≡ eight ids = λ j. up_to most_ids (λ q. zeros_behind ids (length ids) most_ids q j) in
    eb ∙ rw (begins.count_is, begins.list_is) (ap (λ (w : List ℕ). bytes_of (record { kind = kind; third = third; count = length ids; ids = w; bits = bits })) same)
  where
    zeros_behind : (ids : List ℕ) (k n q : ℕ) → get_or (ids ++ drop k (replicate n 0)) q 0 ≡ get_or ids q 0
    zeros_behind [] k n q = get_or-drop k (replicate n 0) q 0 ∙ zeros_at n (k + q)
    zeros_behind (id ∷ ids) k n zero = refl
    zeros_behind (id ∷ ids) k n (suc q) = zeros_behind ids k n q

-- what name q of a rule stands for, by the code of its place in the table of kinds, and by the table of names
pub span_read : (names : List ℕ) (kind third i q code : ℕ) → q < (kind_at kind).labels → code ≡ cell table kind (needs_column + q)
    → span_by code third (get_or names (i * label_places + q) 0) ≡ span_at kind third (names_at names kind i) q
span_read names kind third i q code h found =
    let e : code ≡ code_at kind q = found ∙ needs_is kind q (omega (arith, h, few_labels kind)) in
    rw (e, get_or_up_to (kind_at kind).labels (λ q. get_or names (i * label_places + q) 0) q 0 h) refl

-- ---- the rows

module _ {first : ℕ → ℕ} {next : ℕ} {l : Line} {rows : List ℕ} {at : ℕ} (w : Writing first next l rows at) where
  -- no rule: nothing is written
  pub wrote_none : within first_rule last_rule l.kind ≡ false → Added (bytes_if first next l) rows at at rows
  unfolding row_if written
  wrote_none t = rw t (record { count_is = omega arith; list_is = sym (written_none rows at (omega (arith, w.room))) })

  -- a rule: its row is written
  pub wrote_row : within first_rule last_rule l.kind ≡ true → (row rows' : List ℕ) (b : Bool) → row ≡ encode_row (row_by first next l) → Put rows at row b rows'
      → Added (bytes_if first next l) rows at (at + row_bytes) rows'
  unfolding row_if written
  wrote_row t row rows' b er p =
      let full : row ≡ bytes_if first next l = er ∙ rw (t, append-nil) refl in
      rw (← full) (record { count_is = rw (er, length_row) refl; list_is = p.buffer ∙ rw (le-leb (at + length row) (length rows) (rw full w.room)) refl })
