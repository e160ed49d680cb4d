-- Records stored one after another. Assumes nothing.
use mathlib.Core.Path.{◌≡◌, refl, sym, ◌∙◌}
use mathlib.Core.List.{List, [], ◌∷◌, ◌++◌}
use Prim.Native.Nat.{ℕ, suc, ◌+◌, ◌*◌, ◌≤◌}
use native.Mathlib.Nat.{add-zero}
use native.Mathlib.Omega.{arith}
use borrow.Author.Tests.{leb-true, le-leb}
use lib.ListN.{length}
use Rattle.text.proofs.Laws.{cond_of}
use Rattle.store.specs.Store.{room, written}
use Rattle.store.proofs.Laws.{written_length, written_append, written_none}
use Rattle.record.specs.Record.{record_bytes, encode, encode_all}
use Rattle.record.specs.declared.Record.{Record}
use Rattle.record.proofs.Back.{length_encode, count_all}
use Rattle.forms.specs.Section.{store, stored}

-- ---- lengths

store_length : (d : List ℕ) (n : ℕ) (r : Record) → length (store d n r) ≡ length d
store_length d n r =
    cond_of (λ (l : List ℕ). length l ≡ length d) (room d (n * record_bytes) (encode r)) _ d (λ e. written_length d (n * record_bytes) (encode r) (leb-true _ _ e)) (λ e. refl)

pub stored_length : (d : List ℕ) (n : ℕ) (rs : List Record) → length (stored d n rs) ≡ length d
unfolding stored
stored_length d n [] = refl
stored_length d n (r ∷ rs) = stored_length (store d n r) (n + 1) rs ∙ store_length d n r

-- ---- one after another

pub stored_append : (d : List ℕ) (n : ℕ) (rs ts : List Record) → stored d n (rs ++ ts) ≡ stored (stored d n rs) (n + length rs) ts
unfolding stored
stored_append d n [] ts = rw (add-zero n)
stored_append d n (r ∷ rs) ts =
    let e : n + 1 + length rs ≡ n + suc (length rs) = omega arith in
    rw (← e) (stored_append (store d n r) (n + 1) rs ts)

-- ---- all records, where there is room for all

pub stored_all : (d : List ℕ) (n : ℕ) (rs : List Record) → (n + length rs) * record_bytes ≤ length d → stored d n rs ≡ written d (n * record_bytes) (encode_all rs)
unfolding stored encode_all
stored_all d n [] h = sym (written_none d (n * record_bytes) (omega arith))
stored_all d n (r ∷ rs) h =
    let size = length_encode r in
    let here : store d n r ≡ written d (n * record_bytes) (encode r) = rw (le-leb (n * record_bytes + length (encode r)) (length d) (omega arith)) in
    let place : (n + 1) * record_bytes ≡ n * record_bytes + length (encode r) = omega arith in
    stored_all (store d n r) (n + 1) rs (omega (arith, store_length d n r))
    ∙ rw (here, place) (written_append d (n * record_bytes) (encode r) (encode_all rs) (omega (arith, count_all rs)))
