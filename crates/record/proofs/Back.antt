-- Decode after encode is the identity, on a record and on a list of records: each view and each number comes back from its bytes. Bytes of one
-- record alone hold that record. Assumes nothing.
use mathlib.Core.Path.{◌≡◌, refl, sym}
use mathlib.Core.Bool.{Bool, true, false, cond}
use mathlib.Core.List.{List, [], ◌∷◌, ◌++◌, append-nil}
use Prim.Native.Nat.{ℕ, ◌+◌, ◌-◌, ◌*◌, ◌<◌}
use native.Mathlib.Omega.{arith}
use lib.Dec.{lit<}
use lib.ListN.{length, get_or, take, drop}
use lib.Seq.{take-length}
use borrow.Author.Tests.{leb-true, leb-false, lt-ltb}
use Rattle.ground.specs.Lists.{flat}
use Rattle.ground.proofs.Pieces.{each_of, length_flat, piece_at}
use Rattle.refusal.specs.First.{EachBelow}
use Rattle.little.proofs.Little.{number_le}
use Rattle.little.specs.Little.{byte}
use Rattle.text.proofs.Laws.{cond_of}
use Rattle.kinds.specs.Kinds.{label_places}
use Rattle.record.specs.Entry.{no_view, view_of}
use Rattle.record.specs.declared.Record.{Record}
use Rattle.record.specs.Record.{record_bytes, first_guess, instruction, guess, encode, encode_all, encode_view}
use Rattle.record.specs.Decode.{is_guess, decode, count_of, record_of, no_record, decode_at, Fits, view_at, place_in}
use Rattle.ground.proofs.UpTo.{up_to_list}
use Rattle.record.proofs.Places.{each_place}

-- ---- a record of a list

-- the part of the bytes from one record's start to the next's
pub part_is : (bs : List ℕ) (i : ℕ) → take (i * record_bytes + record_bytes - i * record_bytes) (drop (i * record_bytes) bs) ≡ record_of bs i
part_is bs i =
    let e : i * record_bytes + record_bytes - i * record_bytes ≡ record_bytes = omega arith in
    rw e

-- ---- a record

module _ (r : Record) (rest : List ℕ) (h : Fits r) where
  view_back : (q : ℕ) → q < label_places → view_at (encode_view (view_of r q)) 0 ≡ view_of r q
  view_back q b i = record { start = number_le 2 (view_of r q).start (h.short q b).start_fits i; len = number_le 2 (view_of r q).len (h.short q b).len_fits i }

  -- each label place, of a guess and of an instruction
  place_back : (g : Bool) → is_guess r.kind ≡ g → EachBelow label_places (λ q. place_in (cond g (guess r) (instruction r) ++ rest) q ≡ view_of r q)
  place_back true e =
      let none = h.absent (leb-true first_guess r.kind e) in
      each_place _ (view_back 0 (lit< tt)) (rw e (sym (none 1 (lit< tt) (lit< tt)))) (rw e (sym (none 2 (lit< tt) (lit< tt)))) (rw e (sym (none 3 (lit< tt) (lit< tt))))
  place_back false e = each_place _ (view_back 0 (lit< tt)) (rw e (view_back 1 (lit< tt))) (rw e (view_back 2 (lit< tt))) (rw e (view_back 3 (lit< tt)))

  -- the numbers
  numbers_back : (g : Bool) → is_guess r.kind ≡ g
      → let d = decode (cond g (guess r) (instruction r) ++ rest) in (d.x ≡ r.x) × (d.y ≡ r.y)
  unfolding decode
  numbers_back true e = rw e (number_le 8 r.x h.x_fits, number_le 8 r.y h.y_fits)
  numbers_back false e = rw e (number_le 8 r.x h.x_fits, sym (h.no_y (leb-false first_guess r.kind e)))

  fields_back : (g : Bool) → is_guess r.kind ≡ g → decode (cond g (guess r) (instruction r) ++ rest) ≡ r
  unfolding decode
  fields_back g e i =
      let head = cond_of (λ (b : List ℕ). (byte (b ++ rest) 1 ≡ r.kind) × (byte (b ++ rest) 2 ≡ r.third) × (byte (b ++ rest) 3 ≡ r.count)) g
      (guess r) (instruction r) (λ f. (refl, refl, refl)) (λ f. (refl, refl, refl)) in
      let labels = up_to_list label_places r.labels no_view _ h.places (place_back g e) in
      let numbers = numbers_back g e in
      record { kind = head.0 i; third = head.1 i; count = head.2 i; labels = labels i; x = numbers.0 i; y = numbers.1 i }

  pub decode_encode : decode (encode r ++ rest) ≡ r
  unfolding encode
  decode_encode = fields_back (is_guess r.kind) refl

-- ---- a list of records

pub length_encode : (r : Record) → length (encode r) ≡ record_bytes
unfolding encode
length_encode r = cond_of (λ (b : List ℕ). length b ≡ record_bytes) (is_guess r.kind) (guess r) (instruction r) (λ e. refl) (λ e. refl)

all_flat : (rs : List Record) → encode_all rs ≡ flat encode rs
unfolding encode_all
all_flat [] = refl
all_flat (r ∷ rs) = rw (all_flat rs)

-- the bytes of each record stand at its place
pub record_of_all : (rs : List Record) (i : ℕ) → i < length rs → record_of (encode_all rs) i ≡ encode (get_or rs i no_record)
record_of_all rs i h =
    rw (all_flat rs, ← append-nil (flat encode rs)) (piece_at encode record_bytes rs [] no_record (each_of _ rs no_record (λ j b. length_encode (get_or rs j no_record))) i h)

pub count_all : (rs : List Record) → length (encode_all rs) ≡ length rs * record_bytes
count_all rs = rw (all_flat rs) (length_flat encode record_bytes rs (each_of _ rs no_record (λ j b. length_encode (get_or rs j no_record))))

-- each record of a list comes back
pub decode_all : (rs : List Record) (i : ℕ) → i < length rs → Fits (get_or rs i no_record) → decode_at (encode_all rs) i ≡ get_or rs i no_record
unfolding decode_at
decode_all rs i h f =
    let n : i < count_of (encode_all rs) = omega (arith, count_all rs) in
    rw (lt-ltb i (count_of (encode_all rs)) n, record_of_all rs i h, ← append-nil (encode (get_or rs i no_record))) (decode_encode (get_or rs i no_record) [] f)

-- bytes of one record's length hold that record
pub decode_one : (b : List ℕ) → length b ≡ record_bytes → decode_at b 0 ≡ decode b
unfolding decode_at
decode_one b e = let all : take record_bytes b ≡ b = rw e at (take-length b) in rw (e, all)
