-- What the contracts of private functions go by. It mirrors the code and need not be read: that it is what Sound's tests say is proved.
use Rattle.std.specs.Prelude.{◌≡◌, Bool, true, not, ◌&&◌, ◌||◌, List, ℕ, leb, ltb, eqb, length}
use Rattle.little.specs.Little.{byte}
use Rattle.kinds.specs.Kinds.{kind_at, numberless, pair}
use Rattle.record.specs.Record.{record_bytes, mark}
use Rattle.record.specs.Decode.{is_guess, decode}
use Rattle.record.specs.Sound.{all_placed, ended_test}

-- the mark, the count of labels and the third byte of a record are as a kind with so many labels and third bytes allows
abbrev pub head_by : ℕ → ℕ → List ℕ → Bool
head_by labels thirds b =
    (eqb (byte b 0) mark && (ltb 0 labels && eqb (byte b 3) labels)) && (leb (byte b 2) thirds && (not (ltb 0 thirds) || ltb 0 (byte b 2)))

-- the label places, the end and the numbers of a record are as its kind allows, over a text of n bytes
unfoldable pub rest_test : ℕ → List ℕ → Bool
rest_test n b =
    let r = decode b in
    let k = kind_at r.kind in
    all_placed r n
    && (ended_test b (is_guess r.kind) && ((not (eqb k.number numberless) || eqb r.x 0) && (eqb k.number pair || eqb r.y 0)))

-- all of it is, but for the spelling of its labels
unfoldable pub shape_test : ℕ → List ℕ → Bool
shape_test n b = head_by (kind_at (byte b 1)).labels (kind_at (byte b 1)).thirds b && rest_test n b

-- whole bytes that hold a record but, perhaps, for the spelling of its labels
pub record Shaped (text b : List ℕ) : Type 0 where
  pub whole : length b ≡ record_bytes
  pub shape : shape_test (length text) b ≡ true
