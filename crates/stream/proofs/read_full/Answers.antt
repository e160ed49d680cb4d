-- `stream::read_full` meets its contract: each read puts what the stream loses behind what was read before. Assumes nothing.
use Rattle.std.proofs.Common.{◌≡◌, ℕ, ◌+◌, ◌≤◌, List, ◌++◌, length, take, ap, ◌∙◌, append_assoc, rules}
use Rattle.std.specs.Prelude.{Option, None, Some}
use Rattle.std.specs.Io.KnownBytes.{Consumes}
use Rattle.std.proofs.lemmas.List.{take-append-le}
use Rattle.std.proofs.Math.Seq.{length-take-le, take-append-add}
use borrow.Rule.Slice.PartMut.{put_mid, post_of}
use Rattle.stream.proofs.read_full.Goals as goal

-- what is lost twice is lost one after the other
both : (a b c : Option (List ℕ)) (x y : List ℕ) → Consumes a b x → Consumes b c y → Consumes a c (x ++ y)
both None b c x y h k = tt
both (Some u) None c x y h k = absurd h
both (Some u) (Some v) None x y h k = absurd k
both (Some u) (Some v) (Some w) x y h k = rw (append_assoc, ← k) h

-- n bytes that were put behind the first d
behind : (d k n : ℕ) (xs ys : List ℕ) → d ≤ length xs → n ≤ length ys → take (d + n) (put_mid d k xs ys) ≡ take d xs ++ take n ys
behind d k n xs ys h g =
    let e = length-take-le d xs h in
    rw e at (take-append-add (take d xs) (ys ++ post_of d k xs) n) ∙ ap (λ (t : List ℕ). take d xs ++ t) (take-append-le n ys (post_of d k xs) g)

pub loop-done-preserved : goal.loop-done-preserved
loop-done-preserved g c =
    let fits : c.in_ok-n.n ≤ length c.read.new.buf = search rules in
    let lost : Consumes (g.R.Read.remaining c.loop-done.stream) (g.R.Read.remaining c.read.new.self) (take c.in_ok-n.n c.read.new.buf) = search rules in
    record {
      inside = search rules;
      bytes = rw (behind c.loop-done.done _ c.in_ok-n.n c.loop-done.buf c.read.new.buf c.loop-done.invariant.inside fits) (both _ _ _ _ _ c.loop-done.invariant.bytes lost);
    }
