-- A line, or another one where nothing was read, is the first of the two that they mean. Assumes nothing.
use mathlib.Core.Path.{◌≡◌, ap}
use Rattle.text.specs.Text.{or_stand}
use Rattle.text.specs.declared.Stand.{Stand}
use Rattle.text.specs.declared.Stand.TheVariants.{At, Nothing, Refused}
use Rattle.forms.specs.declared.pieces.Parsed.{Parsed}
use Rattle.forms.specs.Forms.{Lines, or_line}
use Rattle.forms.specs.Steps.{meant_line, IfRead}

pub chosen : (line result : Parsed) {Post : Type 0} {first second : Lines} → IfRead line.then (result ≡ line) Post
    → meant_line line ≡ first → (Post → meant_line result ≡ second) → meant_line result ≡ or_line first second
chosen line result {Post} {first} {second} picked is other = rw (← is) (go line.then picked)
  where
    go : (t : Stand) → IfRead t (result ≡ line) Post → meant_line result ≡ or_stand t (meant_line line) second
    go (At n) e = ap meant_line e
    go Nothing p = other p
    go (Refused why) e = ap meant_line e
