-- What it is for a promise to determine a function's answer, and what it lends, over the promise as the function's source states it. Assumes nothing.
use mathlib.Core.Path.{◌≡◌, sym, ◌∙◌}
use mathlib.Core.List.{List}
use Prim.Native.Nat.{ℕ}
use seplogic.Ra.Ura.{Ura}
use base.Logic.{SProp}
use prog.Memory.{Memory}
use prog.Routine.{Routine}
use types.Logic.{Logic}
use contract.Lifetimes.{Lfts}
use contract.Monad.{Fun, fact}
use denote.Triple.Entry.{Args, Res}
use denote.Triple.Clauses.{Ended, Clauses, Lasts, AtExit, at_exit}
use borrow.Fn.Kinds.{ParamKind, ResultKind, Dens, res_t, ended_of, Out}

-- of two answers that a promise allows for the same entry values, one is the other
abbrev pub Determined : (n : ℕ) (ps : List (ParamKind n)) (r : ResultKind n) → Out n ps r → Type 0
Determined n ps r promise =
    (κs : Lfts n) (a : Dens κs ps) (x y : (res_t r κs).Denot) (e f : AtExit (ended_of n ps r) κs) → promise κs a x e → promise κs a y f → x ≡ y

-- an equation with what the entry values give determines the answer
pub by_equation {ℓ} : {X : Type ℓ} {x y z : X} → x ≡ z → y ≡ z → x ≡ y
by_equation p q = p ∙ sym q

-- ---- functions that change what is lent to them

-- a promise of a function: of its arguments, its answer, and its parameters at exit
abbrev pub Promise : Ended → Type 1
Promise T = (κs : Lfts T.signature.lifetimes) → Args T.signature κs → Res T.signature κs → AtExit T κs → Type 0

-- of two ways to return that a promise allows for the same entry values, the answers are the same, and so is all that each lent thing holds at last
abbrev pub Settled : (T : Ended) → Promise T → Type 0
Settled T promise =
    (κs : Lfts T.signature.lifetimes) (a : Args T.signature κs) (x y : Res T.signature κs) (v w : Lasts T κs a)
    → promise κs a x (at_exit T κs a v) → promise κs a y (at_exit T κs a w) → (x ≡ y) × (v ≡ w)

-- what the contract made of a function's source ensures is this promise and nothing else
abbrev pub Says : (T : Ended) → Promise T → ((M : Type 1) (𝓤 : Ura M) → (𝓛 : Logic 𝓤) → (Memory → SProp 𝓤) → (Routine → Fun 𝓤) → Clauses 𝓤 T) → Type 2
Says T promise contract =
    (M : Type 1) (𝓤 : Ura M) (𝓛 : Logic 𝓤) (memory : Memory → SProp 𝓤) (run : Routine → Fun 𝓤)
    (κs : Lfts T.signature.lifetimes) (a : Args T.signature κs) (g : (contract M 𝓤 𝓛 memory run κs a).ghost) (x : Res T.signature κs) (e : AtExit T κs)
    → (contract M 𝓤 𝓛 memory run κs a).ensures g x e ≡ fact 𝓤 (promise κs a x e)
