-- Each slot of a fine drawing starts at its component's guess: its part is guessed, and guessed once. Assumes nothing.
use mathlib.Core.Path.{◌≡◌, refl, sym, ◌∙◌}
use mathlib.Core.List.{List, ◌++◌}
use Prim.Native.Nat.{ℕ, ◌<◌}
use native.Mathlib.Omega.{arith}
use lib.ListN.{length, get_or, drop, length-map, get_or-append}
use lib.Ieee.{Float, nan}
use Rattle.refusal.specs.First.{EachBelow, SomeBelow}
use Rattle.refusal.proofs.Says.{refuted}
use Rattle.kinds.specs.Kinds.{pair_guess, number_guess, Guess}
use Rattle.record.specs.Entry.{Label, Entry}
use Rattle.names.specs.Labels.{kind_no, name_no, labelled, lowest_or}
use Rattle.names.proofs.First.{lowest_here}
use Rattle.names.proofs.Names.{says_labelled}
use Rattle.drawing.specs.Needs.{Shape, point, circle, arc, parts}
use Rattle.drawing.specs.Faults.{Guessed}
use Rattle.lowering.specs.Slots.{Slot, slots_of_shape, slots, guess_of, start_of, values_of}
use Rattle.lowering.specs.Lower.{onto}
use Rattle.lowering.specs.Demand.{no_slot, slot_at, GuessFor, Starts}
use Rattle.ground.proofs.Pieces.{Each, each_at, get_or_map}
use Rattle.lowering.proofs.drawing.Counts.{length_shape}
use Rattle.lowering.proofs.drawing.Fine.{Fine}
use Rattle.lowering.proofs.slots.Components.{component_at_lem}

-- ---- each slot's part is guessed

abbrev HasGuess : List Entry → Slot → Type 0
HasGuess es t = SomeBelow (length es) (GuessFor es t)

-- a guess of a part is one of each of its components
module _ (es : List Entry) (l : Label) where
  pair : (u : Label) → SomeBelow (length es) (λ g. (kind_no es g ≡ pair_guess) × (name_no es g ≡ l ++ u))
      → SomeBelow (length es) (λ g. Guess (kind_no es g) × (name_no es g ≡ l ++ u))
  pair u (g, h, (e, name)) = (g, h, ((omega (arith, e), omega (arith, e)), name))

  of_shape : (s : Shape) → Each (Guessed es l) (parts s) → Each (HasGuess es) (slots_of_shape s l)
  of_shape point (p, t) = (pair _ p, (pair _ p, tt))
  of_shape circle (p, ((g, h, (e, name)), t)) = (pair _ p, (pair _ p, ((g, h, ((omega (arith, e), omega (arith, e)), name)), tt)))
  of_shape arc (p, (q, (r, t))) = (pair _ p, (pair _ p, (pair _ q, (pair _ q, (pair _ r, (pair _ r, tt))))))

has_guess : (es : List Entry) → Fine es → EachBelow (length (slots es)) (λ j. HasGuess es (slot_at es j))
has_guess es w j h =
    let (i, s, k, c, here) = component_at_lem es j h in
    let l = name_no es i in
    rw c.is (each_at (HasGuess es) (slots_of_shape s l) no_slot (of_shape es l s (w.guessed_all i s c.declared)) k (rw (length_shape s l) c.one_of_it))

-- ---- what it starts at

-- a guess is found by its label: no other has it
guess_found : (es : List Entry) → Fine es → (g : ℕ) → g < length es → Guess (kind_no es g) → lowest_or (length es) (labelled es pair_guess number_guess (name_no es g)) ≡ g
guess_found es w g h k =
    sym (lowest_here (length es) (labelled es pair_guess number_guess (name_no es g)) g h ((says_labelled es pair_guess number_guess (name_no es g) g).back (k, refl))
    (λ i b. refuted (says_labelled es pair_guess number_guess (name_no es g) i) (λ q. omega (arith, b, w.guess_once i g (omega (arith, b, h)) h q.0 k q.1))))

pub starts : (es : List Entry) → Fine es → EachBelow (length (slots es)) (λ j. Starts es (slot_at es j) (start_of es (slot_at es j)))
unfolding guess_of
starts es w j h =
    let (g, inside, (is, name)) = has_guess es w j h in
    record {
      guess = g;
      inside = inside;
      is_guess = (is, name);
      only = λ x y z. w.guess_once x g y inside z.0 is (z.1 ∙ sym name);
      value = rw (← name, guess_found es w g inside is) refl;
    }

-- ---- the starting values of all slots

module _ (es : List Entry) where
  pub length_values : length (values_of es) ≡ length (slots es)
  unfolding values_of
  length_values = length-map (slots es) (start_of es)

  pub value_at : (values : List Float) (j : ℕ) → j < length (slots es) → get_or (onto values (values_of es)) j nan ≡ start_of es (slot_at es j)
  unfolding values_of
  value_at values j h =
      get_or-append (values_of es) (drop (length (values_of es)) values) nan j (omega (arith, h, length_values)) ∙ get_or_map (start_of es) (slots es) j no_slot nan h
