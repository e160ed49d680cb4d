-- A row for each rule (docs/FORMAT.md, "Lowering"): what a rule's labels name, and the ids of those slots.
use Rattle.std.specs.Prelude.{◌≡◌, Bool, ◌&&◌, cond, List, [], ◌∷◌, ◌++◌, map, ℕ, suc, eqb}
use Rattle.ground.specs.Words.{bytes}
use Rattle.kinds.specs.Kinds.{first_rule, last_rule, fix_component, fix_center}
use Rattle.record.specs.Entry.{Label, Entry}
use Rattle.row.specs.Row.{Row}
use Rattle.names.specs.Labels.{same, within}
use Rattle.ground.specs.Lists.{flat}
use Rattle.lowering.specs.Slots.{Slot, slots}

-- ---- what a rule's label names

-- every slot of the shape; in kind 4 the component of the part, in kind 18 that of the shape's center
pub data Naming : Type 0 where
  whole part center : Naming

-- by the rule's kind
abbrev pub naming_of : ℕ → Naming
naming_of kind = cond (eqb kind fix_component) part (cond (eqb kind fix_center) center whole)

-- the label l, with the rule's third byte, names a slot
abbrev pub Names : Naming → ℕ → Label → Slot → Type 0
Names whole third l s = s.shape ≡ l
Names part third l s = (s.shape ++ s.suffix ≡ l) × (s.axis ≡ third)
Names center third l s = (s.shape ++ s.suffix ≡ l ++ bytes ".center") × (s.axis ≡ third)

-- the same, as a test
abbrev pub names : Naming → ℕ → Label → Slot → Bool
names whole third l s = same s.shape l
names part third l s = same (s.shape ++ s.suffix) l && eqb s.axis third
names center third l s = same (s.shape ++ s.suffix) (l ++ bytes ".center") && eqb s.axis third

-- the ids of the slots that pass a test, in order, where the first slot's id is next
abbrev pub ids_where : (Slot → Bool) → ℕ → List Slot → List ℕ
ids_where p next [] = []
ids_where p next (s ∷ ss) = cond (p s) (next ∷ ids_where p (suc next) ss) (ids_where p (suc next) ss)

-- the ids of the slots that a rule's label l names, where the drawing's first slot has the id next
unfoldable pub named_ids : List Entry → ℕ → Entry → Label → List ℕ
named_ids es next e l = ids_where (names (naming_of e.kind) e.third l) next (slots es)

-- ---- rows

-- the row of a rule: for each label, in order, the ids of what it names
abbrev pub row_for : List Entry → ℕ → Entry → Row
row_for es next e = record { kind = e.kind; third = e.third; ids = flat (named_ids es next e) e.labels; bits = e.x }

-- the rules of a drawing, kinds 4 to 23, in order
abbrev pub rules_of : List Entry → List Entry
rules_of [] = []
rules_of (e ∷ es) = cond (within first_rule last_rule e.kind) (e ∷ rules_of es) (rules_of es)

-- the rows of a drawing
unfoldable pub rows_of : List Entry → ℕ → List Row
rows_of es next = map (row_for es next) (rules_of es)
