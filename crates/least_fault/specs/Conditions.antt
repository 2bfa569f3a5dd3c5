-- Faults that conditions find in a list of items.
use Rattle.std.specs.Prelude.{List, [], ◌∷◌, ◌++◌}

-- a condition judges an item with those before it, and gives the faults that it finds there
abbrev pub Condition : Type 0 → Type 0 → Type 0
Condition Item Fault = List Item → Item → List Fault

-- what a condition finds in items that stand after others
abbrev pub found_after : {Item Fault : Type 0} → Condition Item Fault → List Item → List Item → List Fault
found_after condition before [] = []
found_after condition before (item ∷ items) = condition before item ++ found_after condition (before ++ item ∷ []) items

-- what each of the conditions finds in the items, condition by condition
abbrev pub found_by : {Item Fault : Type 0} → List (Condition Item Fault) → List Item → List Fault
found_by [] items = []
found_by (condition ∷ conditions) items = found_after condition [] items ++ found_by conditions items

-- what all of the conditions find at one item
abbrev pub together : {Item Fault : Type 0} → List (Condition Item Fault) → Condition Item Fault
together [] before item = []
together (condition ∷ conditions) before item = condition before item ++ together conditions before item
