-- For the proofs: what the code finds, one group of rules after the other.
use Rattle.std.specs.Prelude.{Option, None, List, [], ◌∷◌, ◌++◌, fold}
use Rattle.std.specs.List.{flat_map}
use Rattle.least_fault.specs.Conditions.{Condition, found_after, together}
use Rattle.least_fault.specs.Least.{lesser, least_of}
use Rattle.idl_lex.specs.declared.span.Span.{Span}
use Rattle.idl_parse.specs.declared.tree.func.ParamTree.{ParamTree}
use Rattle.idl_parse.specs.declared.tree.type_tree.TypeTree.{TypeTree}
use Rattle.idl_scene.specs.Faults.{is_below}
use Rattle.idl_scene.specs.Items.{What, Item}
use Rattle.idl_scene.specs.Known.{Scene}
use Rattle.idl_scene.specs.declared.check_fault.Fault.{Fault}
use Rattle.idl_rules.specs.Conditions.{Rule, State, at_first, scene_at, state_with_what, include_rules, block_rules, declaration_rules, type_rules, member_rules, enumerator_rules, const_rules, key_rules, param_rules}
use Rattle.idl_rules.specs.Parts.{NameList, includes_of, blocks_of, declarations_of, types_of, name_lists_of, members_of, enumerators_of, consts_of, keys_of, params_of}
use Rattle.idl_rules.specs.Rules.{twice_in_list, reserved_in_list, too_many_in_list}
use Rattle.idl_rules.specs.declared.walk.Walk.{Walk}

abbrev pub at_scene : {Part : Type 0} → List (Rule Part) → Scene → List (Condition Part Fault)
at_scene [] s = []
at_scene (rule ∷ rules) s = rule s ∷ at_scene rules s

-- what all rules find at a part, with the parts before it
abbrev pub found_at : {Part : Type 0} → List (Rule Part) → Scene → Condition Part Fault
found_at rules s = together (at_scene rules s)

-- what they find in parts, one after the other
abbrev pub found_in : {Part : Type 0} → List (Rule Part) → Scene → List Part → List Fault
found_in rules s parts = found_after (found_at rules s) [] parts

-- what is found at one type
abbrev pub type_faults : Scene → TypeTree → List Fault
type_faults s ty = found_at type_rules s [] ty

abbrev pub types_faults : Scene → List TypeTree → List Fault
types_faults s types = flat_map (type_faults s) types

abbrev pub param_faults : Scene → ParamTree → List Fault
param_faults s p = found_at param_rules s [] p

abbrev pub params_faults : Scene → List ParamTree → List Fault
params_faults s params = flat_map (param_faults s) params

-- what is found at one name of a list
abbrev pub name_faults : Scene → NameList → Condition Span Fault
name_faults s list = together (twice_in_list s list ∷ reserved_in_list s list ∷ too_many_in_list s list ∷ [])

abbrev pub list_faults : Scene → NameList → List Fault
list_faults s list = found_after (name_faults s list) [] list.names

abbrev pub lists_faults : Scene → List NameList → List Fault
lists_faults s lists = flat_map (list_faults s) lists

-- what is found in the parts of an item that have no rules of names and types
abbrev pub parts_faults : Scene → What → List Fault
parts_faults s what =
    found_in member_rules s (members_of what)
    ++ (found_in enumerator_rules s (enumerators_of what)
    ++ (found_in const_rules s (consts_of what)
    ++ (found_in key_rules s (keys_of what)
    ++ params_faults s (params_of what))))

-- what is found in an item
abbrev pub judged_faults : Scene → What → List Fault
judged_faults s what =
    found_in include_rules s (includes_of what)
    ++ (found_in block_rules s (blocks_of what)
    ++ (found_in declaration_rules s (declarations_of what)
    ++ (types_faults s (types_of what)
    ++ (lists_faults s (name_lists_of what) ++ parts_faults s what))))

-- what is known after some items, and the least fault of them
pub record Judged : Type 0 where
  pub state : State
  pub least : Option Fault

abbrev pub judged_with : Judged → Item → Judged
judged_with j i = record {
  state = state_with_what (scene_at j.state i) i.what;
  least = lesser is_below j.least (least_of is_below (judged_faults (scene_at j.state i) i.what));
}

abbrev pub judged_after : Judged → List Item → Judged
judged_after j items = fold judged_with j items

abbrev pub judged_first : Judged
judged_first = record { state = at_first; least = None }

abbrev pub judged_of : Walk → Judged
judged_of w = record { state = record { known = w.names; room = w.room }; least = w.least }
