-- Judging each item by one group of rules after the other finds the least fault that the conditions find.
use Rattle.std.proofs.Common.{◌≡◌, Option, None, List, [], ◌∷◌, ◌++◌, fold, refl, sym, ap, ◌∙◌, append_assoc}
use Rattle.least_fault.specs.Conditions.{Condition, found_after, found_by, together}
use Rattle.least_fault.specs.Least.{lesser, least_of}
use Rattle.least_fault.proofs.Lesser.{lesser_none, lesser_assoc, least_append}
use Rattle.least_fault.proofs.Together.{least_together}
use Rattle.idl_parse.specs.declared.tree.func.ParamTree.{ParamTree}
use Rattle.idl_parse.specs.declared.tree.type_tree.TypeTree.{TypeTree}
use Rattle.idl_scene.specs.Faults.{is_below}
use Rattle.idl_scene.specs.Items.{What, Item}
use Rattle.idl_scene.specs.Known.{Scene}
use Rattle.idl_scene.specs.declared.check_fault.Fault.{Fault}
use Rattle.idl_scene.proofs.FaultLaws.{order}
use Rattle.idl_rules.specs.Conditions.{Rule, all_of, State, scene_at, state_with, state_after, at_first, include_rules, block_rules, declaration_rules, type_rules, name_rules, member_rules, enumerator_rules, const_rules, key_rules, param_rules, conditions}
use Rattle.idl_rules.specs.JudgeSteps.{at_scene, found_at, found_in, type_faults, types_faults, param_faults, params_faults, list_faults, lists_faults, judged_faults, Judged, judged_after}
use Rattle.idl_rules.specs.Parts.{NameList, includes_of, blocks_of, declarations_of, types_of, name_lists_of, members_of, enumerators_of, consts_of, keys_of, params_of}
use Rattle.idl_rules.specs.Rules.{twice_in_list, reserved_in_list, too_many_in_list}

abbrev least : List Fault → Option Fault
least faults = least_of is_below faults

-- ---- groups of rules

module _ (before : List Item) (i : Item) where
  all_together : {Part : Type 0} (parts : What → List Part) (rules : List (Rule Part)) → together (all_of parts rules) before i ≡ found_by (at_scene rules (scene_at (state_after before) i)) (parts i.what)
  all_together parts [] = refl
  all_together parts (rule ∷ rules) = ap (λ l. found_after (rule (scene_at (state_after before) i)) [] (parts i.what) ++ l) (all_together parts rules)

  group_least : {Part : Type 0} (parts : What → List Part) (rules : List (Rule Part)) → least (together (all_of parts rules) before i) ≡ least (found_in rules (scene_at (state_after before) i) (parts i.what))
  group_least parts rules = ap least (all_together parts rules) ∙ least_together is_below order (at_scene rules (scene_at (state_after before) i)) (parts i.what)

  both_together : (first second : List (Condition Item Fault)) → together (first ++ second) before i ≡ together first before i ++ together second before i
  both_together [] second = refl
  both_together (a ∷ first) second = ap (λ l. a before i ++ l) (both_together first second) ∙ sym (append_assoc (a before i) (together first before i) (together second before i))

pair_least : (xs xs' ys ys' : List Fault) → least xs ≡ least xs' → least ys ≡ least ys' → least (xs ++ ys) ≡ least (xs' ++ ys')
pair_least xs xs' ys ys' x y =
    least_append is_below order xs ys ∙ ap (λ o. lesser is_below o (least ys)) x ∙ ap (lesser is_below (least xs')) y ∙ sym (least_append is_below order xs' ys')

module _ (s : Scene) where
  types_flat : (before types : List TypeTree) → found_after (found_at type_rules s) before types ≡ types_faults s types
  types_flat before [] = refl
  types_flat before (ty ∷ types) = ap (λ l. type_faults s ty ++ l) (types_flat (before ++ ty ∷ []) types)

  params_flat : (before params : List ParamTree) → found_after (found_at param_rules s) before params ≡ params_faults s params
  params_flat before [] = refl
  params_flat before (p ∷ params) = ap (λ l. param_faults s p ++ l) (params_flat (before ++ p ∷ []) params)

  list_least : (before : List NameList) (list : NameList) → least (found_at name_rules s before list) ≡ least (list_faults s list)
  list_least before list = least_together is_below order (twice_in_list s list ∷ reserved_in_list s list ∷ too_many_in_list s list ∷ []) list.names

  lists_least : (before lists : List NameList) → least (found_after (found_at name_rules s) before lists) ≡ least (lists_faults s lists)
  lists_least before [] = refl
  lists_least before (list ∷ lists) =
      pair_least (found_at name_rules s before list) (list_faults s list) (found_after (found_at name_rules s) (before ++ list ∷ []) lists) (lists_faults s lists)
      (list_least before list) (lists_least (before ++ list ∷ []) lists)

-- what conditions find at an item has this least
record HasLeast (before : List Item) (i : Item) (found : List (Condition Item Fault)) (faults : List Fault) : Type 0 where
  same : least (together found before i) ≡ least faults

joined : {before : List Item} {i : Item} {first second : List (Condition Item Fault)} {xs ys : List Fault} → HasLeast before i first xs → HasLeast before i second ys → HasLeast before i (first ++ second) (xs ++ ys)
joined {before} {i} {first} {second} {xs} {ys} a b = record {
  same = ap least (both_together before i first second) ∙ pair_least (together first before i) xs (together second before i) ys a.same b.same;
}

module _ (before : List Item) (i : Item) where
  group : {Part : Type 0} (parts : What → List Part) (rules : List (Rule Part)) → HasLeast before i (all_of parts rules) (found_in rules (scene_at (state_after before) i) (parts i.what))
  group parts rules = record { same = group_least before i parts rules }

  -- at one item
  conditions_least : least (together conditions before i) ≡ least (judged_faults (scene_at (state_after before) i) i.what)
  conditions_least =
      let s = scene_at (state_after before) i in
      let types : HasLeast before i (all_of types_of type_rules) (types_faults s (types_of i.what)) =
      record { same = group_least before i types_of type_rules ∙ ap least (types_flat s [] (types_of i.what)) } in
      let lists : HasLeast before i (all_of name_lists_of name_rules) (lists_faults s (name_lists_of i.what)) =
      record { same = group_least before i name_lists_of name_rules ∙ lists_least s [] (name_lists_of i.what) } in
      let params : HasLeast before i (all_of params_of param_rules) (params_faults s (params_of i.what)) =
      record { same = group_least before i params_of param_rules ∙ ap least (params_flat s [] (params_of i.what)) } in
      (joined (group includes_of include_rules) (joined (group blocks_of block_rules) (joined (group declarations_of declaration_rules) (joined types (joined lists
      (joined (group members_of member_rules) (joined (group enumerators_of enumerator_rules) (joined (group consts_of const_rules) (joined (group keys_of key_rules) params))))))))).same

-- ---- all items

state_next : (state : State) (items : List Item) (i : Item) → fold state_with state (items ++ i ∷ []) ≡ state_with (fold state_with state items) i
state_next state [] i = refl
state_next state (j ∷ items) i = state_next (state_with state j) items i

abbrev judged : State → Option Fault → Judged
judged state o = record { state = state; least = o }

judged_all : (before items : List Item) (o : Option Fault) → (judged_after (judged (state_after before) o) items).least ≡ lesser is_below o (least (found_after (together conditions) before items))
judged_all before [] o = sym (lesser_none is_below o)
judged_all before (i ∷ items) o =
    let here = judged_faults (scene_at (state_after before) i) i.what in
    let next = lesser is_below o (least here) in
    let found = together conditions before i in
    let rest = found_after (together conditions) (before ++ i ∷ []) items in
    ap (λ s. (judged_after (judged s next) items).least) (sym (state_next at_first before i))
    ∙ judged_all (before ++ i ∷ []) items next
    ∙ ap (λ h. lesser is_below (lesser is_below o h) (least rest)) (sym (conditions_least before i))
    ∙ lesser_assoc is_below order o (least found) (least rest)
    ∙ ap (lesser is_below o) (sym (least_append is_below order found rest))

-- judging all items finds the least of all faults
pub judged_least : (items : List Item) → (judged_after (judged at_first None) items).least ≡ least_of is_below (found_by conditions items)
judged_least items = judged_all [] items None ∙ sym (least_together is_below order conditions items)
