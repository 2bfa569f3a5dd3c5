-- Where each item passes all rules, no fault is found in all of them.
use Rattle.std.proofs.Common.{◌≡◌, List, [], ◌∷◌, ◌++◌, fold, refl, sym, subst}
use Rattle.std.proofs.lemmas.Grind.{fold-append}
use Rattle.least_fault.specs.Conditions.{Condition, found_after, found_by, together}
use Rattle.least_fault.proofs.Walks.{nothing_in}
use Rattle.idl_scene.specs.Items.{Item}
use Rattle.idl_scene.specs.declared.check_fault.Fault.{Fault}
use Rattle.idl_rules.specs.Conditions.{State, conditions, at_first, scene_at, state_with, state_after}
use Rattle.idl_check.proofs.Finding.{both_nothing}
use Rattle.idl_check.proofs.Passing.{Passes}

-- the conditions find nothing at any of the items that stand after others
abbrev Quiet : List (Condition Item Fault) → List Item → List Item → Type 0
Quiet cs before [] = Unit {0}
Quiet cs before (i ∷ items) = (together cs before i ≡ []) × Quiet cs (before ++ i ∷ []) items

first_quiet : (c : Condition Item Fault) (cs : List (Condition Item Fault)) (before items : List Item) → Quiet (c ∷ cs) before items → found_after c before items ≡ []
first_quiet c cs before [] quiet = refl
first_quiet c cs before (i ∷ items) quiet =
    both_nothing (c before i) (found_after c (before ++ i ∷ []) items) (nothing_in (c before i) (together cs before i) quiet.0).0 (first_quiet c cs (before ++ i ∷ []) items quiet.1)

others_quiet : (c : Condition Item Fault) (cs : List (Condition Item Fault)) (before items : List Item) → Quiet (c ∷ cs) before items → Quiet cs before items
others_quiet c cs before [] quiet = tt
others_quiet c cs before (i ∷ items) quiet = ((nothing_in (c before i) (together cs before i) quiet.0).1, others_quiet c cs (before ++ i ∷ []) items quiet.1)

all_quiet : (cs : List (Condition Item Fault)) (items : List Item) → Quiet cs [] items → found_by cs items ≡ []
all_quiet [] items quiet = refl
all_quiet (c ∷ cs) items quiet = both_nothing (found_after c [] items) (found_by cs items) (first_quiet c cs [] items quiet) (all_quiet cs items (others_quiet c cs [] items quiet))

-- ---- one item

one_quiet : (before : List Item) (i : Item) → Passes (scene_at (state_after before) i) i.what → together conditions before i ≡ []
one_quiet before i p =
    let f = p.no_fault in
    both_nothing _ _ p.no_include
    (both_nothing _ _ f.reserved_block
    (both_nothing _ _ f.twice_declared (both_nothing _ _ f.reserved_name (both_nothing _ _ f.deep_struct (both_nothing _ _ f.too_many (both_nothing _ _ f.large_default
    (both_nothing _ _ f.unknown_type (both_nothing _ _ f.float (both_nothing _ _ f.bad_key (both_nothing _ _ f.deep_type (both_nothing _ _ f.unsigned_bytes
    (both_nothing _ _ f.twice_in_list (both_nothing _ _ f.reserved_in_list (both_nothing _ _ f.too_many_in_list
    (both_nothing _ _ f.twice_tag (both_nothing _ _ f.tag_range (both_nothing _ _ f.bad_default (both_nothing _ _ p.array
    (both_nothing _ _ f.bad_number (both_nothing _ _ f.bad_const (both_nothing _ _ f.unknown_struct (both_nothing _ _ f.unknown_members (both_nothing _ _ p.routekey refl)))))))))))))))))))))))

-- ---- all items

-- each item passes, where it stands after those before it
abbrev pub AllPass : State → List Item → Type 0
AllPass state [] = Unit {0}
AllPass state (i ∷ items) = Passes (scene_at state i) i.what × AllPass (state_with state i) items

pub all_pass : (state : State) (xs ys : List Item) → AllPass state xs → AllPass (fold state_with state xs) ys → AllPass state (xs ++ ys)
all_pass state [] ys first then = then
all_pass state (x ∷ xs) ys first then = (first.0, all_pass (state_with state x) xs ys first.1 then)

quiet_items : (before items : List Item) → AllPass (state_after before) items → Quiet conditions before items
quiet_items before [] pass = tt
quiet_items before (i ∷ items) pass = (
  one_quiet before i pass.0,
  quiet_items (before ++ i ∷ []) items (subst (λ state. AllPass state items) (sym (fold-append state_with at_first before (i ∷ []))) pass.1),
)

pub nothing_found : (items : List Item) → AllPass at_first items → found_by conditions items ≡ []
nothing_found items pass = all_quiet conditions items (quiet_items [] items pass)
