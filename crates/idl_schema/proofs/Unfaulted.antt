-- Where files have no fault, no rule finds anything in any item.
use Rattle.std.proofs.Common.{◌≡◌, List, [], ◌∷◌, ◌++◌, refl, ap, ◌∙◌}
use Rattle.least_fault.specs.Conditions.{Condition, found_after, found_by, together}
use Rattle.least_fault.proofs.Walks.{nothing_in, nothing_at}
use Rattle.idl_scene.specs.Items.{Item}
use Rattle.idl_scene.specs.declared.check_fault.Fault.{Fault}
use Rattle.idl_rules.specs.Conditions.{conditions, scene_at, state_after}
use Rattle.idl_schema.specs.Faultless.{NoFault}

together_nothing : (cs : List (Condition Item Fault)) (before after : List Item) (i : Item) → found_by cs (before ++ i ∷ after) ≡ [] → together cs before i ≡ []
together_nothing [] before after i e = refl
together_nothing (c ∷ cs) before after i e =
    let two = nothing_in (found_after c [] (before ++ i ∷ after)) (found_by cs (before ++ i ∷ after)) e in
    ap (λ l. l ++ together cs before i) (nothing_at c [] before after i two.0) ∙ together_nothing cs before after i two.1

abbrev rest_nothing : {A : Type 0} (xs ys : List A) → xs ++ ys ≡ [] → ys ≡ []
rest_nothing xs ys e = (nothing_in xs ys e).1

pub no_fault : (before after : List Item) (i : Item) → found_by conditions (before ++ i ∷ after) ≡ [] → NoFault (scene_at (state_after before) i) i.what
no_fault before after i e =
    let e0 = together_nothing conditions before after i e in
    let c1 = nothing_in _ _ e0 in
    let c2 = nothing_in _ _ c1.1 in
    let d1 = nothing_in _ _ c2.1 in
    let d2 = nothing_in _ _ d1.1 in
    let d3 = nothing_in _ _ d2.1 in
    let d4 = nothing_in _ _ d3.1 in
    let d5 = nothing_in _ _ d4.1 in
    let t1 = nothing_in _ _ d5.1 in
    let t2 = nothing_in _ _ t1.1 in
    let t3 = nothing_in _ _ t2.1 in
    let t4 = nothing_in _ _ t3.1 in
    let t5 = nothing_in _ _ t4.1 in
    let n1 = nothing_in _ _ t5.1 in
    let n2 = nothing_in _ _ n1.1 in
    let n3 = nothing_in _ _ n2.1 in
    let m1 = nothing_in _ _ n3.1 in
    let m2 = nothing_in _ _ m1.1 in
    let m3 = nothing_in _ _ m2.1 in
    let m4 = nothing_in _ _ m3.1 in
    let i1 = nothing_in _ _ m4.1 in
    let k1 = nothing_in _ _ i1.1 in
    let y1 = nothing_in _ _ k1.1 in
    let y2 = nothing_in _ _ y1.1 in
    record {
      reserved_block = c2.0;
      twice_declared = d1.0;
      reserved_name = d2.0;
      deep_struct = d3.0;
      too_many = d4.0;
      large_default = d5.0;
      unknown_type = t1.0;
      float = t2.0;
      bad_key = t3.0;
      deep_type = t4.0;
      unsigned_bytes = t5.0;
      twice_in_list = n1.0;
      reserved_in_list = n2.0;
      too_many_in_list = n3.0;
      twice_tag = m1.0;
      tag_range = m2.0;
      bad_default = m3.0;
      bad_number = i1.0;
      bad_const = k1.0;
      unknown_struct = y1.0;
      unknown_members = y2.0;
    }
