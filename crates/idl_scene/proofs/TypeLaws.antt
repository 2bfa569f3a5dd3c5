-- The types that stand in a type.
use Rattle.std.proofs.Common.{◌≡◌, subst, ℕ, List, [], ◌∷◌, ◌++◌, sym, ap, ◌∙◌}
use Rattle.idl_parse.specs.declared.tree.type_tree.BasicType.{BasicType}
use Rattle.idl_parse.specs.declared.tree.type_tree.ScopedName.{ScopedName}
use Rattle.idl_parse.specs.declared.tree.type_tree.TypeTree.{TypeTree, out-TypeTree, roll-TypeTree, map-TypeTree, fold-TypeTree, ind-TypeTree, fold-roll-TypeTree, fold_out-TypeTree}
use Rattle.idl_parse.specs.declared.tree.type_tree.TypeTree.TheOpen as layer
use Rattle.idl_parse.specs.declared.tree.type_tree.TypeTree.TheVariants as types
use Rattle.idl_parse.specs.declared.tree.type_tree.TypeTree.TheVariants.{outs-Basic, outs-Vector, outs-Map, outs-Named}
use Rattle.idl_scene.specs.Types.{TypesOf, types_inside, types_layer, types_in}

abbrev folded : TypeTree → TypesOf
folded t = fold-TypeTree TypesOf types_layer t

abbrev IsWhole : TypeTree → Type 0
IsWhole t = (folded t).0 ≡ t

whole : (t : TypeTree) → IsWhole t
whole t = ind-TypeTree IsWhole
    (λ x y e. subst (λ (x : layer.TypeTree-F TypeTree). IsWhole (roll-TypeTree x)) e
    (elim y as (λ y. IsWhole (roll-TypeTree (map-TypeTree _ TypeTree (λ e. e.0) y))) [
      | layer.Basic at basic ↦ ap (λ (t : TypesOf). t.0) (fold-roll-TypeTree TypesOf types_layer (layer.Basic at basic))
      | layer.Vector at element ↦ ap (λ (t : TypesOf). t.0) (fold-roll-TypeTree TypesOf types_layer (layer.Vector at element.0)) ∙ ap (λ (t : TypeTree). roll-TypeTree (layer.Vector at t)) element.1
      | layer.Map at key value ↦ ap (λ (t : TypesOf). t.0) (fold-roll-TypeTree TypesOf types_layer (layer.Map at key.0 value.0))
          ∙ ap (λ (t : TypeTree). roll-TypeTree (layer.Map at t (folded value.0).0)) key.1 ∙ ap (λ (t : TypeTree). roll-TypeTree (layer.Map at key.0 t)) value.1
      | layer.Named name ↦ ap (λ (t : TypesOf). t.0) (fold-roll-TypeTree TypesOf types_layer (layer.Named name))
    ])) t

abbrev inside : layer.TypeTree-F TypeTree → List TypeTree
inside l = types_inside (map-TypeTree TypeTree TypesOf folded l)

types_at : (t : TypeTree) (l : layer.TypeTree-F TypeTree) → out-TypeTree t ≡ l → types_in t ≡ t ∷ inside l
unfolding types_in
types_at t l e =
    let p = fold_out-TypeTree TypesOf types_layer t in
    ap (λ (t : TypesOf). t.1) p ∙ ap (λ w. w ∷ inside (out-TypeTree t)) (sym (ap (λ (t : TypesOf). t.0) p) ∙ whole t) ∙ ap (λ l. t ∷ inside l) e

pub types_basic : (t : TypeTree) (at : ℕ) (basic : BasicType) → t ≡ types.Basic at basic → types_in t ≡ t ∷ []
types_basic t at basic is = types_at t (layer.Basic at basic) (ap out-TypeTree is ∙ outs-Basic at basic)

pub types_named : (t : TypeTree) (name : ScopedName) → t ≡ types.Named name → types_in t ≡ t ∷ []
types_named t name is = types_at t (layer.Named name) (ap out-TypeTree is ∙ outs-Named name)

pub types_vector : (t : TypeTree) (at : ℕ) (element : TypeTree) → t ≡ types.Vector at element → types_in t ≡ t ∷ types_in element
unfolding types_in
types_vector t at element is = types_at t (layer.Vector at element) (ap out-TypeTree is ∙ outs-Vector at element)

pub types_map : (t : TypeTree) (at : ℕ) (key value : TypeTree) → t ≡ types.Map at key value → types_in t ≡ t ∷ (types_in key ++ types_in value)
unfolding types_in
types_map t at key value is = types_at t (layer.Map at key value) (ap out-TypeTree is ∙ outs-Map at key value)
