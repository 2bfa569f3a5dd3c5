-- Where names that are types stand.
use Rattle.std.proofs.Common.{◌≡◌, subst, ℕ, List, sym, ap, ◌∙◌}
use Rattle.idl_parse.specs.TreeSpans.{ScopedIn, TypeIn, basic, named, vector, map}
use Rattle.idl_parse.specs.declared.tree.type_tree.ScopedName.{ScopedName}
use Rattle.idl_parse.specs.declared.tree.type_tree.TypeTree.{TypeTree, out-TypeTree}
use Rattle.idl_parse.specs.declared.tree.type_tree.TypeTree.TheOpen as layer
use Rattle.idl_parse.specs.declared.tree.type_tree.TypeTree.TheVariants as types
use Rattle.idl_parse.specs.declared.tree.type_tree.TypeTree.TheVariants.{outs-Basic, outs-Vector, outs-Map, outs-Named}

-- a name that is a type stands where the type does
pub named_in : (text : List ℕ) (t : TypeTree) (name : ScopedName) → TypeIn text t → t ≡ types.Named name → ScopedIn text name
named_in text t name (basic {at = at} {word = word} is) e =
    let p : ◌≡◌ {A = layer.TypeTree-F TypeTree} (layer.Basic at word) (layer.Named name) = sym (ap out-TypeTree is ∙ outs-Basic at word) ∙ ap out-TypeTree e ∙ outs-Named name in cc
named_in text t name (named {name = other} is inside) e =
    let p : ◌≡◌ {A = layer.TypeTree-F TypeTree} (layer.Named other) (layer.Named name) = sym (ap out-TypeTree is ∙ outs-Named other) ∙ ap out-TypeTree e ∙ outs-Named name in
    let q : other ≡ name = cc in
    subst (ScopedIn text) q inside
named_in text t name (vector {element = element} {at = at} is inside) e =
    let p : ◌≡◌ {A = layer.TypeTree-F TypeTree} (layer.Vector at element) (layer.Named name) = sym (ap out-TypeTree is ∙ outs-Vector at element) ∙ ap out-TypeTree e ∙ outs-Named name in cc
named_in text t name (map {key = key} {value = value} {at = at} is inside_key inside_value) e =
    let p : ◌≡◌ {A = layer.TypeTree-F TypeTree} (layer.Map at key value) (layer.Named name) = sym (ap out-TypeTree is ∙ outs-Map at key value) ∙ ap out-TypeTree e ∙ outs-Named name in cc
