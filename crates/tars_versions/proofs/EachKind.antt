-- What is made of a value of each kind.
use Rattle.std.proofs.Common.{◌≡◌, Bool, ℤ, ℕ, List, map, ap, ◌∙◌}
use Rattle.tars_model.specs.Declarations.{Declared}
use Rattle.tars_model.specs.declared.ty.Ty.{Ty, out-Ty}
use Rattle.tars_model.specs.declared.value.Value.{Value, out-Value, map-Value, fold_out-Value}
use Rattle.tars_model.specs.declared.value.Value.TheOpen as value
use Rattle.tars_model.specs.declared.value.Value.TheVariants as values
use Rattle.tars_model.specs.declared.value.Value.TheVariants.{outs-Bool, outs-Num, outs-Text, outs-Blob, outs-List, outs-Map, outs-Struct}
use Rattle.tars_model.specs.declared.value.Pair.{Pair, out-Pair, fold_out-Pair}
use Rattle.tars_decode.specs.Reads.{text_as, blob_as}
use Rattle.tars_codec.specs.Written.{bool_number}
use Rattle.tars_versions.specs.Projected.{Projecting, number_under, list_under, map_under, struct_under, project_layer, project_pair, projected, projected_entry}

abbrev projected_of : value.Value-F Value Pair → Projecting
projected_of l = project_layer (map-Value Value Pair Projecting (Projecting × Projecting) projected projected_entry l)

projected_out : (v : Value) → projected v ≡ projected_of (out-Value v)
unfolding projected projected_entry
projected_out v = fold_out-Value Projecting (Projecting × Projecting) project_layer project_pair v

pub projected_entry_out : (p : Pair) → projected_entry p ≡ (projected (out-Pair p).key, projected (out-Pair p).value)
unfolding projected projected_entry
projected_entry_out p = fold_out-Pair Projecting (Projecting × Projecting) project_layer project_pair p

module _ (d : Declared) (t : Ty) (d' : Declared) (t' : Ty) where
  at_layer : (v : Value) (l : value.Value-F Value Pair) → out-Value v ≡ l → projected v d t d' t' ≡ projected_of l d t d' t'
  at_layer v l e = ap (λ (w : Projecting). w d t d' t') (projected_out v ∙ ap projected_of e)

  pub bool_projected : (b : Bool) → projected (values.Bool b) d t d' t' ≡ number_under (bool_number b) (out-Ty t')
  bool_projected b = at_layer (values.Bool b) (value.Bool b) (outs-Bool b)

  pub num_projected : (n : ℤ) → projected (values.Num n) d t d' t' ≡ number_under n (out-Ty t')
  num_projected n = at_layer (values.Num n) (value.Num n) (outs-Num n)

  pub text_projected : (bytes : List ℕ) → projected (values.Text bytes) d t d' t' ≡ text_as bytes (out-Ty t')
  text_projected bytes = at_layer (values.Text bytes) (value.Text bytes) (outs-Text bytes)

  pub blob_projected : (bytes : List ℕ) → projected (values.Blob bytes) d t d' t' ≡ blob_as bytes (out-Ty t')
  blob_projected bytes = at_layer (values.Blob bytes) (value.Blob bytes) (outs-Blob bytes)

  pub list_projected : (vs : List Value) → projected (values.List vs) d t d' t' ≡ list_under (map projected vs) d (out-Ty t) d' (out-Ty t')
  list_projected vs = at_layer (values.List vs) (value.List vs) (outs-List vs)

  pub map_projected : (ps : List Pair) → projected (values.Map ps) d t d' t' ≡ map_under (map projected_entry ps) d (out-Ty t) d' (out-Ty t')
  map_projected ps = at_layer (values.Map ps) (value.Map ps) (outs-Map ps)

  pub struct_projected : (vs : List Value) → projected (values.Struct vs) d t d' t' ≡ struct_under (map projected vs) d (out-Ty t) d' (out-Ty t')
  struct_projected vs = at_layer (values.Struct vs) (value.Struct vs) (outs-Struct vs)
