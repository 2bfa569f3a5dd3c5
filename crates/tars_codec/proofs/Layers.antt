-- One level of a value: what stands for it, and that it is the value's.
use Rattle.std.proofs.Common.{◌≡◌, ℕ, Bool, List, ℤ, map, sym, ap, ◌∙◌}
use Rattle.tars_model.specs.Declarations.{Declared}
use Rattle.tars_model.specs.Types.{TyLayer}
use Rattle.tars_model.specs.Values.{Told, fits_layer, told, told_entry}
use Rattle.tars_model.proofs.CallerLemmas.{told_out}
use Rattle.tars_model.specs.declared.ty.Ty.{Ty, out-Ty}
use Rattle.tars_model.specs.declared.value.Value.{Value, out-Value, map-Value, fold_out-Value, roll-Value, roll-out-Value}
use Rattle.tars_model.specs.declared.value.Value.TheVariants as values
use Rattle.tars_model.specs.declared.value.Value.TheVariants.{outs-Bool, outs-Num, outs-Text, outs-Blob, outs-List, outs-Map, outs-Struct}
use Rattle.tars_model.specs.declared.value.Value.TheOpen as value
use Rattle.tars_model.specs.declared.value.Pair.{Pair, out-Pair, fold_out-Pair}
use Rattle.wire_words.specs.Tree.{whole, simple_list}
use Rattle.wire_words.specs.Spelling.{shortest}
use Rattle.tars_codec.specs.Written.{Writing, bool_number, wire_text, wire_list, wire_map, wire_struct, wire_layer, wire_pair, wire_value, wire_entry}

abbrev pub ValueLayer : Type 0
ValueLayer = value.Value-F Value Pair

-- what stands for a value, by its level
abbrev pub wire_of_layer : ValueLayer → Writing
wire_of_layer l = wire_layer (map-Value Value Pair Writing (Writing × Writing) wire_value wire_entry l)

pub wire_value-out : (v : Value) → wire_value v ≡ wire_of_layer (out-Value v)
unfolding wire_value wire_entry
wire_value-out v = fold_out-Value Writing (Writing × Writing) wire_layer wire_pair v

pub wire_entry_out : (p : Pair) → wire_entry p ≡ (wire_value (out-Pair p).key, wire_value (out-Pair p).value)
unfolding wire_value wire_entry
wire_entry_out p = fold_out-Pair Writing (Writing × Writing) wire_layer wire_pair p

-- a value of a level
pub wire_value_at : (v : Value) (l : ValueLayer) → out-Value v ≡ l → wire_value v ≡ wire_of_layer l
wire_value_at v l e = wire_value-out v ∙ ap wire_of_layer e

pub value_of_layer : (v : Value) (l : ValueLayer) → out-Value v ≡ l → v ≡ roll-Value l
value_of_layer v l e = sym (roll-out-Value v) ∙ ap roll-Value e

-- whether a level fits a type's
abbrev pub layer_fits : Declared → TyLayer → ValueLayer → Bool
layer_fits d k l = fits_layer (map-Value Value Pair Told (Told × Told) told told_entry l) d k

pub fits_out : (v : Value) (d : Declared) (t : Ty) → (told v).fits d t ≡ layer_fits d (out-Ty t) (out-Value v)
unfolding told told_entry
fits_out v d t = ap (λ (w : Told). w.fits d t) (told_out v)

-- ---- what stands for a value of each kind

module _ (v : Value) (d : Declared) (t : Ty) where
  wire_at : (l : ValueLayer) → out-Value v ≡ l → wire_value v d t ≡ wire_of_layer l d t
  wire_at l e = ap (λ (w : Writing). w d t) (wire_value_at v l e)

  pub bool_wire : (b : Bool) → v ≡ values.Bool b → wire_value v d t ≡ whole (shortest (bool_number b))
  bool_wire b is = wire_at (value.Bool b) (ap out-Value is ∙ outs-Bool b)

  pub num_wire : (n : ℤ) → v ≡ values.Num n → wire_value v d t ≡ whole (shortest n)
  num_wire n is = wire_at (value.Num n) (ap out-Value is ∙ outs-Num n)

  pub text_wire : (bytes : List ℕ) → v ≡ values.Text bytes → wire_value v d t ≡ wire_text bytes
  text_wire bytes is = wire_at (value.Text bytes) (ap out-Value is ∙ outs-Text bytes)

  pub blob_wire : (bytes : List ℕ) → v ≡ values.Blob bytes → wire_value v d t ≡ simple_list bytes
  blob_wire bytes is = wire_at (value.Blob bytes) (ap out-Value is ∙ outs-Blob bytes)

  pub list_wire : (vs : List Value) → v ≡ values.List vs → wire_value v d t ≡ wire_list (map wire_value vs) d (out-Ty t)
  list_wire vs is = wire_at (value.List vs) (ap out-Value is ∙ outs-List vs)

  pub map_wire : (ps : List Pair) → v ≡ values.Map ps → wire_value v d t ≡ wire_map (map wire_entry ps) d (out-Ty t)
  map_wire ps is = wire_at (value.Map ps) (ap out-Value is ∙ outs-Map ps)

  pub struct_wire : (vs : List Value) → v ≡ values.Struct vs → wire_value v d t ≡ wire_struct (map wire_value vs) d (out-Ty t)
  struct_wire vs is = wire_at (value.Struct vs) (ap out-Value is ∙ outs-Struct vs)
