-- One level of a value: what is printed for it.
use Rattle.std.proofs.Common.{◌≡◌, ℕ, Bool, List, ℤ, map, ap, ◌∙◌}
use Rattle.std.specs.Fmt.{signed_decimal}
use Rattle.canonical_text.specs.Canonical.{truth_word, quoted}
use Rattle.tars_model.specs.Declarations.{Declared}
use Rattle.tars_model.specs.declared.ty.Ty.{Ty, out-Ty}
use Rattle.tars_model.specs.declared.value.Value.{Value, out-Value, map-Value, fold_out-Value}
use Rattle.tars_model.specs.declared.value.Value.TheVariants as values
use Rattle.tars_model.specs.declared.value.Value.TheVariants.{outs-Bool, outs-Num, outs-Text, outs-Blob, outs-List, outs-Map, outs-Struct}
use Rattle.tars_model.specs.declared.value.Value.TheOpen as value
use Rattle.tars_model.specs.declared.value.Pair.{Pair, out-Pair, fold_out-Pair}
use Rattle.value_text.specs.Printed.{Printing, blob_text, list_text, map_text, struct_text, printed_layer, printed_pair, printing, entry_printing}

abbrev pub ValueLayer : Type 0
ValueLayer = value.Value-F Value Pair

-- what is printed for a value, by its level
abbrev pub printed_of_layer : ValueLayer → Printing
printed_of_layer l = printed_layer (map-Value Value Pair Printing (Printing × Printing) printing entry_printing l)

pub printing_out : (v : Value) → printing v ≡ printed_of_layer (out-Value v)
unfolding printing entry_printing
printing_out v = fold_out-Value Printing (Printing × Printing) printed_layer printed_pair v

pub entry_printing_out : (p : Pair) → entry_printing p ≡ (printing (out-Pair p).key, printing (out-Pair p).value)
unfolding printing entry_printing
entry_printing_out p = fold_out-Pair Printing (Printing × Printing) printed_layer printed_pair p

module _ (v : Value) (d : Declared) (t : Ty) where
  printed_at : (l : ValueLayer) → out-Value v ≡ l → printing v d t ≡ printed_of_layer l d t
  printed_at l e = ap (λ (w : Printing). w d t) (printing_out v ∙ ap printed_of_layer e)

  pub bool_printed : (b : Bool) → v ≡ values.Bool b → printing v d t ≡ truth_word b
  bool_printed b is = printed_at (value.Bool b) (ap out-Value is ∙ outs-Bool b)

  pub num_printed : (n : ℤ) → v ≡ values.Num n → printing v d t ≡ signed_decimal n
  num_printed n is = printed_at (value.Num n) (ap out-Value is ∙ outs-Num n)

  pub text_printed : (bytes : List ℕ) → v ≡ values.Text bytes → printing v d t ≡ quoted bytes
  text_printed bytes is = printed_at (value.Text bytes) (ap out-Value is ∙ outs-Text bytes)

  pub blob_printed : (bytes : List ℕ) → v ≡ values.Blob bytes → printing v d t ≡ blob_text bytes
  blob_printed bytes is = printed_at (value.Blob bytes) (ap out-Value is ∙ outs-Blob bytes)

  pub list_printed : (vs : List Value) → v ≡ values.List vs → printing v d t ≡ list_text (map printing vs) d (out-Ty t)
  list_printed vs is = printed_at (value.List vs) (ap out-Value is ∙ outs-List vs)

  pub map_printed : (ps : List Pair) → v ≡ values.Map ps → printing v d t ≡ map_text (map entry_printing ps) d (out-Ty t)
  map_printed ps is = printed_at (value.Map ps) (ap out-Value is ∙ outs-Map ps)

  pub struct_printed : (vs : List Value) → v ≡ values.Struct vs → printing v d t ≡ struct_text (map printing vs) d (out-Ty t)
  struct_printed vs is = printed_at (value.Struct vs) (ap out-Value is ∙ outs-Struct vs)
