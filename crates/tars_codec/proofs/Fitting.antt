-- What fits a type is sized for the wire, and its parts fit the types of parts.
use Rattle.std.proofs.Common.{◌≡◌, ℕ, ◌^◌, ◌<◌, true, List, length, map, sym, ◌∙◌, ltb-true}
use Rattle.std.proofs.lemmas.Bool.{and_parts}
use Rattle.tars_model.specs.Declarations.{Declared}
use Rattle.tars_model.specs.Types.{TyLayer}
use Rattle.tars_model.specs.Values.{told, told_entry, entry_fits, elements_fit, pairs_fit, is_byte, fits_text, fits_blob, fits_list, fits_map, fits_struct}
use Rattle.tars_model.specs.declared.ty.Ty.{Ty, out-Ty}
use Rattle.tars_model.specs.declared.ty.Ty.TheOpen as ty
use Rattle.tars_model.specs.declared.ty.Ty.TheVariants as types
use Rattle.tars_model.specs.declared.value.Value.{Value}
use Rattle.tars_model.specs.declared.value.Value.TheVariants as values
use Rattle.tars_model.specs.declared.value.Pair.{Pair, out-Pair}
use Rattle.tars_model.proofs.CallerLemmas.{told_fits_text, told_fits_blob, told_fits_list, told_fits_map, told_fits_struct, list_told, map_told, entry_fits_is}

pub short_text : (size : ℕ) (l : TyLayer) → fits_text size l ≡ true → size < 2 ^ 32
short_text size ty.Text h = ltb-true size (2 ^ 32) h
short_text size _ h = absurd cc

pub short_blob : (size : ℕ) (l : TyLayer) → fits_blob size l ≡ true → size < 2 ^ 31
short_blob size (ty.Vector of) h = ltb-true size (2 ^ 31) (and_parts (is_byte (out-Ty of)) _ h).1
short_blob size _ h = absurd cc

module _ (v : Value) (d : Declared) (t : Ty) where
  pub text_is_short : (bytes : List ℕ) → v ≡ values.Text bytes → (told v).fits d t ≡ true → length bytes < 2 ^ 32
  text_is_short bytes is fits = short_text (length bytes) (out-Ty t) (sym (told_fits_text v d t bytes is) ∙ fits)

  pub blob_is_short : (bytes : List ℕ) → v ≡ values.Blob bytes → (told v).fits d t ≡ true → length bytes < 2 ^ 31
  blob_is_short bytes is fits = short_blob (length bytes) (out-Ty t) (sym (told_fits_blob v d t bytes is) ∙ fits)

  pub list_fits : (vs : List Value) → v ≡ values.List vs → (told v).fits d t ≡ true → fits_list (map told vs) d (out-Ty t) ≡ true
  list_fits vs is fits = sym (told_fits_list v d t vs is) ∙ fits

  pub map_fits : (ps : List Pair) → v ≡ values.Map ps → (told v).fits d t ≡ true → fits_map (map told_entry ps) d (out-Ty t) ≡ true
  map_fits ps is fits = sym (told_fits_map v d t ps is) ∙ fits

  pub struct_fits : (vs : List Value) → v ≡ values.Struct vs → (told v).fits d t ≡ true → fits_struct (map told vs) d (out-Ty t) ≡ true
  struct_fits vs is fits = sym (told_fits_struct v d t vs is) ∙ fits

pub list_elements_fit : (d : Declared) (t of : Ty) (vs : List Value) → t ≡ types.Vector of → fits_list (map told vs) d (out-Ty t) ≡ true → elements_fit d of vs ≡ true
list_elements_fit d t of vs is fits = sym (list_told d t of vs is) ∙ fits

pub map_entries_fit : (d : Declared) (t key to : Ty) (ps : List Pair) → t ≡ types.Map key to → fits_map (map told_entry ps) d (out-Ty t) ≡ true → pairs_fit d key to ps ≡ true
map_entries_fit d t key to ps is fits = sym (map_told d t key to ps is) ∙ fits

pub entry_key_fits : (d : Declared) (key to : Ty) (p : Pair) → entry_fits d key to p ≡ true → (told (out-Pair p).key).fits d key ≡ true
entry_key_fits d key to p fits = (and_parts _ _ (sym (entry_fits_is d key to p) ∙ fits)).0

pub entry_value_fits : (d : Declared) (key to : Ty) (p : Pair) → entry_fits d key to p ≡ true → (told (out-Pair p).value).fits d to ≡ true
entry_value_fits d key to p fits = (and_parts _ _ (sym (entry_fits_is d key to p) ∙ fits)).1
