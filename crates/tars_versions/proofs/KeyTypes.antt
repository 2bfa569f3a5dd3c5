-- Types whose maps have keys of key types, and the keys of maps under them.
use Rattle.std.proofs.Common.{◌≡◌, ℕ, Bool, true, false, cond, ℤ, List, length, map, Ok, refl, sym, ap, ◌∙◌, subst}
use Rattle.tars_model.specs.Declarations.{Declared}
use Rattle.tars_model.specs.Types.{TyLayer, IsType, is_plain, is_key}
use Rattle.tars_model.specs.Values.{told, told_entry, key_of, fits, is_bool, fits_blob, fits_list, fits_map, fits_struct}
use Rattle.tars_model.specs.declared.ty.Ty.{Ty, out-Ty}
use Rattle.tars_model.specs.declared.ty.Ty.TheOpen as ty
use Rattle.tars_model.specs.declared.value.Value.{Value, out-Value}
use Rattle.tars_model.specs.declared.value.Value.TheVariants as values
use Rattle.tars_model.specs.declared.value.Value.TheVariants.{outs-Num, outs-Text}
use Rattle.tars_model.specs.declared.value.Pair.{Pair}
use Rattle.tars_model.proofs.ToldLaws.{told_fits_bool, told_fits_blob, told_fits_list, told_fits_map, told_fits_struct}
use Rattle.tars_decode.specs.Reads.{Read, misfit, number_value, text_as, is_within, most_bytes}
use Rattle.tars_decode.specs.declared.refuse.Misfit.TheVariants.{WrongType, Range}
use Rattle.tars_versions.specs.Projected.{takes, shortest_bytes, number_under, projected}
use Rattle.tars_versions.proofs.Induction.{each_value}
use Rattle.tars_versions.proofs.EachKind.{num_projected, text_projected}

-- a type over some declarations
abbrev pub IsSome : Ty → Type 0
IsSome t = (enums : ℕ) × (structs : ℕ) × IsType enums structs t

-- what it says of the types inside one
abbrev pub PartsAre : TyLayer → Type 0
PartsAre (ty.Vector of) = IsSome of
PartsAre (ty.Map key to) = (is_key (out-Ty key) ≡ true) × IsSome key × IsSome to
PartsAre _ = Unit {0}

plain_parts : (l : TyLayer) → is_plain l ≡ true → PartsAre l
plain_parts (ty.Vector of) e = absurd cc
plain_parts (ty.Map key to) e = absurd cc
plain_parts _ e = tt

pub parts_are : {enums structs : ℕ} {t : Ty} (l : TyLayer) → out-Ty t ≡ l → IsType enums structs t → PartsAre l
parts_are {t = t} l out (IsType.plain p) = plain_parts l (ap is_plain (sym out) ∙ p)
parts_are l out (IsType.enum {number = k} is lt) = subst PartsAre (sym is ∙ out) tt
parts_are l out (IsType.struct {number = k} is lt) = subst PartsAre (sym is ∙ out) tt
parts_are {enums} {structs} l out (IsType.vector {of = of} is other of_type) = subst PartsAre (sym is ∙ out) (enums, structs, of_type)
parts_are {enums} {structs} l out (IsType.map {key = from} {value = to} is key_is key_type to_type) =
    subst PartsAre (sym is ∙ out) (key_is, (enums, structs, key_type), (enums, structs, to_type))

-- ---- a key stays what it is

abbrev ok_value : Value → Read Value
ok_value v = Ok v

ok_is : (x y : Value) → ok_value x ≡ ok_value y → x ≡ y
ok_is x y e = cc

number_kept : (l : TyLayer) (n : ℤ) (x : Value) → is_key l ≡ true → number_under n l ≡ Ok x → values.Num n ≡ x
number_kept l n x key e = by_layer l key (by_tests (takes l n) (is_within (shortest_bytes n) (most_bytes l)) (number_value l n) e)
  where
    by_tests : (a b : Bool) (v : Value) → cond a (Ok v) (cond b (misfit Range) (misfit WrongType)) ≡ ok_value x → v ≡ x
    by_tests true b v e = ok_is v x e
    by_tests false true v e = absurd cc
    by_tests false false v e = absurd cc

    by_layer : (l : TyLayer) → is_key l ≡ true → number_value l n ≡ x → values.Num n ≡ x
    by_layer ty.Bool key e = absurd cc
    by_layer _ key e = e

text_kept : (l : TyLayer) (bytes : List ℕ) (x : Value) → text_as bytes l ≡ Ok x → values.Text bytes ≡ x
text_kept ty.Text bytes x e = ok_is (values.Text bytes) x e
text_kept _ bytes x e = absurd cc

module _ (d : Declared) (key : Ty) (is_old : is_key (out-Ty key) ≡ true) (d' : Declared) (key' : Ty) (is_new : is_key (out-Ty key') ≡ true) where
  abbrev Keeps : Value → Type 0
  Keeps v = fits d key v ≡ true → (x : Value) → projected v d key d' key' ≡ Ok x → key_of (out-Value x) ≡ key_of (out-Value v)

  no_bool : (l : TyLayer) → is_key l ≡ true → is_bool l ≡ true → ⊥
  no_bool ty.Bool k e = cc
  no_bool _ k e = cc

  no_blob : (l : TyLayer) (n : ℕ) → is_key l ≡ true → fits_blob n l ≡ true → ⊥
  no_blob (ty.Vector of) n k e = cc
  no_blob _ n k e = cc

  no_list : (l : TyLayer) (vs : List Value) → is_key l ≡ true → fits_list (map told vs) d l ≡ true → ⊥
  no_list (ty.Vector of) vs k e = cc
  no_list _ vs k e = cc

  no_map : (l : TyLayer) (ps : List Pair) → is_key l ≡ true → fits_map (map told_entry ps) d l ≡ true → ⊥
  no_map (ty.Map from to) ps k e = cc
  no_map _ ps k e = cc

  no_struct : (l : TyLayer) (vs : List Value) → is_key l ≡ true → fits_struct (map told vs) d l ≡ true → ⊥
  no_struct (ty.Struct n) vs k e = cc
  no_struct _ vs k e = cc

  num_keeps : (n : ℤ) → Keeps (values.Num n)
  num_keeps n fit x e =
      let is = number_kept (out-Ty key') n x is_new (sym (num_projected d key d' key' n) ∙ e) in
      ap (λ v. key_of (out-Value v)) (sym is)

  text_keeps : (bytes : List ℕ) → Keeps (values.Text bytes)
  text_keeps bytes fit x e =
      let is = text_kept (out-Ty key') bytes x (sym (text_projected d key d' key' bytes) ∙ e) in
      ap (λ v. key_of (out-Value v)) (sym is)

  pub key_stays : (v : Value) → Keeps v
  key_stays v = each_value Keeps (record {
    bool = λ b fit x e. absurd (no_bool (out-Ty key) is_old (sym (told_fits_bool (values.Bool b) d key b refl) ∙ fit));
    num = num_keeps;
    text = text_keeps;
    blob = λ bytes fit x e. absurd (no_blob (out-Ty key) (length bytes) is_old (sym (told_fits_blob (values.Blob bytes) d key bytes refl) ∙ fit));
    list = λ vs inside fit x e. absurd (no_list (out-Ty key) vs is_old (sym (told_fits_list (values.List vs) d key vs refl) ∙ fit));
    pairs = λ ps inside fit x e. absurd (no_map (out-Ty key) ps is_old (sym (told_fits_map (values.Map ps) d key ps refl) ∙ fit));
    struct = λ vs inside fit x e. absurd (no_struct (out-Ty key) vs is_old (sym (told_fits_struct (values.Struct vs) d key vs refl) ∙ fit));
  }) v
