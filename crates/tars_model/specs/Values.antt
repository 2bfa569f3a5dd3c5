-- The values of a type, and the default ones (docs/IDL.md, "Values").
use Rattle.std.specs.Prelude.{ℕ, ◌^◌, nat_lt, Bool, true, false, ◌&&◌, not, if◌then◌else◌, ℤ, pos, negsuc, List, [], ◌∷◌, length, map}
use Rattle.std.specs.Int.Signed.{lt_z}
use Rattle.std.specs.List.{list_all}
use Rattle.std.specs.Cmp.Lexicographic.{slice_cmp}
use Rattle.std.specs.Ordering.{nat_cmp}
use Rattle.std.specs.declared.cmp.Ordering.{Ordering}
use Rattle.std.specs.declared.cmp.Ordering.TheVariants.{Less}
use Rattle.tars_model.specs.Declarations.{Declared, members_at, items_at}
use Rattle.tars_model.specs.Types.{TyLayer}
use Rattle.tars_model.specs.declared.enum_desc.Item.{Item}
use Rattle.tars_model.specs.declared.member.Member.{Member}
use Rattle.tars_model.specs.declared.ty.Ty.{Ty, out-Ty}
use Rattle.tars_model.specs.declared.ty.Ty.TheOpen as ty
use Rattle.tars_model.specs.declared.value.Value.{Value, fold-Value}
use Rattle.tars_model.specs.declared.value.Value.TheOpen as value
use Rattle.tars_model.specs.declared.value.Value.TheVariants as values
use Rattle.tars_model.specs.declared.value.Pair.{Pair, Pair-F, fold-Pair}

-- a whole number of so many bits beside its sign, and one without a sign
abbrev pub is_signed : ℕ → ℤ → Bool
is_signed bits (pos n) = nat_lt n (2 ^ bits)
is_signed bits (negsuc n) = nat_lt n (2 ^ bits)

abbrev pub is_unsigned : ℕ → ℤ → Bool
is_unsigned bits (pos n) = nat_lt n (2 ^ bits)
is_unsigned bits (negsuc n) = false

-- the numbers of each type
abbrev pub is_number_of : TyLayer → ℤ → Bool
is_number_of ty.Byte n = is_signed 7 n
is_number_of ty.Short n = is_signed 15 n
is_number_of ty.Int n = is_signed 31 n
is_number_of ty.Long n = is_signed 63 n
is_number_of ty.UByte n = is_unsigned 8 n
is_number_of ty.UShort n = is_unsigned 16 n
is_number_of ty.UInt n = is_unsigned 32 n
is_number_of (ty.Enum number) n = is_signed 31 n
is_number_of _ n = false

abbrev pub is_byte : TyLayer → Bool
is_byte ty.Byte = true
is_byte _ = false

abbrev pub is_bool : TyLayer → Bool
is_bool ty.Bool = true
is_bool _ = false

-- what a value is as a key of a map
pub data Key : Type 0 where
  a_number : ℤ → Key
  a_text : List ℕ → Key
  no_key : Key

abbrev pub key_of : {V P : Type 0} → value.Value-F V P → Key
key_of (value.Num n) = a_number n
key_of (value.Text bytes) = a_text bytes
key_of _ = no_key

abbrev pub is_less : Ordering → Bool
is_less Less = true
is_less _ = false

-- numbers by value, texts byte by byte
abbrev pub key_below : Key → Key → Bool
key_below (a_number a) (a_number b) = lt_z a b
key_below (a_text a) (a_text b) = is_less (slice_cmp nat_cmp a b)
key_below _ _ = false

abbrev pub all_above : Key → List Key → Bool
all_above key [] = true
all_above key (next ∷ keys) = key_below key next

abbrev pub keys_rise : List Key → Bool
keys_rise [] = true
keys_rise (key ∷ keys) = all_above key keys && keys_rise keys

-- what is told of a value: of which types it is, over which declarations, and what it is as a key
pub record Told : Type 0 where
  pub fits : Declared → Ty → Bool
  pub key : Key

abbrev pub fits_text : ℕ → TyLayer → Bool
fits_text size ty.Text = nat_lt size (2 ^ 32)
fits_text size _ = false

abbrev pub fits_blob : ℕ → TyLayer → Bool
fits_blob size (ty.Vector of) = is_byte (out-Ty of) && nat_lt size (2 ^ 31)
fits_blob size _ = false

abbrev pub fits_list : List Told → Declared → TyLayer → Bool
fits_list vs d (ty.Vector of) = not (is_byte (out-Ty of)) && nat_lt (length vs) (2 ^ 31) && list_all (λ v. v.fits d of) vs
fits_list vs d _ = false

abbrev pub fits_map : List (Told × Told) → Declared → TyLayer → Bool
fits_map ps d (ty.Map key to) =
    nat_lt (length ps) (2 ^ 31) && keys_rise (map (λ p. p.0.key) ps) && list_all (λ p. p.0.fits d key && p.1.fits d to) ps
fits_map ps d _ = false

-- as many values as members, and each is one of its member's type
abbrev pub fit_told : Declared → List Member → List Told → Bool
fit_told d [] [] = true
fit_told d (m ∷ ms) (v ∷ vs) = v.fits d m.ty && fit_told d ms vs
fit_told d _ _ = false

abbrev pub fits_struct : List Told → Declared → TyLayer → Bool
fits_struct vs d (ty.Struct number) = fit_told d (members_at d number) vs
fits_struct vs d _ = false

abbrev pub fits_layer : value.Value-F Told (Told × Told) → Declared → TyLayer → Bool
fits_layer (value.Bool b) d t = is_bool t
fits_layer (value.Num n) d t = is_number_of t n
fits_layer (value.Text bytes) d t = fits_text (length bytes) t
fits_layer (value.Blob bytes) d t = fits_blob (length bytes) t
fits_layer (value.List vs) d t = fits_list vs d t
fits_layer (value.Map ps) d t = fits_map ps d t
fits_layer (value.Struct vs) d t = fits_struct vs d t

abbrev pub told_layer : value.Value-F Told (Told × Told) → Told
told_layer v = record { fits = λ d t. fits_layer v d (out-Ty t); key = key_of v }

abbrev pub told_pair : Pair-F Told (Told × Told) → Told × Told
told_pair p = (p.key, p.value)

unfoldable pub told : Value → Told
told v = fold-Value Told (Told × Told) told_layer told_pair v

-- what is told of an entry's key and value
unfoldable pub told_entry : Pair → Told × Told
told_entry p = fold-Pair Told (Told × Told) told_layer told_pair p

abbrev pub entry_key : Pair → Key
entry_key p = (told_entry p).0.key

abbrev pub entry_fits : Declared → Ty → Ty → Pair → Bool
entry_fits d key to p = (told_entry p).0.fits d key && (told_entry p).1.fits d to

abbrev pub elements_fit : Declared → Ty → List Value → Bool
elements_fit d of vs = not (is_byte (out-Ty of)) && nat_lt (length vs) (2 ^ 31) && list_all (λ v. (told v).fits d of) vs

abbrev pub pairs_fit : Declared → Ty → Ty → List Pair → Bool
pairs_fit d key to ps = nat_lt (length ps) (2 ^ 31) && keys_rise (map entry_key ps) && list_all (entry_fits d key to) ps

-- the value is one of the type's
abbrev pub fits : Declared → Ty → Value → Bool
fits d t v = (told v).fits d t

-- each value is one of its member's type
abbrev pub fit_members : Declared → List Member → List Value → Bool
fit_members d members vs = fit_told d members (map told vs)

-- ---- defaults

abbrev pub first_number : List Item → ℤ
first_number [] = pos 0
first_number (item ∷ items) = item.number

abbrev pub defaults_of : List Member → List Value
defaults_of members = map (λ (m : Member). m.default) members

-- the default of a type: 0, false, nothing, the first enumerator, or the defaults of a struct's members
abbrev pub default_layer : Declared → TyLayer → Value
default_layer d ty.Bool = values.Bool false
default_layer d ty.Text = values.Text []
default_layer d (ty.Enum number) = values.Num (first_number (items_at d number))
default_layer d (ty.Struct number) = values.Struct (defaults_of (members_at d number))
default_layer d (ty.Vector of) = if is_byte (out-Ty of) then values.Blob [] else values.List []
default_layer d (ty.Map key to) = values.Map []
default_layer d _ = values.Num (pos 0)

abbrev pub default_of : Declared → Ty → Value
default_of d t = default_layer d (out-Ty t)
