-- In a schema, each default of a struct's member is one of its type.
use Rattle.std.proofs.Common.{◌≡◌, ◌<◌, ◌≤◌, ℕ, zero, suc, Bool, true, false, cond, ltb, ltb-true, ltb-false, ℤ, pos, List, [], ◌∷◌, ◌++◌, length, get_or, map, Option, Some, None, refl, sym, ap, ◌∙◌, subst, arith, length-append}
use Rattle.std.specs.List.{All}
use Rattle.std.specs.Prelude.{slice_get}
use Rattle.std.proofs.lemmas.List.Elements.{All-tail}
use Rattle.tars_model.specs.Declarations.{Declared, members_at, items_at, struct_members, enum_items, with_struct, with_enum, with_const, with_key, with_interface}
use Rattle.tars_model.specs.Schemas.{IsSchema, StructFits, IsDefault, absent, literal, IsLiteral, is_single}
use Rattle.tars_model.specs.Schemas.IsSchema.{nothing, struct, enum, const, key, interface}
use Rattle.tars_model.specs.Types.{TyLayer, IsType, is_plain}
use Rattle.tars_model.specs.Values.{Told, told, told_entry, fits, fits_layer, fit_told, is_signed, is_number_of, is_byte, is_bool, fits_text, fits_blob, fits_list, fits_map, fits_struct, first_number, defaults_of, default_layer, default_of}
use Rattle.tars_model.specs.declared.member.Member.{Member}
use Rattle.tars_model.specs.declared.struct_desc.StructDesc.{StructDesc}
use Rattle.tars_model.specs.declared.enum_desc.EnumDesc.{EnumDesc}
use Rattle.tars_model.specs.declared.enum_desc.Item.{Item}
use Rattle.tars_model.specs.declared.ty.Ty.{Ty, out-Ty}
use Rattle.tars_model.specs.declared.ty.Ty.TheOpen as ty
use Rattle.tars_model.specs.declared.value.Value.{Value, out-Value, map-Value}
use Rattle.tars_model.specs.declared.value.Value.TheOpen as value
use Rattle.tars_model.specs.declared.value.Value.TheVariants as values
use Rattle.tars_model.specs.declared.value.Pair.{Pair}
use Rattle.tars_model.proofs.ToldLaws.{told_out, told_fits_bool, told_fits_num, told_fits_text, told_fits_blob, told_fits_list, told_fits_map, told_fits_struct}
use Rattle.tars_decode.specs.Decoding.{DefaultFits}
use Rattle.tars_decode.proofs.SchemaLaws.{one_more}

-- ---- more declarations

-- what is declared stays, under its number
record Extends (d e : Declared) : Type 0 where
  structs : (n : ℕ) → n < length d.structs → members_at d n ≡ members_at e n
  enums : (n : ℕ) → n < length d.enums → items_at d n ≡ items_at e n
  more_structs : length d.structs ≤ length e.structs
  more_enums : length d.enums ≤ length e.enums

-- a default is the same, whatever is declared later
plain_stays : (d e : Declared) (l : TyLayer) → is_plain l ≡ true → default_layer d l ≡ default_layer e l
plain_stays d e (ty.Enum n) p = absurd cc
plain_stays d e (ty.Struct n) p = absurd cc
plain_stays d e (ty.Vector of) p = absurd cc
plain_stays d e (ty.Map from to) p = absurd cc
plain_stays d e ty.Bool p = refl
plain_stays d e ty.Byte p = refl
plain_stays d e ty.Short p = refl
plain_stays d e ty.Int p = refl
plain_stays d e ty.Long p = refl
plain_stays d e ty.UByte p = refl
plain_stays d e ty.UShort p = refl
plain_stays d e ty.UInt p = refl
plain_stays d e ty.Text p = refl

by_layer : (d e : Declared) (t : Ty) (l : TyLayer) → out-Ty t ≡ l → default_layer d l ≡ default_layer e l → default_of d t ≡ default_of e t
by_layer d e t l is same = ap (default_layer d) is ∙ (same ∙ ap (default_layer e) (sym is))

default_stays : (d e : Declared) (n : ℕ) {t : Ty} → Extends d e → n ≤ length d.structs → IsType (length d.enums) n t → default_of d t ≡ default_of e t
default_stays d e n {t} x few (IsType.plain p) = plain_stays d e (out-Ty t) p
default_stays d e n {t} x few (IsType.enum {number = k} is lt) = by_layer d e t (ty.Enum k) is (ap (λ items. values.Num (first_number items)) (x.enums k lt))
default_stays d e n {t} x few (IsType.struct {number = k} is lt) = by_layer d e t (ty.Struct k) is (ap (λ ms. values.Struct (defaults_of ms)) (x.structs k (omega arith)))
default_stays d e n {t} x few (IsType.vector {of = of} is other of_type) = by_layer d e t (ty.Vector of) is refl
default_stays d e n {t} x few (IsType.map {key = from} {value = to} is key_is key_type to_type) = by_layer d e t (ty.Map from to) is refl

-- a literal is of no vector, map or struct, so nothing that is declared matters
list_stays : (vs : List Told) (d e : Declared) (l : TyLayer) → is_single l ≡ true → fits_list vs d l ≡ fits_list vs e l
list_stays vs d e (ty.Vector of) single = absurd cc
list_stays vs d e _ single = refl

map_stays : (ps : List (Told × Told)) (d e : Declared) (l : TyLayer) → is_single l ≡ true → fits_map ps d l ≡ fits_map ps e l
map_stays ps d e (ty.Map from to) single = absurd cc
map_stays ps d e _ single = refl

struct_stays : (vs : List Told) (d e : Declared) (l : TyLayer) → is_single l ≡ true → fits_struct vs d l ≡ fits_struct vs e l
struct_stays vs d e (ty.Struct n) single = absurd cc
struct_stays vs d e _ single = refl

layer_stays : (v : value.Value-F Told (Told × Told)) (d e : Declared) (l : TyLayer) → is_single l ≡ true → fits_layer v d l ≡ fits_layer v e l
layer_stays (value.Bool b) d e l single = refl
layer_stays (value.Num n) d e l single = refl
layer_stays (value.Text bytes) d e l single = refl
layer_stays (value.Blob bytes) d e l single = refl
layer_stays (value.List vs) d e l single = list_stays vs d e l single
layer_stays (value.Map ps) d e l single = map_stays ps d e l single
layer_stays (value.Struct vs) d e l single = struct_stays vs d e l single

single_stays : (d e : Declared) (t : Ty) (v : Value) → is_single (out-Ty t) ≡ true → fits d t v ≡ fits e t v
single_stays d e t v single =
    let layer = map-Value Value Pair Told (Told × Told) told told_entry (out-Value v) in
    ap (λ (w : Told). w.fits d t) (told_out v) ∙ (layer_stays layer d e (out-Ty t) single ∙ sym (ap (λ (w : Told). w.fits e t) (told_out v)))

literal_stays : (d e : Declared) (t : Ty) (v : Value) → IsLiteral d t v → IsLiteral e t v
literal_stays d e t v l = record { single = l.single; is_value = sym (single_stays d e t v l.single) ∙ l.is_value; bytes = l.bytes }

is_default_stays : (d e : Declared) (n : ℕ) {t : Ty} {v : Value} → Extends d e → n ≤ length d.structs → IsType (length d.enums) n t → IsDefault d t v → IsDefault e t v
is_default_stays d e n {t} {v} x few type (absent is) = absent (is ∙ default_stays d e n x few type)
is_default_stays d e n {t} {v} x few type (literal l short) = literal (literal_stays d e t v l) short

-- a type over few declarations is one over more
type_stays : (a b n : ℕ) {t : Ty} → a ≤ b → IsType a n t → IsType b n t
type_stays a b n le (IsType.plain p) = IsType.plain p
type_stays a b n le (IsType.enum is lt) = IsType.enum is (omega arith)
type_stays a b n le (IsType.struct is lt) = IsType.struct is lt
type_stays a b n le (IsType.vector is other of_type) = IsType.vector is other (type_stays a b n le of_type)
type_stays a b n le (IsType.map is key_is key_type to_type) = IsType.map is key_is (type_stays a b n le key_type) (type_stays a b n le to_type)

-- ---- what holds of each member of the struct of a number

record Settled (d : Declared) (n : ℕ) (m : Member) : Type 0 where
  type : IsType (length d.enums) n m.ty
  default : IsDefault d m.ty m.default

settled_stays : (d e : Declared) (n : ℕ) (m : Member) → Extends d e → n ≤ length d.structs → Settled d n m → Settled e n m
settled_stays d e n m x few s = record { type = type_stays (length d.enums) (length e.enums) n x.more_enums s.type; default = is_default_stays d e n x few s.type s.default }

abbrev Settles : Declared → Type 0
Settles d = (n : ℕ) → n < length d.structs → All (Settled d n) (members_at d n)

all_stay : (d e : Declared) → Extends d e → (n : ℕ) → n < length d.structs → Settles d → All (Settled e n) (members_at e n)
all_stay d e x n lt settles =
    subst (λ ms. All (Settled e n) ms) (x.structs n lt) (λ k m within. settled_stays d e n (get_or (members_at d n) k m) x (omega arith) (settles n lt k m within))

same_structs : (d e : Declared) → Extends d e → length e.structs ≤ length d.structs → Settles d → Settles e
same_structs d e x few settles n lt = all_stay d e x n (omega arith) settles

-- the last struct
last_of : {A : Type 0} (P : Option A → Type 0) (xs : List A) (x : A) → P (Some x) → P (slice_get (xs ++ x ∷ []) (length xs))
last_of P [] x here = here
last_of P (y ∷ ys) x here = last_of P ys x here

kept : {A : Type 0} (xs : List A) (x : A) (n : ℕ) → n < length xs → slice_get xs n ≡ slice_get (xs ++ x ∷ []) n
kept [] x n lt = absurd (omega arith)
kept (y ∷ ys) x zero lt = refl
kept (y ∷ ys) x (suc n) lt = kept ys x n (omega arith)

with_struct_extends : (d : Declared) (s : StructDesc) → Extends d (with_struct d s)
with_struct_extends d s = record { structs = λ n lt. ap struct_members (kept d.structs s n lt); enums = λ n lt. refl; more_structs = omega (arith, length-append d.structs (s ∷ [])); more_enums = omega arith }

with_enum_extends : (d : Declared) (x : EnumDesc) → Extends d (with_enum d x)
with_enum_extends d x = record { structs = λ n lt. refl; enums = λ n lt. ap enum_items (kept d.enums x n lt); more_structs = omega arith; more_enums = omega (arith, length-append d.enums (x ∷ [])) }

data Place (n size : ℕ) : Type 0 where
  before : n < size → Place n size
  last : n ≡ size → Place n size

place : (n size : ℕ) → n < suc size → Place n size
place n size lt = by_test (ltb n size) refl
  where
    by_test : (b : Bool) → ltb n size ≡ b → Place n size
    by_test true e = before (ltb-true n size e)
    by_test false e = let le = ltb-false n size e in last (omega arith)

settles_by : (d : Declared) (s : StructDesc) (n : ℕ) → Place n (length d.structs) → (n < length d.structs → All (Settled (with_struct d s) n) (members_at (with_struct d s) n)) → All (Settled (with_struct d s) (length d.structs)) s.members → All (Settled (with_struct d s) n) (members_at (with_struct d s) n)
settles_by d s n (before lt) old new = old lt
settles_by d s n (last is) old new =
    subst (λ k. All (Settled (with_struct d s) k) (members_at (with_struct d s) k)) (sym is) (last_of (λ o. All (Settled (with_struct d s) (length d.structs)) (struct_members o)) d.structs s new)

struct_settles : (d : Declared) (s : StructDesc) → StructFits d s → Settles d → Settles (with_struct d s)
struct_settles d s fit settles n lt =
    let x = with_struct_extends d s in
    let k : n < suc (length d.structs) = omega (arith, length-append d.structs (s ∷ [])) in
    settles_by d s n (place n (length d.structs) k) (λ before. all_stay d (with_struct d s) x n before settles)
    (λ k m within. let f = fit.members k m within in settled_stays d (with_struct d s) (length d.structs) (get_or s.members k m) x (omega arith) (record { type = f.ty.is_type; default = f.default }))

settled : {d : Declared} → IsSchema d → Settles d
settled {d} (nothing e) = subst Settles (sym e) (λ n lt. absurd (omega arith))
settled (struct {d = d} {s = s} schema fit e) = subst Settles (sym e) (struct_settles d s fit (settled schema))
settled (enum {d = d} {desc = x} schema fit e) = subst Settles (sym e) (same_structs d (with_enum d x) (with_enum_extends d x) (omega arith) (settled schema))
settled (const {d = d} {c = x} schema fit e) = subst Settles (sym e) (same_structs d (with_const d x) (record { structs = λ n lt. refl; enums = λ n lt. refl; more_structs = omega arith; more_enums = omega arith }) (omega arith) (settled schema))
settled (key {d = d} {k = x} schema fit e) = subst Settles (sym e) (same_structs d (with_key d x) (record { structs = λ n lt. refl; enums = λ n lt. refl; more_structs = omega arith; more_enums = omega arith }) (omega arith) (settled schema))
settled (interface {d = d} {i = x} schema fit e) = subst Settles (sym e) (same_structs d (with_interface d x) (record { structs = λ n lt. refl; enums = λ n lt. refl; more_structs = omega arith; more_enums = omega arith }) (omega arith) (settled schema))

-- ---- the first enumerators are ints

IntFirst : Option EnumDesc → Type 0
IntFirst x = is_signed 31 (first_number (enum_items x)) ≡ true

first_is_int : (items : List Item) → All (λ (i : Item). is_signed 31 i.number ≡ true) items → is_signed 31 (first_number items) ≡ true
first_is_int [] all = refl
first_is_int (item ∷ items) all = all 0 item (omega arith)

first_int : {d : Declared} → IsSchema d → (n : ℕ) → is_signed 31 (first_number (items_at d n)) ≡ true
unfolding IntFirst
first_int {d} (nothing e) n = subst (λ (d : Declared). is_signed 31 (first_number (items_at d n)) ≡ true) (sym e) refl
first_int (struct {d = d} {s = x} schema fit e) n = subst (λ (d : Declared). is_signed 31 (first_number (items_at d n)) ≡ true) (sym e) (first_int schema n)
first_int (enum {d = d} {desc = x} schema fit e) n = subst (λ (d : Declared). is_signed 31 (first_number (items_at d n)) ≡ true) (sym e) (one_more IntFirst d.enums x (first_is_int x.items fit.numbers) refl (λ k. first_int schema k) n)
first_int (const {d = d} {c = x} schema fit e) n = subst (λ (d : Declared). is_signed 31 (first_number (items_at d n)) ≡ true) (sym e) (first_int schema n)
first_int (key {d = d} {k = x} schema fit e) n = subst (λ (d : Declared). is_signed 31 (first_number (items_at d n)) ≡ true) (sym e) (first_int schema n)
first_int (interface {d = d} {i = x} schema fit e) n = subst (λ (d : Declared). is_signed 31 (first_number (items_at d n)) ≡ true) (sym e) (first_int schema n)

-- ---- the default of a type is one of its values

abbrev Defaults : Declared → ℕ → Type 0
Defaults d n = All (λ (m : Member). fits d m.ty m.default ≡ true) (members_at d n)

all_fit : (d : Declared) (ms : List Member) → All (λ (m : Member). fits d m.ty m.default ≡ true) ms → fit_told d ms (map told (defaults_of ms)) ≡ true
all_fit d [] all = refl
all_fit d (m ∷ ms) all =
    let own : fits d m.ty m.default ≡ true = all 0 m (omega arith) in
    rw (own, all_fit d ms (All-tail (λ (m : Member). fits d m.ty m.default ≡ true) m ms all)) refl

module _ (d : Declared) (t : Ty) where
  num_fits : (l : TyLayer) (n : ℤ) → out-Ty t ≡ l → is_number_of l n ≡ true → fits d t (values.Num n) ≡ true
  num_fits l n is e = told_fits_num (values.Num n) d t n refl ∙ (ap (λ k. is_number_of k n) is ∙ e)

  plain_fits : (l : TyLayer) → out-Ty t ≡ l → is_plain l ≡ true → fits d t (default_layer d l) ≡ true
  plain_fits (ty.Enum n) is p = absurd cc
  plain_fits (ty.Struct n) is p = absurd cc
  plain_fits (ty.Vector of) is p = absurd cc
  plain_fits (ty.Map from to) is p = absurd cc
  plain_fits ty.Bool is p = told_fits_bool (values.Bool false) d t false refl ∙ ap is_bool is
  plain_fits ty.Byte is p = num_fits ty.Byte (pos 0) is refl
  plain_fits ty.Short is p = num_fits ty.Short (pos 0) is refl
  plain_fits ty.Int is p = num_fits ty.Int (pos 0) is refl
  plain_fits ty.Long is p = num_fits ty.Long (pos 0) is refl
  plain_fits ty.UByte is p = num_fits ty.UByte (pos 0) is refl
  plain_fits ty.UShort is p = num_fits ty.UShort (pos 0) is refl
  plain_fits ty.UInt is p = num_fits ty.UInt (pos 0) is refl
  plain_fits ty.Text is p = told_fits_text (values.Text []) d t [] refl ∙ ap (fits_text 0) is

  vector_fits : (of : Ty) → out-Ty t ≡ ty.Vector of → (b : Bool) → is_byte (out-Ty of) ≡ b → fits d t (cond b (values.Blob []) (values.List [])) ≡ true
  vector_fits of is true e = told_fits_blob (values.Blob []) d t [] refl ∙ (ap (fits_blob 0) is ∙ rw e refl)
  vector_fits of is false e = told_fits_list (values.List []) d t [] refl ∙ (ap (fits_list [] d) is ∙ rw e refl)

  map_fits : (from to : Ty) → out-Ty t ≡ ty.Map from to → fits d t (values.Map []) ≡ true
  map_fits from to is = told_fits_map (values.Map []) d t [] refl ∙ ap (fits_map [] d) is

  struct_fits : (k : ℕ) → out-Ty t ≡ ty.Struct k → Defaults d k → fits d t (values.Struct (defaults_of (members_at d k))) ≡ true
  struct_fits k is defaults =
      told_fits_struct (values.Struct (defaults_of (members_at d k))) d t (defaults_of (members_at d k)) refl ∙ (ap (fits_struct (map told (defaults_of (members_at d k))) d) is ∙ all_fit d (members_at d k) defaults)

  by_out : (l : TyLayer) → out-Ty t ≡ l → fits d t (default_layer d l) ≡ true → fits d t (default_of d t) ≡ true
  by_out l is e = ap (λ k. fits d t (default_layer d k)) is ∙ e

default_fits : (d : Declared) (n : ℕ) {t : Ty} → ((k : ℕ) → is_signed 31 (first_number (items_at d k)) ≡ true) → IsType (length d.enums) n t → ((k : ℕ) → k < n → Defaults d k) → fits d t (default_of d t) ≡ true
default_fits d n {t} ints (IsType.plain p) lower = plain_fits d t (out-Ty t) refl p
default_fits d n {t} ints (IsType.enum {number = k} is lt) lower = by_out d t (ty.Enum k) is (num_fits d t (ty.Enum k) (first_number (items_at d k)) is (ints k))
default_fits d n {t} ints (IsType.struct {number = k} is lt) lower = by_out d t (ty.Struct k) is (struct_fits d t k is (lower k lt))
default_fits d n {t} ints (IsType.vector {of = of} is other of_type) lower = by_out d t (ty.Vector of) is (vector_fits d t of is (is_byte (out-Ty of)) refl)
default_fits d n {t} ints (IsType.map {key = from} {value = to} is key_is key_type to_type) lower = by_out d t (ty.Map from to) is (map_fits d t from to is)

settled_fits : (d : Declared) (n : ℕ) (m : Member) → ((k : ℕ) → is_signed 31 (first_number (items_at d k)) ≡ true) → Settled d n m → ((k : ℕ) → k < n → Defaults d k) → fits d m.ty m.default ≡ true
settled_fits d n m ints s lower = go s.default
  where
    go : IsDefault d m.ty m.default → fits d m.ty m.default ≡ true
    go (absent is) = ap (fits d m.ty) is ∙ default_fits d n ints s.type lower
    go (literal l short) = l.is_value

past_end : {A : Type 0} (xs : List A) (n : ℕ) → length xs ≤ n → slice_get xs n ≡ None
past_end [] n le = refl
past_end (x ∷ xs) zero le = absurd (omega arith)
past_end (x ∷ xs) (suc n) le = past_end xs n (omega arith)

-- structs refer to those before them
below : (bound : ℕ) (d : Declared) → IsSchema d → (n : ℕ) → n < bound → Defaults d n
below zero d schema n lt = absurd (omega arith)
below (suc bound) d schema n lt = by_test (ltb n (length d.structs)) refl (below bound d schema)
  where
    by_test : (b : Bool) → ltb n (length d.structs) ≡ b → ((k : ℕ) → k < bound → Defaults d k) → Defaults d n
    by_test true e lower = λ k m within. settled_fits d n (get_or (members_at d n) k m) (first_int schema) (settled schema n (ltb-true n (length d.structs) e) k m within) (λ j lt'. lower j (omega arith))
    by_test false e lower = subst (λ o. All (λ (m : Member). fits d m.ty m.default ≡ true) (struct_members o)) (sym (past_end d.structs n (ltb-false n (length d.structs) e))) (λ k m within. absurd (omega arith))

pub struct_defaults : {d : Declared} → IsSchema d → (n : ℕ) → All (DefaultFits d) (members_at d n)
struct_defaults {d} schema n = λ k m within optional. below (suc n) d schema n (omega arith) k m within

-- so is the default of each type over what is declared
pub type_default : {d : Declared} {t : Ty} → IsSchema d → IsType (length d.enums) (length d.structs) t → fits d t (default_of d t) ≡ true
type_default {d} schema type = default_fits d (length d.structs) (first_int schema) type (λ k lt. below (suc k) d schema k (omega arith))
