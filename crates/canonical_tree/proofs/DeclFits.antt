-- What a schema holds of each declaration by its number: it kept the rules over what was declared before it.
use Rattle.std.proofs.Common.{◌≡◌, ℕ, zero, suc, Some, List, [], ◌∷◌, ◌++◌, length, refl, sym, ap, ◌∙◌, subst, append_assoc}
use Rattle.std.proofs.lemmas.List.{append-nil}
use Rattle.std.specs.List.{AllByRecursion}
use Rattle.std.specs.Prelude.{slice_get}
use Rattle.tars_model.specs.Declarations.{Declared, with_struct, with_enum, with_const, with_key, with_interface}
use Rattle.tars_model.specs.Names.{IsName}
use Rattle.tars_model.specs.Schemas.{MemberFits, StructFits, EnumFits, ConstFits, KeyFits, InterfaceFits, IsSchema}
use Rattle.tars_model.specs.Schemas.IsSchema.{nothing, struct, enum, const, key, interface}
use Rattle.tars_model.specs.declared.const_desc.ConstDesc.{ConstDesc}
use Rattle.tars_model.specs.declared.decl.Decl.{Decl}
use Rattle.tars_model.specs.declared.decl.Decl.TheVariants as decl
use Rattle.tars_model.specs.declared.enum_desc.EnumDesc.{EnumDesc}
use Rattle.tars_model.specs.declared.interface_desc.InterfaceDesc.{InterfaceDesc}
use Rattle.tars_model.specs.declared.key_desc.KeyDesc.{KeyDesc}
use Rattle.tars_model.specs.declared.member.Member.{Member}
use Rattle.tars_model.specs.declared.struct_desc.StructDesc.{StructDesc}
use Rattle.canonical_tree.proofs.Lists.{each_of}

-- ---- earlier states

-- a list that was continued
abbrev pub Continues : {T : Type 0} → List T → List T → Type 0
Continues {T} xs ys = (rest : List T) × (ys ≡ xs ++ rest)

-- an earlier state of what is declared: each list is a prefix of the later one
pub record IsPrefixOf (e d : Declared) : Type 0 where
  pub structs : Continues e.structs d.structs
  pub enums : Continues e.enums d.enums
  pub consts : Continues e.consts d.consts
  pub keys : Continues e.keys d.keys
  pub interfaces : Continues e.interfaces d.interfaces

-- what fits an earlier state
abbrev pub FitsBefore : {T : Type 0} → (Declared → T → Type 0) → Declared → T → Type 0
FitsBefore {T} Fits d x = (e : Declared) × IsPrefixOf e d × Fits e x

-- what is declared by a number fits what was declared before it
abbrev pub NumberFits : {T : Type 0} → (Declared → T → Type 0) → Declared → List T → ℕ → Type 0
NumberFits {T} Fits d list k = (x : T) × (slice_get list k ≡ Some x) × FitsBefore Fits d x

abbrev pub DeclFits : Declared → Decl → Type 0
DeclFits d (decl.Struct k) = NumberFits StructFits d d.structs k
DeclFits d (decl.Enum k) = NumberFits EnumFits d d.enums k
DeclFits d (decl.Const k) = NumberFits ConstFits d d.consts k
DeclFits d (decl.Key k) = NumberFits KeyFits d d.keys k
DeclFits d (decl.Interface k) = NumberFits InterfaceFits d d.interfaces k

-- ---- longer lists

pub get_before : {T : Type 0} (xs rest : List T) (k : ℕ) (x : T) → slice_get xs k ≡ Some x → slice_get (xs ++ rest) k ≡ Some x
get_before [] rest k x is = absurd cc
get_before (y ∷ xs) rest zero x is = is
get_before (y ∷ xs) rest (suc k) x is = get_before xs rest k x is

pub get_longer : {T : Type 0} (xs ys : List T) (k : ℕ) (x : T) → Continues xs ys → slice_get xs k ≡ Some x → slice_get ys k ≡ Some x
get_longer xs ys k x more is = ap (λ l. slice_get l k) more.1 ∙ get_before xs more.0 k x is

get_last : {T : Type 0} (xs : List T) (x : T) → slice_get (xs ++ x ∷ []) (length xs) ≡ Some x
get_last [] x = refl
get_last (y ∷ xs) x = get_last xs x

same_list : {T : Type 0} (xs : List T) → Continues xs xs
same_list xs = ([], sym (append-nil xs))

one_more : {T : Type 0} (xs : List T) (x : T) → Continues xs (xs ++ x ∷ [])
one_more xs x = (x ∷ [], refl)

continued : {T : Type 0} (xs ys zs : List T) → Continues xs ys → Continues ys zs → Continues xs zs
continued xs ys zs a b = (a.0 ++ b.0, b.1 ∙ ap (λ l. l ++ b.0) a.1 ∙ append_assoc xs a.0 b.0)

-- ---- longer states

pub prefix_of_prefix : {c d e : Declared} → IsPrefixOf c d → IsPrefixOf d e → IsPrefixOf c e
prefix_of_prefix {c = c} {d = d} {e = e} a b = record {
  structs = continued c.structs d.structs e.structs a.structs b.structs;
  enums = continued c.enums d.enums e.enums a.enums b.enums;
  consts = continued c.consts d.consts e.consts a.consts b.consts;
  keys = continued c.keys d.keys e.keys a.keys b.keys;
  interfaces = continued c.interfaces d.interfaces e.interfaces a.interfaces b.interfaces;
}

module _ (d : Declared) where
  after_struct : (s : StructDesc) → IsPrefixOf d (with_struct d s)
  after_struct s = record { structs = one_more d.structs s; enums = same_list d.enums; consts = same_list d.consts; keys = same_list d.keys; interfaces = same_list d.interfaces }

  after_enum : (e : EnumDesc) → IsPrefixOf d (with_enum d e)
  after_enum e = record { structs = same_list d.structs; enums = one_more d.enums e; consts = same_list d.consts; keys = same_list d.keys; interfaces = same_list d.interfaces }

  after_const : (c : ConstDesc) → IsPrefixOf d (with_const d c)
  after_const c = record { structs = same_list d.structs; enums = same_list d.enums; consts = one_more d.consts c; keys = same_list d.keys; interfaces = same_list d.interfaces }

  after_key : (k : KeyDesc) → IsPrefixOf d (with_key d k)
  after_key k = record { structs = same_list d.structs; enums = same_list d.enums; consts = same_list d.consts; keys = one_more d.keys k; interfaces = same_list d.interfaces }

  after_interface : (i : InterfaceDesc) → IsPrefixOf d (with_interface d i)
  after_interface i = record { structs = same_list d.structs; enums = same_list d.enums; consts = same_list d.consts; keys = same_list d.keys; interfaces = one_more d.interfaces i }

number_grows : {T : Type 0} (Fits : Declared → T → Type 0) (d e : Declared) (xs ys : List T) (k : ℕ) → IsPrefixOf d e → Continues xs ys → NumberFits Fits d xs k → NumberFits Fits e ys k
number_grows Fits d e xs ys k before more (x, is, fits) = (x, get_longer xs ys k x more is, (fits.0, prefix_of_prefix fits.1 before, fits.2))

grows : (d e : Declared) → IsPrefixOf d e → (x : Decl) → DeclFits d x → DeclFits e x
grows d e before (decl.Struct k) fits = number_grows StructFits d e d.structs e.structs k before before.structs fits
grows d e before (decl.Enum k) fits = number_grows EnumFits d e d.enums e.enums k before before.enums fits
grows d e before (decl.Const k) fits = number_grows ConstFits d e d.consts e.consts k before before.consts fits
grows d e before (decl.Key k) fits = number_grows KeyFits d e d.keys e.keys k before before.keys fits
grows d e before (decl.Interface k) fits = number_grows InterfaceFits d e d.interfaces e.interfaces k before before.interfaces fits

-- what holds of those before and of the last
all_more : {T : Type 0} (P Q : T → Type 0) (xs : List T) (x : T) → ((y : T) → P y → Q y) → AllByRecursion P xs → Q x → AllByRecursion Q (xs ++ x ∷ [])
all_more P Q [] x goes all last = (last, tt)
all_more P Q (y ∷ xs) x goes all last = (goes y all.0, all_more P Q xs x goes all.1 last)

-- ---- each declaration

last_fits : {T : Type 0} (Fits : Declared → T → Type 0) (d e : Declared) (xs : List T) (x : T) → IsPrefixOf d e → Fits d x → NumberFits Fits e (xs ++ x ∷ []) (length xs)
last_fits Fits d e xs x before fits = (x, get_last xs x, (d, before, fits))

pub decl_fits : (d : Declared) → IsSchema d → AllByRecursion (DeclFits d) d.order
decl_fits d (nothing is) = subst (λ (d : Declared). AllByRecursion (DeclFits d) d.order) (sym is) tt
decl_fits e (struct {d = d} {s = s} schema fits is) =
    let next = with_struct d s in
    subst (λ (d : Declared). AllByRecursion (DeclFits d) d.order) (sym is)
    (all_more (DeclFits d) (DeclFits next) d.order (decl.Struct (length d.structs)) (grows d next (after_struct d s)) (decl_fits d schema) (last_fits StructFits d next d.structs s (after_struct d s) fits))
decl_fits e (enum {d = d} {desc = s} schema fits is) =
    let next = with_enum d s in
    subst (λ (d : Declared). AllByRecursion (DeclFits d) d.order) (sym is)
    (all_more (DeclFits d) (DeclFits next) d.order (decl.Enum (length d.enums)) (grows d next (after_enum d s)) (decl_fits d schema) (last_fits EnumFits d next d.enums s (after_enum d s) fits))
decl_fits e (const {d = d} {c = s} schema fits is) =
    let next = with_const d s in
    subst (λ (d : Declared). AllByRecursion (DeclFits d) d.order) (sym is)
    (all_more (DeclFits d) (DeclFits next) d.order (decl.Const (length d.consts)) (grows d next (after_const d s)) (decl_fits d schema) (last_fits ConstFits d next d.consts s (after_const d s) fits))
decl_fits e (key {d = d} {k = s} schema fits is) =
    let next = with_key d s in
    subst (λ (d : Declared). AllByRecursion (DeclFits d) d.order) (sym is)
    (all_more (DeclFits d) (DeclFits next) d.order (decl.Key (length d.keys)) (grows d next (after_key d s)) (decl_fits d schema) (last_fits KeyFits d next d.keys s (after_key d s) fits))
decl_fits e (interface {d = d} {i = s} schema fits is) =
    let next = with_interface d s in
    subst (λ (d : Declared). AllByRecursion (DeclFits d) d.order) (sym is)
    (all_more (DeclFits d) (DeclFits next) d.order (decl.Interface (length d.interfaces)) (grows d next (after_interface d s)) (decl_fits d schema) (last_fits InterfaceFits d next d.interfaces s (after_interface d s) fits))

-- ---- the names of structs, with those of their members, and of enums

pub record StructNamed (s : StructDesc) : Type 0 where
  pub home : IsName s.«module»
  pub name : IsName s.name
  pub members : AllByRecursion (λ (m : Member). IsName m.name) s.members

pub record EnumNamed (e : EnumDesc) : Type 0 where
  pub home : IsName e.«module»
  pub name : IsName e.name

struct_named : (d : Declared) (s : StructDesc) → StructFits d s → StructNamed s
struct_named d s fits = record { home = fits.name.home_is_name; name = fits.name.is_name; members = each_of (MemberFits d) (λ (m : Member). IsName m.name) (λ m fits. fits.name) s.members fits.members }

pub structs_named : (d : Declared) → IsSchema d → AllByRecursion StructNamed d.structs
structs_named d (nothing is) = subst (λ (d : Declared). AllByRecursion StructNamed d.structs) (sym is) tt
structs_named e (struct {d = d} {s = s} schema fits is) =
    subst (λ (d : Declared). AllByRecursion StructNamed d.structs) (sym is)
    (all_more StructNamed StructNamed d.structs s (λ s named. named) (structs_named d schema) (struct_named d s fits))
structs_named e (enum {d = d} {desc = s} schema fits is) = subst (λ (d : Declared). AllByRecursion StructNamed d.structs) (sym is) (structs_named d schema)
structs_named e (const {d = d} {c = s} schema fits is) = subst (λ (d : Declared). AllByRecursion StructNamed d.structs) (sym is) (structs_named d schema)
structs_named e (key {d = d} {k = s} schema fits is) = subst (λ (d : Declared). AllByRecursion StructNamed d.structs) (sym is) (structs_named d schema)
structs_named e (interface {d = d} {i = s} schema fits is) = subst (λ (d : Declared). AllByRecursion StructNamed d.structs) (sym is) (structs_named d schema)

pub enums_named : (d : Declared) → IsSchema d → AllByRecursion EnumNamed d.enums
enums_named d (nothing is) = subst (λ (d : Declared). AllByRecursion EnumNamed d.enums) (sym is) tt
enums_named e (struct {d = d} {s = s} schema fits is) = subst (λ (d : Declared). AllByRecursion EnumNamed d.enums) (sym is) (enums_named d schema)
enums_named e (enum {d = d} {desc = s} schema fits is) =
    subst (λ (d : Declared). AllByRecursion EnumNamed d.enums) (sym is)
    (all_more EnumNamed EnumNamed d.enums s (λ s named. named) (enums_named d schema) (record { home = fits.name.home_is_name; name = fits.name.is_name }))
enums_named e (const {d = d} {c = s} schema fits is) = subst (λ (d : Declared). AllByRecursion EnumNamed d.enums) (sym is) (enums_named d schema)
enums_named e (key {d = d} {k = s} schema fits is) = subst (λ (d : Declared). AllByRecursion EnumNamed d.enums) (sym is) (enums_named d schema)
enums_named e (interface {d = d} {i = s} schema fits is) = subst (λ (d : Declared). AllByRecursion EnumNamed d.enums) (sym is) (enums_named d schema)

same_first : {T : Type 0} (x y : T) → Some x ≡ Some y → x ≡ y
same_first x y is = cc

-- what holds of each holds of the one of a number
pub all_at : {T : Type 0} (P : T → Type 0) (xs : List T) (k : ℕ) (x : T) → AllByRecursion P xs → slice_get xs k ≡ Some x → P x
all_at P [] k x all is = absurd cc
all_at P (y ∷ xs) zero x all is = subst P (same_first y x is) all.0
all_at P (y ∷ xs) (suc k) x all is = all_at P xs k x all.1 is
