-- The declarations that a schema may have: those that keep the rules (docs/IDL.md, "Rules"), one after the other.
use Rattle.std.specs.Prelude.{◌≡◌, ◌≢◌, ◌<◌, ◌≤◌, ◌^◌, ℕ, suc, ◌+◌, Bool, true, false, Option, Some, None, List, [], ◌∷◌, ◌++◌, length, map}
use Rattle.std.specs.List.{All}
use Rattle.tars_model.specs.Declarations.{Declared, nothing_declared, with_struct, with_enum, with_const, with_key, with_interface, members_at}
use Rattle.tars_model.specs.Names.{IsName, AllDiffer}
use Rattle.tars_model.specs.Types.{TyLayer, IsType, nesting, type_depth, deepest, depths_of}
use Rattle.tars_model.specs.Values.{is_signed, fits, default_of}
use Rattle.tars_model.specs.Members.{HaveRisingTags}
use Rattle.tars_model.specs.declared.const_desc.ConstDesc.{ConstDesc}
use Rattle.tars_model.specs.declared.enum_desc.EnumDesc.{EnumDesc}
use Rattle.tars_model.specs.declared.enum_desc.Item.{Item}
use Rattle.tars_model.specs.declared.func_desc.FuncDesc.{FuncDesc}
use Rattle.tars_model.specs.declared.func_desc.Param.{Param}
use Rattle.tars_model.specs.declared.interface_desc.InterfaceDesc.{InterfaceDesc}
use Rattle.tars_model.specs.declared.key_desc.KeyDesc.{KeyDesc}
use Rattle.tars_model.specs.declared.member.Member.{Member}
use Rattle.tars_model.specs.declared.struct_desc.StructDesc.{StructDesc}
use Rattle.tars_model.specs.declared.ty.Ty.{Ty, out-Ty}
use Rattle.tars_model.specs.declared.ty.Ty.TheOpen as ty
use Rattle.tars_model.specs.declared.value.Value.{Value, out-Value, fold-Value}
use Rattle.tars_model.specs.declared.value.Value.TheOpen as value
use Rattle.tars_model.specs.declared.value.Pair.{Pair, Pair-F}

-- ---- names

-- the modules and names of structs, enums, constants and interfaces
abbrev pub declared_names : Declared → List (List ℕ × List ℕ)
declared_names d =
    map (λ (s : StructDesc). (s.module, s.name)) d.structs ++ map (λ (e : EnumDesc). (e.module, e.name)) d.enums
    ++ map (λ (c : ConstDesc). (c.module, c.name)) d.consts ++ map (λ (i : InterfaceDesc). (i.module, i.name)) d.interfaces

-- names that may be declared, and that are not declared yet
pub record IsNew (d : Declared) (home name : List ℕ) : Type 0 where
  pub home_is_name : IsName home
  pub is_name : IsName name
  pub is_new : All (λ declared. declared ≢ (home, name)) (declared_names d)

-- ---- types and defaults

-- a type over what is declared, no deeper than may be
pub record IsTypeIn (d : Declared) (t : Ty) : Type 0 where
  pub is_type : IsType (length d.enums) (length d.structs) t
  pub shallow : nesting t ≤ 16
  pub bounded : type_depth (depths_of d.structs) t ≤ 32

abbrev pub is_single : TyLayer → Bool
is_single (ty.Struct number) = false
is_single (ty.Vector of) = false
is_single (ty.Map key to) = false
is_single t = true

-- the bytes of a text; another value has none
abbrev pub text_bytes : value.Value-F Value Pair → List ℕ
text_bytes (value.Text bytes) = bytes
text_bytes _ = []

-- a number, bool or text that was written as a literal
pub record IsLiteral (d : Declared) (t : Ty) (v : Value) : Type 0 where
  pub single : is_single (out-Ty t) ≡ true
  pub is_value : fits d t v ≡ true
  pub bytes : All (λ b. b < 256) (text_bytes (out-Value v))

abbrev pub text_length : value.Value-F Value Pair → ℕ
text_length v = length (text_bytes v)

-- the absent default, or a literal; a text has at most 255 bytes
pub data IsDefault (d : Declared) (t : Ty) (v : Value) : Type 0 where
  absent : v ≡ default_of d t → IsDefault d t v
  literal : IsLiteral d t v → text_length (out-Value v) ≤ 255 → IsDefault d t v

abbrev pub add_up : List ℕ → ℕ
add_up [] = 0
add_up (n ∷ ns) = n + add_up ns

-- how many values a value has in it, itself counted
abbrev pub size_layer : value.Value-F ℕ (ℕ × ℕ) → ℕ
size_layer (value.List vs) = suc (add_up vs)
size_layer (value.Map ps) = suc (add_up (map (λ (p : ℕ × ℕ). p.0 + p.1) ps))
size_layer (value.Struct vs) = suc (add_up vs)
size_layer _ = 1

abbrev pub size_pair : Pair-F ℕ (ℕ × ℕ) → ℕ × ℕ
size_pair p = (p.key, p.value)

abbrev pub value_size : Value → ℕ
value_size v = fold-Value ℕ (ℕ × ℕ) size_layer size_pair v

-- ---- what may be declared

pub record MemberFits (d : Declared) (m : Member) : Type 0 where
  pub tag : m.tag < 256
  pub name : IsName m.name
  pub ty : IsTypeIn d m.ty
  pub default : IsDefault d m.ty m.default

pub record StructFits (d : Declared) (s : StructDesc) : Type 0 where
  pub name : IsNew d s.module s.name
  pub rising : HaveRisingTags s.members
  pub members : All (MemberFits d) s.members
  pub names_differ : AllDiffer (map (λ (m : Member). m.name) s.members)
  pub bounded : suc (deepest (depths_of d.structs) s.members) ≤ 32
  pub small : suc (add_up (map (λ (m : Member). value_size m.default) s.members)) ≤ 1024
  pub room : length d.structs < 1024

pub record EnumFits (d : Declared) (e : EnumDesc) : Type 0 where
  pub name : IsNew d e.module e.name
  pub items : All (λ (i : Item). IsName i.name) e.items
  pub numbers : All (λ (i : Item). is_signed 31 i.number ≡ true) e.items
  pub names_differ : AllDiffer (map (λ (i : Item). i.name) e.items)
  pub few : length e.items ≤ 1024
  pub room : length d.enums < 1024

pub record ConstFits (d : Declared) (c : ConstDesc) : Type 0 where
  pub name : IsNew d c.module c.name
  pub ty : IsTypeIn d c.ty
  pub value : IsLiteral d c.ty c.value
  pub room : length d.consts < 1024

-- the name of a member
abbrev pub NamesMember : List Member → List ℕ → Type 0
NamesMember members name = (earlier later : List Member) × (m : Member) × (members ≡ earlier ++ m ∷ later) × (m.name ≡ name)

pub record KeyFits (d : Declared) (k : KeyDesc) : Type 0 where
  pub struct : k.of < length d.structs
  pub members : All (NamesMember (members_at d k.of)) k.members
  pub differ : AllDiffer k.members
  pub room : length d.keys < 2 ^ 32

abbrev pub IsReturned : Declared → Option Ty → Type 0
IsReturned d None = Unit {0}
IsReturned d (Some t) = IsTypeIn d t

pub record FuncFits (d : Declared) (f : FuncDesc) : Type 0 where
  pub name : IsName f.name
  pub ret : IsReturned d f.ret
  pub names : All (λ (p : Param). IsName p.name) f.params
  pub types : All (λ (p : Param). IsTypeIn d p.ty) f.params
  pub names_differ : AllDiffer (map (λ (p : Param). p.name) f.params)
  pub few : length f.params ≤ 64

pub record InterfaceFits (d : Declared) (i : InterfaceDesc) : Type 0 where
  pub name : IsNew d i.module i.name
  pub funcs : All (FuncFits d) i.funcs
  pub names_differ : AllDiffer (map (λ (f : FuncDesc). f.name) i.funcs)
  pub few : length i.funcs ≤ 256
  pub room : length d.interfaces < 256

-- declarations that were made one after the other, each by the rules
pub data IsSchema : Declared → Type 0 where
  nothing : {d : Declared} → d ≡ nothing_declared → IsSchema d
  struct : {d e : Declared} {s : StructDesc} → IsSchema d → StructFits d s → e ≡ with_struct d s → IsSchema e
  enum : {d e : Declared} {desc : EnumDesc} → IsSchema d → EnumFits d desc → e ≡ with_enum d desc → IsSchema e
  const : {d e : Declared} {c : ConstDesc} → IsSchema d → ConstFits d c → e ≡ with_const d c → IsSchema e
  key : {d e : Declared} {k : KeyDesc} → IsSchema d → KeyFits d k → e ≡ with_key d k → IsSchema e
  interface : {d e : Declared} {i : InterfaceDesc} → IsSchema d → InterfaceFits d i → e ≡ with_interface d i → IsSchema e
