-- What is declared (docs/IDL.md, "Schemas").
use Rattle.std.specs.Prelude.{ℕ, List, [], ◌∷◌, ◌++◌, length, Option, Some, None, slice_get}
use Rattle.tars_model.specs.declared.const_desc.ConstDesc.{ConstDesc}
use Rattle.tars_model.specs.declared.decl.Decl.{Decl}
use Rattle.tars_model.specs.declared.decl.Decl.TheVariants as decl
use Rattle.tars_model.specs.declared.enum_desc.EnumDesc.{EnumDesc}
use Rattle.tars_model.specs.declared.enum_desc.Item.{Item}
use Rattle.tars_model.specs.declared.interface_desc.InterfaceDesc.{InterfaceDesc}
use Rattle.tars_model.specs.declared.key_desc.KeyDesc.{KeyDesc}
use Rattle.tars_model.specs.declared.member.Member.{Member}
use Rattle.tars_model.specs.declared.struct_desc.StructDesc.{StructDesc}

-- the declarations of each kind, and all of them by kind and number, in the order of the text
pub record Declared : Type 0 where
  pub structs : List StructDesc
  pub enums : List EnumDesc
  pub consts : List ConstDesc
  pub keys : List KeyDesc
  pub interfaces : List InterfaceDesc
  pub order : List Decl

abbrev pub declared_by : List StructDesc → List EnumDesc → List ConstDesc → List KeyDesc → List InterfaceDesc → List Decl → Declared
declared_by structs enums consts keys interfaces order =
    record { structs = structs; enums = enums; consts = consts; keys = keys; interfaces = interfaces; order = order }

abbrev pub nothing_declared : Declared
nothing_declared = declared_by [] [] [] [] [] []

abbrev pub with_struct : Declared → StructDesc → Declared
with_struct d s = record d { structs = d.structs ++ s ∷ []; order = d.order ++ decl.Struct (length d.structs) ∷ [] }

abbrev pub with_enum : Declared → EnumDesc → Declared
with_enum d e = record d { enums = d.enums ++ e ∷ []; order = d.order ++ decl.Enum (length d.enums) ∷ [] }

abbrev pub with_const : Declared → ConstDesc → Declared
with_const d c = record d { consts = d.consts ++ c ∷ []; order = d.order ++ decl.Const (length d.consts) ∷ [] }

abbrev pub with_key : Declared → KeyDesc → Declared
with_key d k = record d { keys = d.keys ++ k ∷ []; order = d.order ++ decl.Key (length d.keys) ∷ [] }

abbrev pub with_interface : Declared → InterfaceDesc → Declared
with_interface d i = record d { interfaces = d.interfaces ++ i ∷ []; order = d.order ++ decl.Interface (length d.interfaces) ∷ [] }

abbrev pub struct_members : Option StructDesc → List Member
struct_members None = []
struct_members (Some s) = s.members

-- the members of the struct of a number
abbrev pub members_at : Declared → ℕ → List Member
members_at d number = struct_members (slice_get d.structs number)

abbrev pub enum_items : Option EnumDesc → List Item
enum_items None = []
enum_items (Some e) = e.items

-- the enumerators of the enum of a number
abbrev pub items_at : Declared → ℕ → List Item
items_at d number = enum_items (slice_get d.enums number)
