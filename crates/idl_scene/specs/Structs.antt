-- How deep structs are, and how many values their defaults have (docs/IDL.md, "Rules").
use Rattle.std.specs.Prelude.{ℕ, ◌+◌, nat_lt, if◌then◌else◌, Option, Some, None, List, fold}
use Rattle.tars_model.specs.Types.{greater}
use Rattle.idl_parse.specs.declared.tree.literal.Literal.{Literal}
use Rattle.idl_parse.specs.declared.tree.member.MemberTree.{MemberTree}
use Rattle.idl_parse.specs.declared.tree.type_tree.TypeTree.{out-TypeTree}
use Rattle.idl_parse.specs.declared.tree.type_tree.TypeTree.TheOpen as layer
use Rattle.idl_scene.specs.Known.{Scene, size_of}
use Rattle.idl_scene.specs.Types.{TypeLayer, meaning_of, one_deeper, type_depth}

-- the depth of a struct with these members: one more than that of the deepest
abbrev pub deepest : Scene → List MemberTree → ℕ
deepest s members = fold (λ depth (m : MemberTree). greater depth (type_depth s m.typed.ty)) 0 members

abbrev pub struct_depth : Scene → List MemberTree → ℕ
struct_depth s members = one_deeper (deepest s members)

-- the greatest size that is counted: one more than there may be
abbrev pub LARGEST : ℕ
LARGEST = 1025

abbrev pub capped : ℕ → ℕ
capped size = if nat_lt LARGEST size then LARGEST else size

-- how many values the default of a type has
abbrev pub type_size : Scene → TypeLayer → ℕ
type_size s (layer.Named name) = size_of (meaning_of s name)
type_size s _ = 1

abbrev pub default_size : Scene → TypeLayer → Option Literal → ℕ
default_size s ty (Some literal) = 1
default_size s ty None = type_size s ty

-- how many values the default of a struct with these members has, itself counted
abbrev pub struct_size : Scene → List MemberTree → ℕ
struct_size s members = fold (λ size (m : MemberTree). capped (size + default_size s (out-TypeTree m.typed.ty) m.default)) 1 members
