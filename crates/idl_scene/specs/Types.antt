-- Types as they are written, and what is wrong with them (docs/IDL.md, "Rules").
use Rattle.std.specs.Prelude.{ℕ, ◌+◌, nat_lt, Bool, true, false, ◌||◌, not, if◌then◌else◌, Option, Some, None, List, [], ◌∷◌, ◌++◌}
use Rattle.tars_model.specs.Types.{greater}
use Rattle.idl_lex.specs.declared.span.Span.{Span}
use Rattle.idl_parse.specs.declared.tree.type_tree.BasicType.{BasicType}
use Rattle.idl_parse.specs.declared.tree.type_tree.BasicType.TheVariants as basics
use Rattle.idl_parse.specs.declared.tree.type_tree.ScopedName.{ScopedName}
use Rattle.idl_parse.specs.declared.tree.type_tree.TypeTree.{TypeTree, out-TypeTree, roll-TypeTree, map-TypeTree, fold-TypeTree}
use Rattle.idl_parse.specs.declared.tree.type_tree.TypeTree.TheOpen as layer
use Rattle.idl_scene.specs.Faults.{fault_if}
use Rattle.idl_scene.specs.Items.{word}
use Rattle.idl_scene.specs.Known.{Meaning, Scene, find, is_struct, is_enum, depth_of}
use Rattle.idl_scene.specs.declared.check_fault.CheckWhy.TheVariants.{UnknownName, Float, BadKey, TooDeep, LeftOut}
use Rattle.idl_scene.specs.declared.check_fault.Fault.{Fault}

-- one level of a type, as `out-TypeTree` opens it
abbrev pub TypeLayer : Type 0
TypeLayer = layer.TypeTree-F TypeTree

-- a type, and the types that stand in it, itself first, in the order of the text
abbrev pub TypesOf : Type 0
TypesOf = TypeTree × List TypeTree

abbrev pub types_inside : layer.TypeTree-F TypesOf → List TypeTree
types_inside (layer.Basic at basic) = []
types_inside (layer.Vector at element) = element.1
types_inside (layer.Map at key value) = key.1 ++ value.1
types_inside (layer.Named name) = []

abbrev pub whole_type : layer.TypeTree-F TypesOf → TypeTree
whole_type l = roll-TypeTree (map-TypeTree TypesOf TypeTree (λ t. t.0) l)

abbrev pub types_layer : layer.TypeTree-F TypesOf → TypesOf
types_layer l = (whole_type l, whole_type l ∷ types_inside l)

unfoldable pub types_in : TypeTree → List TypeTree
types_in ty = (fold-TypeTree TypesOf types_layer ty).1

-- ---- what names mean

-- the module of a type's name: its own where none is written
abbrev pub home_at : Scene → Option Span → List ℕ
home_at s None = s.home
home_at s (Some scope) = word s.text scope

abbrev pub meaning_of : Scene → ScopedName → Option Meaning
meaning_of s name = find (home_at s name.scope) (word s.text name.name) s.known

abbrev pub first_of : Option Span → Span → ℕ
first_of None name = name.start
first_of (Some scope) name = scope.start

abbrev pub first_of_name : ScopedName → ℕ
first_of_name name = first_of name.scope name.name

-- where its first token begins
abbrev pub first_token : TypeLayer → ℕ
first_token (layer.Basic at basic) = at
first_token (layer.Vector at element) = at
first_token (layer.Map at key value) = at
first_token (layer.Named name) = first_of_name name

-- ---- depth

-- the greatest depth that is counted: one more than there may be
abbrev pub DEEPEST : ℕ
DEEPEST = 33

abbrev pub one_deeper : ℕ → ℕ
one_deeper depth = if nat_lt depth DEEPEST then depth + 1 else depth

abbrev pub depth_layer : Scene → layer.TypeTree-F ℕ → ℕ
depth_layer s (layer.Basic at basic) = 0
depth_layer s (layer.Vector at element) = one_deeper element
depth_layer s (layer.Map at key value) = one_deeper (greater key value)
depth_layer s (layer.Named name) = depth_of (meaning_of s name)

abbrev pub type_depth : Scene → TypeTree → ℕ
type_depth s ty = fold-TypeTree ℕ (depth_layer s) ty

-- ---- rules

abbrev pub is_float : BasicType → Bool
is_float basics.Float = true
is_float basics.Double = true
is_float _ = false

abbrev pub is_type : Option Meaning → Bool
is_type meaning = is_struct meaning || is_enum meaning

-- whether values of the type may be the keys of a map
abbrev pub is_key_word : BasicType → Bool
is_key_word basics.Bool = false
is_key_word basics.Float = false
is_key_word basics.Double = false
is_key_word _ = true

abbrev pub is_key : Scene → TypeLayer → Bool
is_key s (layer.Basic at basic) = is_key_word basic
is_key s (layer.Named name) = is_enum (meaning_of s name)
is_key s _ = false

abbrev pub is_unsigned_byte : TypeLayer → Bool
is_unsigned_byte (layer.Basic at basics.UnsignedByte) = true
is_unsigned_byte _ = false

-- a type's name is no struct or enum that was declared before
abbrev pub unknown_type : Scene → TypeLayer → List Fault
unknown_type s (layer.Named name) = fault_if (not (is_type (meaning_of s name))) s.file (first_of_name name) UnknownName
unknown_type s _ = []

abbrev pub float : Scene → TypeLayer → List Fault
float s (layer.Basic at basic) = fault_if (is_float basic) s.file at Float
float s _ = []

-- a map's key
abbrev pub bad_key : Scene → TypeLayer → List Fault
bad_key s (layer.Map at key value) = fault_if (not (is_key s (out-TypeTree key))) s.file (first_token (out-TypeTree key)) BadKey
bad_key s _ = []

abbrev pub deep_type : Scene → TypeTree → List Fault
deep_type s ty = fault_if (nat_lt 32 (type_depth s ty)) s.file (first_token (out-TypeTree ty)) TooDeep

-- `vector<unsigned byte>`
abbrev pub unsigned_bytes : Scene → TypeLayer → List Fault
unsigned_bytes s (layer.Vector at element) = fault_if (is_unsigned_byte (out-TypeTree element)) s.file (first_token (out-TypeTree element)) LeftOut
unsigned_bytes s _ = []
