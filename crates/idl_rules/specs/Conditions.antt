-- The rules of interface files, one after the other, and the faults that they find (docs/IDL.md, "Rules").
use Rattle.std.specs.Prelude.{ℕ, ◌-◌, is_some, if◌then◌else◌, Option, Some, None, List, [], ◌∷◌, ◌++◌, fold, map}
use Rattle.least_fault.specs.Conditions.{Condition, found_after, found_by}
use Rattle.idl_parse.specs.Files.{File}
use Rattle.idl_lex.specs.declared.span.Span.{Span}
use Rattle.idl_parse.specs.declared.tree.decl.ConstTree.{ConstTree}
use Rattle.idl_parse.specs.declared.tree.decl.DeclTree.{DeclTree}
use Rattle.idl_parse.specs.declared.tree.decl.DeclTree.TheVariants as decls
use Rattle.idl_parse.specs.declared.tree.decl.EnumItem.{EnumItem}
use Rattle.idl_parse.specs.declared.tree.decl.KeyTree.{KeyTree}
use Rattle.idl_parse.specs.declared.tree.func.ParamTree.{ParamTree}
use Rattle.idl_parse.specs.declared.tree.member.MemberTree.{MemberTree}
use Rattle.idl_parse.specs.declared.tree.type_tree.TypeTree.{TypeTree, out-TypeTree}
use Rattle.idl_scene.specs.Items.{Included, What, declared, Item, items_of, word}
use Rattle.idl_scene.specs.Known.{Meaning, a_struct, an_enum, no_type, Known, Scene, find, each_once}
use Rattle.idl_scene.specs.Structs.{struct_depth, struct_size}
use Rattle.idl_scene.specs.Types.{TypeLayer, unknown_type, float, bad_key, deep_type, unsigned_bytes}
use Rattle.idl_scene.specs.declared.check_fault.Fault.{Fault}
use Rattle.idl_scene.specs.declared.known.Room.{Room}
use Rattle.idl_rules.specs.Parts.{NameList, includes_of, blocks_of, declarations_of, types_of, name_lists_of, members_of, enumerators_of, consts_of, keys_of, params_of}
use Rattle.idl_rules.specs.Rules.{no_include, reserved, twice_in_list, reserved_in_list, too_many_in_list, name_of, twice_declared, reserved_name, too_many, deep_struct, large_default, twice_tag, tag_range, bad_default, array, bad_number, bad_const, unknown_struct, unknown_members, routekey}

-- ---- what is known after items

-- the names that are known, and how many declarations of each sort may still come
pub record State : Type 0 where
  pub known : List Known
  pub room : Room

abbrev pub scene_at : State → Item → Scene
scene_at state i = record { file = i.file; text = i.text; home = i.home; known = state.known; room = state.room }

-- what the name of a declaration means from then on
abbrev pub declared_as : Scene → DeclTree → Meaning
declared_as s (decls.Struct d) = a_struct (struct_depth s d.members) (struct_size s d.members) (each_once (map (λ (m : MemberTree). word s.text m.typed.name) d.members))
declared_as s (decls.Enum d) = an_enum (each_once (map (λ (i : EnumItem). word s.text i.name) d.items))
declared_as s _ = no_type

-- a name keeps what it was declared as first
abbrev pub known_with : List ℕ → List ℕ → List Known → Meaning → Option Span → List Known
known_with text home known meaning None = known
known_with text home known meaning (Some name) =
    if is_some (find home (word text name) known) then known
    else known ++ record { home = home; name = word text name; meaning = meaning } ∷ []

abbrev pub room_with : Room → DeclTree → Room
room_with room (decls.Struct d) = record room { structs = room.structs - 1 }
room_with room (decls.Enum d) = record room { enums = room.enums - 1 }
room_with room (decls.Const d) = record room { consts = room.consts - 1 }
room_with room (decls.Key d) = room
room_with room (decls.Interface d) = record room { interfaces = room.interfaces - 1 }

abbrev pub state_with_what : Scene → What → State
state_with_what s (declared decl) = record { known = known_with s.text s.home s.known (declared_as s decl) (name_of decl); room = room_with s.room decl }
state_with_what s _ = record { known = s.known; room = s.room }

abbrev pub state_with : State → Item → State
state_with state i = state_with_what (scene_at state i) i.what

abbrev pub at_first : State
at_first = record { known = []; room = record { structs = 1024; enums = 1024; consts = 1024; interfaces = 256 } }

abbrev pub state_after : List Item → State
state_after items = fold state_with at_first items

-- ---- rules

-- a rule judges each part of one sort, with the parts before it
abbrev pub Rule : Type 0 → Type 0
Rule Part = Scene → Condition Part Fault

-- what a rule finds in the parts of an item, with the items before it
abbrev pub each : {Part : Type 0} → (What → List Part) → Rule Part → Condition Item Fault
each parts rule before i = found_after (rule (scene_at (state_after before) i)) [] (parts i.what)

abbrev pub all_of : {Part : Type 0} → (What → List Part) → List (Rule Part) → List (Condition Item Fault)
all_of parts [] = []
all_of parts (rule ∷ rules) = each parts rule ∷ all_of parts rules

-- a rule that needs no parts before
abbrev pub alone : {Part : Type 0} → (Scene → Part → List Fault) → Rule Part
alone rule s before part = rule s part

abbrev pub at_layer : (Scene → TypeLayer → List Fault) → Rule TypeTree
at_layer rule s before ty = rule s (out-TypeTree ty)

-- a rule that judges each name of a list, with those before it
abbrev pub each_name : (Scene → NameList → Condition Span Fault) → Rule NameList
each_name rule s before list = found_after (rule s list) [] list.names

abbrev pub include_rules : List (Rule Included)
include_rules = alone no_include ∷ []

abbrev pub block_rules : List (Rule Span)
block_rules = alone reserved ∷ []

abbrev pub declaration_rules : List (Rule DeclTree)
declaration_rules = alone twice_declared ∷ alone reserved_name ∷ alone deep_struct ∷ alone too_many ∷ alone large_default ∷ []

abbrev pub type_rules : List (Rule TypeTree)
type_rules = at_layer unknown_type ∷ at_layer float ∷ at_layer bad_key ∷ alone deep_type ∷ at_layer unsigned_bytes ∷ []

abbrev pub name_rules : List (Rule NameList)
name_rules = each_name twice_in_list ∷ each_name reserved_in_list ∷ each_name too_many_in_list ∷ []

abbrev pub member_rules : List (Rule MemberTree)
member_rules = twice_tag ∷ tag_range ∷ bad_default ∷ array ∷ []

abbrev pub enumerator_rules : List (Rule EnumItem)
enumerator_rules = bad_number ∷ []

abbrev pub const_rules : List (Rule ConstTree)
const_rules = bad_const ∷ []

abbrev pub key_rules : List (Rule KeyTree)
key_rules = unknown_struct ∷ unknown_members ∷ []

abbrev pub param_rules : List (Rule ParamTree)
param_rules = routekey ∷ []

abbrev pub conditions : List (Condition Item Fault)
conditions =
    all_of includes_of include_rules
    ++ (all_of blocks_of block_rules
    ++ (all_of declarations_of declaration_rules
    ++ (all_of types_of type_rules
    ++ (all_of name_lists_of name_rules
    ++ (all_of members_of member_rules
    ++ (all_of enumerators_of enumerator_rules
    ++ (all_of consts_of const_rules
    ++ (all_of keys_of key_rules
    ++ all_of params_of param_rules))))))))

-- all faults of interface files
abbrev pub faults_of : List File → List Fault
faults_of files = found_by conditions (items_of files)
