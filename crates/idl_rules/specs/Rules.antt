-- What is wrong with declarations and their parts (docs/IDL.md, "Rules"). What is wrong with types is in
-- specs/Types.antt of idl_scene.
use Rattle.std.specs.Prelude.{ℕ, nat_eq, nat_le, nat_lt, Bool, true, false, ◌&&◌, ◌||◌, not, ℤ, Option, Some, None, is_some, List, [], ◌∷◌, length, codes}
use Rattle.std.specs.List.{list_any, starts_with}
use Rattle.std.specs.Ordering.{int_eq}
use Rattle.std.specs.Str.{bytes_eq}
use Rattle.least_fault.specs.Conditions.{Condition, found_after}
use Rattle.tars_model.specs.Values.{is_signed, is_unsigned}
use Rattle.idl_lex.specs.Meanings.{whole_number, plain_text}
use Rattle.idl_lex.specs.declared.span.Span.{Span}
use Rattle.idl_parse.specs.declared.tree.decl.ConstTree.{ConstTree}
use Rattle.idl_parse.specs.declared.tree.decl.DeclTree.{DeclTree}
use Rattle.idl_parse.specs.declared.tree.decl.DeclTree.TheVariants as decls
use Rattle.idl_parse.specs.declared.tree.decl.EnumItem.{EnumItem}
use Rattle.idl_parse.specs.declared.tree.decl.KeyTree.{KeyTree}
use Rattle.idl_parse.specs.declared.tree.func.ParamTree.{ParamTree}
use Rattle.idl_parse.specs.declared.tree.literal.Literal.{Literal}
use Rattle.idl_parse.specs.declared.tree.member.ArrayLen.{ArrayLen}
use Rattle.idl_parse.specs.declared.tree.member.MemberTree.{MemberTree}
use Rattle.idl_parse.specs.declared.tree.type_tree.TypeTree.{out-TypeTree}
use Rattle.idl_scene.specs.Faults.{fault_if}
use Rattle.idl_scene.specs.Items.{Included, word}
use Rattle.idl_scene.specs.Known.{Scene, find, is_struct, members_of}
use Rattle.idl_scene.specs.Literals.{literal_start, fits_literal, number_of_item, number_start}
use Rattle.idl_scene.specs.Structs.{struct_depth, struct_size}
use Rattle.idl_scene.specs.Types.{TypeLayer}
use Rattle.idl_scene.specs.declared.check_fault.CheckWhy.TheVariants.{NoInclude, TwiceName, UnknownName, BadIdentifier, TwiceTag, TagRange, BadDefault, TooDeep, LeftOut, TooMany}
use Rattle.idl_scene.specs.declared.check_fault.Fault.{Fault}
use Rattle.idl_scene.specs.declared.known.Room.{Room}
use Rattle.idl_rules.specs.Parts.{NameList}

-- the name that is included is that of no file before
abbrev pub no_include : Scene → Included → List Fault
no_include s i = fault_if (not (list_any (bytes_eq (plain_text (word s.text i.span))) i.earlier)) s.file i.span.start NoInclude

-- ---- names

-- `tars_` stands in the bytes
abbrev pub is_reserved : List ℕ → Bool
is_reserved [] = false
is_reserved (b ∷ bytes) = starts_with nat_eq (b ∷ bytes) (codes "tars_") || is_reserved bytes

abbrev pub reserved : Scene → Span → List Fault
reserved s name = fault_if (is_reserved (word s.text name)) s.file name.start BadIdentifier

abbrev pub twice_in_list : Scene → NameList → Condition Span Fault
twice_in_list s list before name = fault_if (list_any (λ (e : Span). bytes_eq (word s.text name) (word s.text e)) before) s.file name.start TwiceName

abbrev pub reserved_in_list : Scene → NameList → Condition Span Fault
reserved_in_list s list before name = fault_if (list.declares && is_reserved (word s.text name)) s.file name.start BadIdentifier

abbrev pub is_full : Option ℕ → ℕ → Bool
is_full None count = false
is_full (Some most) count = nat_le most count

abbrev pub too_many_in_list : Scene → NameList → Condition Span Fault
too_many_in_list s list before name = fault_if (is_full list.most (length before)) s.file name.start TooMany

-- ---- declarations

-- the name that is declared; a key has none
abbrev pub name_of : DeclTree → Option Span
name_of (decls.Struct d) = Some d.name
name_of (decls.Enum d) = Some d.name
name_of (decls.Const d) = Some d.typed.name
name_of (decls.Key d) = None
name_of (decls.Interface d) = Some d.name

-- faults of a name, where there is one
abbrev pub at_name : (Span → List Fault) → Option Span → List Fault
at_name faults None = []
at_name faults (Some name) = faults name

-- the name stands in its module already
abbrev pub twice_declared : Scene → DeclTree → List Fault
twice_declared s decl = at_name (λ name. fault_if (is_some (find s.home (word s.text name) s.known)) s.file name.start TwiceName) (name_of decl)

abbrev pub reserved_name : Scene → DeclTree → List Fault
reserved_name s decl = at_name (reserved s) (name_of decl)

-- how many more declarations of this one's sort may stand here; a key is of no such sort
abbrev pub room_for : Room → DeclTree → Option ℕ
room_for room (decls.Struct d) = Some room.structs
room_for room (decls.Enum d) = Some room.enums
room_for room (decls.Const d) = Some room.consts
room_for room (decls.Key d) = None
room_for room (decls.Interface d) = Some room.interfaces

abbrev pub is_none_left : Option ℕ → Bool
is_none_left None = false
is_none_left (Some left) = nat_eq left 0

abbrev pub too_many : Scene → DeclTree → List Fault
too_many s decl = at_name (λ name. fault_if (is_none_left (room_for s.room decl)) s.file name.start TooMany) (name_of decl)

-- ---- structs

abbrev pub deep_struct : Scene → DeclTree → List Fault
deep_struct s (decls.Struct d) = fault_if (nat_lt 32 (struct_depth s d.members)) s.file d.name.start TooDeep
deep_struct s _ = []

abbrev pub large_default : Scene → DeclTree → List Fault
large_default s (decls.Struct d) = fault_if (nat_lt 1024 (struct_size s d.members)) s.file d.name.start TooMany
large_default s _ = []

abbrev pub tag_of : Scene → MemberTree → ℤ
tag_of s m = whole_number (word s.text m.tag)

-- a tag that may be one stands before
abbrev pub twice_tag : Scene → Condition MemberTree Fault
twice_tag s before m =
    fault_if (is_unsigned 8 (tag_of s m) && list_any (λ e. int_eq (tag_of s m) (tag_of s e)) before) s.file m.tag.start TwiceTag

abbrev pub tag_range : Scene → Condition MemberTree Fault
tag_range s before m = fault_if (not (is_unsigned 8 (tag_of s m))) s.file m.tag.start TagRange

abbrev pub bad_literal : Scene → Option ℕ → TypeLayer → Literal → List Fault
bad_literal s most ty literal = fault_if (not (fits_literal s most ty literal)) s.file (literal_start literal) BadDefault

abbrev pub bad_written : Scene → TypeLayer → Option Literal → List Fault
bad_written s ty None = []
bad_written s ty (Some literal) = bad_literal s (Some 255) ty literal

-- a default text has at most 255 bytes
abbrev pub bad_default : Scene → Condition MemberTree Fault
bad_default s before m = bad_written s (out-TypeTree m.typed.ty) m.default

abbrev pub left_out : Scene → Option ℕ → List Fault
left_out s None = []
left_out s (Some at) = fault_if true s.file at LeftOut

abbrev pub array_at : Option ArrayLen → Option ℕ
array_at None = None
array_at (Some a) = Some a.at

abbrev pub array : Scene → Condition MemberTree Fault
array s before m = left_out s (array_at m.array)

-- ---- enums, constants, keys and functions

abbrev pub bad_number : Scene → Condition EnumItem Fault
bad_number s before i = fault_if (not (is_signed 31 (number_of_item s.text before i))) s.file (number_start i i.number) BadDefault

abbrev pub bad_const : Scene → Condition ConstTree Fault
bad_const s before c = bad_literal s None (out-TypeTree c.typed.ty) c.value

abbrev pub unknown_struct : Scene → Condition KeyTree Fault
unknown_struct s before k = fault_if (not (is_struct (find s.home (word s.text k.struct_name) s.known))) s.file k.struct_name.start UnknownName

-- a name in a key is that of no member
abbrev pub unknown_member : Scene → List (List ℕ) → Condition Span Fault
unknown_member s members before name = fault_if (not (list_any (bytes_eq (word s.text name)) members)) s.file name.start UnknownName

abbrev pub unknown_members : Scene → Condition KeyTree Fault
unknown_members s before k = found_after (unknown_member s (members_of (find s.home (word s.text k.struct_name) s.known))) [] k.members

abbrev pub routekey : Scene → Condition ParamTree Fault
routekey s before p = left_out s p.routekey
