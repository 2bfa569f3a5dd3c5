-- Each interface of files in which no rule finds a fault is made by the rules, whatever numbers the files hold.
use Rattle.std.proofs.Common.{◌<◌, ◌^◌, ℕ, List, [], ◌∷◌, ◌++◌, length}
use Rattle.std.proofs.lemmas.List.Elements.{All-append, All-cons, All-nil}
use Rattle.std.specs.List.{All}
use Rattle.idl_parse.specs.Files.{File, IsFileText}
use Rattle.idl_parse.specs.declared.tree.decl.DeclTree.{DeclTree}
use Rattle.idl_parse.specs.declared.tree.decl.DeclTree.TheVariants as decls
use Rattle.idl_schema.specs.Faultless.{CanAdd}
use Rattle.idl_schema.specs.SchemaOf.{place_of, interface_of, with_decl}
use Rattle.idl_schema.proofs.Taking.{takes_interface}
use Rattle.schema_files.specs.SchemaLoading.{declared, schema, LoadsSchema}
use Rattle.schema_kept.proofs.Kept.{declared_kept}
use Rattle.schema_kept.proofs.Loaded.{each_loaded, loaded_short, text_read}
use Rattle.tars_base.specs.Contents.{Contents}
use Rattle.tars_model.specs.Declarations.{Declared}
use Rattle.tars_model.specs.Schemas.{InterfaceFits}
use Rattle.tars_model.specs.declared.interface_desc.InterfaceDesc.{InterfaceDesc}

-- it fits what was declared before it
abbrev pub IsMade : InterfaceDesc → Type 0
IsMade i = (before : Declared) × InterfaceFits before i

abbrev AreMade : Declared → Type 0
AreMade d = All IsMade d.interfaces

abbrev IsRead : File → Type 0
IsRead file = IsFileText file.text file.entries

one_more : (is : List InterfaceDesc) (i : InterfaceDesc) → All IsMade is → IsMade i → All IsMade (is ++ i ∷ [])
one_more is i made one = All-append IsMade is (i ∷ []) made (All-cons IsMade i [] one (All-nil IsMade))

made_keeps : (file : File) → IsRead file → (home : List ℕ) (d : Declared) (decl : DeclTree) → AreMade d → CanAdd d file.text home decl → length d.keys < 2 ^ 32
    → AreMade (with_decl (place_of d file.text home) decl)
made_keeps file read home d (decls.Struct t) made can few = made
made_keeps file read home d (decls.Enum t) made can few = made
made_keeps file read home d (decls.Const t) made can few = made
made_keeps file read home d (decls.Key t) made can few = made
made_keeps file read home d (decls.Interface t) made can few =
    one_more d.interfaces (interface_of (place_of d file.text home) t) made (d, takes_interface d can.file file.text home can.items t can.can can.stands)

-- each interface that is loaded
pub loaded_interfaces : (contents : Contents) (file : List ℕ) (d : Declared) → LoadsSchema contents file (declared d) → All IsMade d.interfaces
loaded_interfaces contents file d (schema read found reads is none) =
    declared_kept AreMade IsRead (λ own is_read. is_read) made_keeps (All-nil IsMade) found
    (each_loaded contents read reads IsRead (λ name text entries e of_text. text_read name text entries of_text) file found is)
    (loaded_short contents read reads file found is) none
