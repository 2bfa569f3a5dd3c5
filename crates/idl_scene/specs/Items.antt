-- What interface files say, one thing after the other in the order of their texts (docs/IDL.md, "Rules").
use Rattle.std.specs.Prelude.{ℕ, ◌+◌, List, [], ◌∷◌, ◌++◌, map, slice_range}
use Rattle.std.specs.List.{flat_map}
use Rattle.idl_parse.specs.Files.{File}
use Rattle.idl_lex.specs.declared.span.Span.{Span}
use Rattle.idl_parse.specs.declared.tree.decl.DeclTree.{DeclTree}
use Rattle.idl_parse.specs.declared.tree.module.Entry.{Entry}
use Rattle.idl_parse.specs.declared.tree.module.Entry.TheVariants.{Include, Module}

-- the bytes at a span of a text
abbrev pub word : List ℕ → Span → List ℕ
word text span = slice_range text span.start span.end

-- an include: the span of its text, and the names of the files before
pub record Included : Type 0 where
  pub span : Span
  pub earlier : List (List ℕ)

-- an include, the name of a module at one of its blocks, a declaration
pub data What : Type 0 where
  included : Included → What
  block : Span → What
  declared : DeclTree → What

-- what is said, and where: the number and the text of its file, and its module's name
pub record Item : Type 0 where
  pub file : ℕ
  pub text : List ℕ
  pub home : List ℕ
  pub what : What

abbrev pub item : ℕ → List ℕ → List ℕ → What → Item
item file text home what = record { file = file; text = text; home = home; what = what }

abbrev pub declared_item : ℕ → List ℕ → List ℕ → DeclTree → Item
declared_item file text home decl = item file text home (declared decl)

abbrev pub entry_items : ℕ → List ℕ → List (List ℕ) → Entry → List Item
entry_items file text earlier (Include span) = item file text [] (included (record { span = span; earlier = earlier })) ∷ []
entry_items file text earlier (Module m) =
    item file text (word text m.name) (block m.name) ∷ map (declared_item file text (word text m.name)) m.decls

abbrev pub file_items : ℕ → List (List ℕ) → File → List Item
file_items file earlier f = flat_map (entry_items file f.text earlier) f.entries

abbrev pub name_of : File → List ℕ
name_of f = f.name

-- the items of files that stand after others, from this number on
abbrev pub items_from : ℕ → List (List ℕ) → List File → List Item
items_from file earlier [] = []
items_from file earlier (f ∷ files) = file_items file earlier f ++ items_from (file + 1) (earlier ++ f.name ∷ []) files

abbrev pub items_of : List File → List Item
items_of files = items_from 0 [] files
