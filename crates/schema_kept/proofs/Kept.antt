-- Files in which no rule finds a fault declare a schema: each declaration is made by the rules over those before it.
use Rattle.std.proofs.Common.{◌≡◌, ◌<◌, ◌+◌, ◌^◌, ℕ, List, [], ◌∷◌, length, fold, refl, subst, arith}
use Rattle.std.proofs.lemmas.List.Elements.{All-head, All-tail}
use Rattle.std.specs.List.{All}
use Rattle.idl_parse.specs.Files.{File, IsFileText}
use Rattle.idl_parse.specs.Grammar.{nesting_limit}
use Rattle.idl_parse.specs.Nesting.{EntryNests}
use Rattle.idl_parse.specs.TreeSpans.{EntryIn}
use Rattle.idl_parse.specs.declared.tree.decl.DeclTree.{DeclTree}
use Rattle.idl_parse.specs.declared.tree.decl.DeclTree.TheVariants as decls
use Rattle.idl_parse.specs.declared.tree.module.Entry.{Entry}
use Rattle.idl_parse.specs.declared.tree.module.Entry.TheVariants.{Include, Module}
use Rattle.idl_parse.proofs.Trees.NestingLaws.{file_spans}
use Rattle.idl_parse.proofs.Trees.TypeNesting.{file_nests}
use Rattle.idl_rules.specs.Conditions.{faults_of}
use Rattle.idl_scene.specs.Items.{word}
use Rattle.idl_schema.specs.Faultless.{CanAdd, CanAddAll, CanAddEntries, CanAddFiles, decl_count, with_decls, with_entries, with_file}
use Rattle.idl_schema.specs.Lengths.{total_length}
use Rattle.idl_schema.specs.SchemaOf.{place_of, with_decl, schema_of}
use Rattle.idl_schema.proofs.KeyCounts.{next_decl_few, entry_few, next_entry_few, file_few, next_file_few}
use Rattle.idl_schema.proofs.Taking.{takes_struct, takes_enum, takes_const, takes_key, takes_interface}
use Rattle.idl_schema.proofs.Walking.{first_decl, rest_decls, module_decls, rest_entries, first_file, rest_files, can_add_files, all_files}
use Rattle.schema_kept.specs.Written.{IsWritten}
use Rattle.tars_model.specs.Declarations.{Declared, nothing_declared}
use Rattle.tars_model.specs.Schemas.{IsSchema}
use Rattle.tars_model.specs.Schemas.IsSchema.{nothing, struct, enum, const, key, interface}

-- ---- what each declaration keeps

module _ (Is : Declared → Type 0) (Written : File → Type 0) (read_of : (file : File) → Written file → IsFileText file.text file.entries)
    (keeps : (file : File) → Written file → (home : List ℕ) (d : Declared) (decl : DeclTree) → Is d → CanAdd d file.text home decl → length d.keys < 2 ^ 32 → Is (with_decl (place_of d file.text home) decl)) where
  module _ (file : File) (written : Written file) where
    abbrev text : List ℕ
    text = file.text

    decls_kept : (home : List ℕ) (d : Declared) (decls : List DeclTree) → Is d → CanAddAll d text home decls → length d.keys + length decls < 2 ^ 32 → Is (with_decls text home d decls)
    decls_kept home d [] kept can few = kept
    decls_kept home d (decl ∷ decls) kept can few =
        decls_kept home (with_decl (place_of d text home) decl) decls
        (keeps file written home d decl kept (first_decl d text home decl decls can) (omega (arith, few)))
        (rest_decls d text home decl decls can) (next_decl_few text home d _ (decl ∷ decls) 0 decl (omega arith) refl few)

    entries_kept : (d : Declared) (entries : List Entry) → Is d → CanAddEntries d text entries → length d.keys + decl_count entries < 2 ^ 32 → Is (with_entries text d entries)
    entries_kept d [] kept can few = kept
    entries_kept d (Include span ∷ entries) kept can few =
        entries_kept d entries kept (rest_entries d text (Include span) entries can) (next_entry_few text d (Include span ∷ entries) 0 (Include span) (omega arith) refl few _ refl)
    entries_kept d (Module m ∷ entries) kept can few =
        entries_kept (with_decls text (word text m.name) d m.decls) entries
        (decls_kept (word text m.name) d m.decls kept (module_decls d text m entries can) (entry_few text d (Module m ∷ entries) 0 (Module m) (omega arith) refl few))
        (rest_entries d text (Module m) entries can) (next_entry_few text d (Module m ∷ entries) 0 (Module m) (omega arith) refl few _ refl)

    spans : All (EntryIn text) file.entries
    spans = let read = read_of file written in file_spans nesting_limit text read.tokens file.entries read.are read.derived

    nests : All (EntryNests nesting_limit) file.entries
    nests = let read = read_of file written in file_nests nesting_limit read.tokens file.entries read.derived

  files_kept : (d : Declared) (files : List File) → Is d → CanAddFiles d files → length d.keys + total_length files < 2 ^ 32 → All Written files → Is (fold with_file d files)
  files_kept d [] kept can few written = kept
  files_kept d (file ∷ files) kept can few written =
      let here = All-head Written file files written in
      let short : length file.text < 2 ^ 32 = omega (arith, few) in
      let read = read_of file here in
      files_kept (with_file d file) files
      (entries_kept file here d file.entries kept (first_file d file files can short (spans file here) (nests file here)) (file_few d (file ∷ files) 0 file (omega arith) refl few read))
      (rest_files d file files can short (spans file here) (nests file here)) (next_file_few d (file ∷ files) 0 file (omega arith) refl few read _ refl)
      (All-tail Written file files written)

  -- it holds of what files declare that have no fault, and fewer than 2^32 bytes together
  pub declared_kept : Is nothing_declared → (files : List File) → All Written files → total_length files < 2 ^ 32 → faults_of files ≡ [] → Is (schema_of files)
  declared_kept none_is files written short none =
      subst Is (all_files files) (files_kept nothing_declared files none_is (can_add_files files none) (omega (arith, short)) written)

-- ---- schemas

schema_keeps : (file : File) → IsWritten file → (home : List ℕ) (d : Declared) (decl : DeclTree) → IsSchema d → CanAdd d file.text home decl → length d.keys < 2 ^ 32
    → IsSchema (with_decl (place_of d file.text home) decl)
schema_keeps file written home d (decls.Struct t) kept can few = struct kept (takes_struct d can.file file.text home can.items written.bytes t can.can can.stands) refl
schema_keeps file written home d (decls.Enum t) kept can few = enum kept (takes_enum d can.file file.text home can.items t can.can can.stands) refl
schema_keeps file written home d (decls.Const t) kept can few = const kept (takes_const d can.file file.text home can.items written.bytes t can.can can.stands) refl
schema_keeps file written home d (decls.Key t) kept can few = key kept (takes_key d can.file file.text home can.items t can.can few) refl
schema_keeps file written home d (decls.Interface t) kept can few = interface kept (takes_interface d can.file file.text home can.items t can.can can.stands) refl

-- files of bytes declare one
pub schema_kept : (files : List File) → All IsWritten files → total_length files < 2 ^ 32 → faults_of files ≡ [] → IsSchema (schema_of files)
schema_kept files written short none = declared_kept IsSchema IsWritten (λ file is. is.read) schema_keeps (nothing refl) files written short none
