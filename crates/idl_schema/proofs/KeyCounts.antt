-- The keys that are declared are no more than the declarations.
use Rattle.std.proofs.Common.{◌≡◌, ◌<◌, ◌≤◌, ◌+◌, ◌^◌, ℕ, List, [], ◌∷◌, length, get_or, drop, ap, arith, length-append, length-drop}
use Rattle.idl_parse.specs.Files.{File, IsFileText}
use Rattle.idl_parse.specs.declared.tree.decl.DeclTree.{DeclTree}
use Rattle.idl_parse.specs.declared.tree.decl.DeclTree.TheVariants as decls
use Rattle.idl_parse.specs.declared.tree.module.Entry.{Entry}
use Rattle.idl_parse.specs.declared.tree.module.Entry.TheVariants.{Include, Module}
use Rattle.idl_scene.specs.Items.{word}
use Rattle.idl_schema.specs.Faultless.{entry_decls, decl_count, with_decls, with_entry, with_entries, with_file}
use Rattle.idl_schema.specs.Lengths.{total_length}
use Rattle.idl_schema.specs.SchemaOf.{Place, place_of, key_of, with_decl}
use Rattle.idl_schema.proofs.TokenCounts.{few_decls}
use Rattle.idl_schema.proofs.Walking.{left_is}
use Rattle.tars_model.specs.Declarations.{Declared}

decl_keys : (p : Place) (decl : DeclTree) → length (with_decl p decl).keys ≤ length p.so_far.keys + 1
decl_keys p (decls.Struct t) = omega arith
decl_keys p (decls.Enum t) = omega arith
decl_keys p (decls.Const t) = omega arith
decl_keys p (decls.Key t) = omega (arith, length-append p.so_far.keys (key_of p t ∷ []))
decl_keys p (decls.Interface t) = omega arith

decls_keys : (text home : List ℕ) (d : Declared) (decls : List DeclTree) → length (with_decls text home d decls).keys ≤ length d.keys + length decls
decls_keys text home d [] = omega arith
decls_keys text home d (decl ∷ decls) = omega (arith, decl_keys (place_of d text home) decl, decls_keys text home (with_decl (place_of d text home) decl) decls)

entry_keys : (text : List ℕ) (d : Declared) (e : Entry) → length (with_entry text d e).keys ≤ length d.keys + entry_decls e
entry_keys text d (Include span) = omega arith
entry_keys text d (Module m) = decls_keys text (word text m.name) d m.decls

entries_keys : (text : List ℕ) (d : Declared) (entries : List Entry) → length (with_entries text d entries).keys ≤ length d.keys + decl_count entries
entries_keys text d [] = omega arith
entries_keys text d (e ∷ entries) = omega (arith, entry_keys text d e, entries_keys text (with_entry text d e) entries)

-- ---- what is left has room, as the loops ask for it

pub next_decl_few : (text home : List ℕ) (d e : Declared) (decls : List DeclTree) (i : ℕ) (decl : DeclTree) → i < length decls → e ≡ with_decl (place_of d text home) decl
    → length d.keys + length (drop i decls) < 2 ^ 32 → length e.keys + length (drop (i + 1) decls) < 2 ^ 32
next_decl_few text home d e decls i decl within is few =
    omega (arith, ap (λ (d : Declared). length d.keys) is, decl_keys (place_of d text home) decl, length-drop i decls, length-drop (i + 1) decls)

module _ (text : List ℕ) (d : Declared) (entries : List Entry) (i : ℕ) (entry : Entry) (within : i < length entries) (is : entry ≡ get_or entries i entry) (few : length d.keys + decl_count (drop i entries) < 2 ^ 32) where
  pub entry_few : length d.keys + entry_decls entry < 2 ^ 32
  entry_few = omega (arith, ap decl_count (left_is entries i entry within is))

  pub next_entry_few : (e : Declared) → e ≡ with_entry text d entry → length e.keys + decl_count (drop (i + 1) entries) < 2 ^ 32
  next_entry_few e same = omega (arith, ap (λ (d : Declared). length d.keys) same, entry_keys text d entry, ap decl_count (left_is entries i entry within is))

module _ (d : Declared) (files : List File) (i : ℕ) (file : File) (within : i < length files) (is : file ≡ get_or files i file) (few : length d.keys + total_length (drop i files) < 2 ^ 32) (read : IsFileText file.text file.entries) where
  pub file_few : length d.keys + decl_count file.entries < 2 ^ 32
  file_few = omega (arith, ap total_length (left_is files i file within is), few_decls file.text file.entries read)

  pub next_file_few : (e : Declared) → e ≡ with_file d file → length e.keys + total_length (drop (i + 1) files) < 2 ^ 32
  next_file_few e same =
      omega (arith, ap (λ (d : Declared). length d.keys) same, entries_keys file.text d file.entries, ap total_length (left_is files i file within is), few_decls file.text file.entries read)
