-- What loading an interface file declares is a schema, where files hold bytes.
use Rattle.std.proofs.Common.{◌≡◌, ◌<◌, ◌^◌, ℕ, Option, Some, None, List, refl, subst}
use Rattle.std.specs.List.{All}
use Rattle.std.specs.Prelude.{Ok}
use Rattle.idl_parse.specs.Files.{File, IsFileText}
use Rattle.idl_parse.specs.declared.tree.module.Entry.{Entry}
use Rattle.idl_load.specs.FileText.{FileText, tree, IsText}
use Rattle.idl_load.specs.FileText.IsText.{file as of_tree}
use Rattle.idl_load.specs.Loading.{Reading, Reads, file_of, load_of}
use Rattle.idl_load.proofs.Bounds.{bounded}
use Rattle.idl_schema.specs.Lengths.{total_length}
use Rattle.schema_files.specs.SchemaLoading.{declared, schema, LoadsSchema}
use Rattle.schema_files.proofs.SchemaLoading.{files_short}
use Rattle.schema_kept.specs.Written.{IsWritten, HoldBytes}
use Rattle.schema_kept.proofs.Finding.{load_keeps}
use Rattle.schema_kept.proofs.Kept.{schema_kept}
use Rattle.tars_base.specs.Contents.{Contents}
use Rattle.tars_model.specs.Declarations.{Declared}
use Rattle.tars_model.specs.Schemas.{IsSchema}

-- each file that is loaded is what its text makes it
module _ (contents : Contents) (read : Reading) (reads : Reads contents read) (Is : File → Type 0)
    (makes : (name bytes : List ℕ) (entries : List Entry) → contents name ≡ Some bytes → IsText bytes (tree entries) → Is (file_of name bytes entries)) where
  file_is : (name text : List ℕ) (entries : List Entry) (o : Option (List ℕ)) → contents name ≡ o → read name ≡ Some (text, tree entries) → Is (file_of name text entries)
  file_is name text entries None e is = absurd (cc (reads.missing name e, is))
  file_is name text entries (Some own) e is =
      let found = reads.present name own e in
      let same : (own, found.0) ≡ (text, tree entries) = cc (found.1, is) in
      let both = subst (λ (p : List ℕ × FileText). (contents name ≡ Some p.0) × IsText p.0 p.1) same (e, found.2) in
      makes name text entries both.0 both.1

  pub each_loaded : (name : List ℕ) (found : List File) → load_of read name ≡ Ok found → All Is found
  each_loaded = load_keeps Is read (λ name text entries is. file_is name text entries (contents name) refl is)

-- the files that are loaded have fewer than 2^32 bytes together
pub loaded_short : (contents : Contents) (read : Reading) → Reads contents read → (name : List ℕ) (found : List File) → load_of read name ≡ Ok found → total_length found < 2 ^ 32
loaded_short contents read reads name found e = let most = bounded contents read reads name found e in files_short found most.0 most.1

pub text_read : (name bytes : List ℕ) (entries : List Entry) → IsText bytes (tree entries) → IsFileText bytes entries
text_read name bytes entries (of_tree tokens _ within lexed derived) = record { tokens = tokens; are = lexed; derived = derived }

-- what is declared is a schema, where files hold bytes
pub loaded_is_schema : (contents : Contents) → HoldBytes contents → (file : List ℕ) (d : Declared) → LoadsSchema contents file (declared d) → IsSchema d
loaded_is_schema contents bytes file d (schema read found reads is none) =
    schema_kept found
    (each_loaded contents read reads IsWritten (λ name text entries e of_text. record { read = text_read name text entries of_text; bytes = bytes name text e }) file found is)
    (loaded_short contents read reads file found is) none
