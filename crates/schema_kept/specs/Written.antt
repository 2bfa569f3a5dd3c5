-- Files as they are written (docs/IDL.md, "Grammar" and "Loading").
use Rattle.std.specs.Prelude.{◌≡◌, ℕ, Some, List}
use Rattle.idl_parse.specs.Files.{File, IsFileText}
use Rattle.idl_schema.specs.Faultless.{AreBytes}
use Rattle.tars_base.specs.Contents.{Contents}

-- the file's entries are those that the grammar derives from its text, and its text is bytes
pub record IsWritten (file : File) : Type 0 where
  pub read : IsFileText file.text file.entries
  pub bytes : AreBytes file.text

-- what each file holds is bytes
abbrev pub HoldBytes : Contents → Type 0
HoldBytes contents = (name bytes : List ℕ) → contents name ≡ Some bytes → AreBytes bytes
