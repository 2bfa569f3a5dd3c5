-- What the text of an interface file is (docs/IDL.md, "Loading").
use Rattle.std.specs.Prelude.{ℕ, ◌<◌, ◌≤◌, List, length}
use Rattle.idl_parse.specs.Faults.{IsFault}
use Rattle.idl_parse.specs.Grammar.{nesting_limit, IsFile}
use Rattle.idl_lex.specs.Tokens.{Tokens, IsLexFault}
use Rattle.idl_lex.specs.declared.lex_fault.LexWhy.{LexWhy}
use Rattle.idl_parse.specs.declared.parse_fault.ParseWhy.{ParseWhy}
use Rattle.idl_lex.specs.declared.token.Token.{Token}
use Rattle.idl_parse.specs.declared.tree.module.Entry.{Entry}
use Rattle.idl_load.specs.declared.file_fault.FileFault.{FileFault}
use Rattle.idl_load.specs.declared.file_fault.FileFault.TheVariants.{TooLong, Lex, Parse}
use Rattle.tars_base.specs.Limits.{MAX_FILE}

-- its tree, or what is wrong with it
pub data FileText : Type 0 where
  tree : List Entry → FileText
  bad : FileFault → FileText

-- Bytes are this: the first that stands of too long, no tokens, no file, a file.
pub data IsText (bytes : List ℕ) : FileText → Type 0 where
  too_long : MAX_FILE < length bytes → IsText bytes (bad TooLong)
  no_tokens : (at : ℕ) (why : LexWhy) → length bytes ≤ MAX_FILE → IsLexFault bytes at why → IsText bytes (bad (Lex at why))
  no_file :
      (tokens : List Token) (at : ℕ) (why : ParseWhy) → length bytes ≤ MAX_FILE → Tokens bytes tokens
      → IsFault nesting_limit (length bytes) tokens at why → IsText bytes (bad (Parse at why))
  file :
      (tokens : List Token) (entries : List Entry) → length bytes ≤ MAX_FILE → Tokens bytes tokens
      → IsFile nesting_limit tokens entries → IsText bytes (tree entries)
