-- For the proofs: what the steps of loading return, beside what loading gives (specs/Loading.antt).
use Rattle.std.specs.Prelude.{◌≡◌, ℕ, Bool, true, false, List, ◌++◌, Option, Some, None, Result, Ok, Err}
use Rattle.std.specs.List.{list_any}
use Rattle.std.specs.Str.{bytes_eq}
use Rattle.idl_parse.specs.Files.{File}
use Rattle.idl_lex.specs.declared.lex_fault.LexFault.{LexFault}
use Rattle.idl_lex.specs.declared.lex_fault.LexFault.TheVariants as lexes
use Rattle.idl_parse.specs.declared.parse_fault.ParseFault.{ParseFault}
use Rattle.idl_parse.specs.declared.parse_fault.ParseFault.TheVariants as parses
use Rattle.idl_load.specs.FileText.{FileText, tree, bad, IsText}
use Rattle.idl_load.specs.LoadAnswers.{IsErrGiven}
use Rattle.idl_load.specs.Loading.{Reading, Loads}
use Rattle.idl_load.specs.declared.file_fault.FileFault.TheVariants.{Lex, Parse}
use Rattle.idl_load.specs.declared.files_fault.FilesFault.{FilesFault}
use Rattle.idl_load.specs.declared.files_fault.FilesFault.TheVariants as files
use Rattle.idl_load.specs.declared.progress.Progress.{Progress}
use Rattle.idl_load.specs.declared.tree_fault.TreeFault.{TreeFault}
use Rattle.idl_load.specs.declared.tree_fault.TreeFault.TheVariants as trees
use Rattle.tars_base.specs.Contents.{Contents, AreTold}
use Rattle.tars_base.specs.declared.fault.ReadFault.{ReadFault}
use Rattle.tars_base.specs.declared.fault.ReadFault.TheVariants as reads

-- what a text is, by what reading its tree returned; want of memory says nothing
abbrev pub text_of : Result File TreeFault → Option FileText
text_of (Ok file) = Some (tree file.entries)
text_of (Err (trees.Refused fault)) = Some (bad fault)
text_of (Err trees.Memory) = None

abbrev pub lex_refused : LexFault → TreeFault
lex_refused (lexes.Bad at why) = trees.Refused (Lex at why)
lex_refused lexes.Memory = trees.Memory

abbrev pub parse_refused : ParseFault → TreeFault
parse_refused (parses.Bad at why) = trees.Refused (Parse at why)
parse_refused parses.Memory = trees.Memory

abbrev pub fault_of : ReadFault → FilesFault
fault_of reads.Failed = files.Read
fault_of reads.Memory = files.Memory

-- what is read under a name is what the files hold
pub record ReadsAt (contents : Contents) (read : Reading) (name : List ℕ) : Type 0 where
  pub missing : contents name ≡ None → read name ≡ None
  pub present : (bytes : List ℕ) → contents name ≡ Some bytes → (text : FileText) × (read name ≡ Some (bytes, text)) × IsText bytes text

-- whether the file of a name was begun
abbrev pub is_in : List (List ℕ) → List ℕ → Bool
is_in begun name = list_any (bytes_eq name) begun

-- the same of each file that is begun later, and was not before
abbrev pub ReadsBetween : List (List ℕ) → List (List ℕ) → Contents → Reading → Type 0
ReadsBetween before later contents read = (name : List ℕ) → is_in later name ≡ true → is_in before name ≡ false → ReadsAt contents read name

-- this holds of what is read of the files that a step begins, of some contents, which are those of the files where they are told
pub record ForStep (told : Option Contents) (before later : List (List ℕ)) (P : Reading → Type 0) : Type 0 where
  pub seen : Contents
  pub told_so : AreTold told seen
  pub so : (read : Reading) → ReadsBetween before later seen read → P read

-- names that are begun stay begun
abbrev pub Keeps : List (List ℕ) → List (List ℕ) → Type 0
Keeps before later = (more : List (List ℕ)) × (later ≡ before ++ more)

-- what loading gives, by what a step returned and left
abbrev pub IsGiven : {A : Type 0} → Result A FilesFault → Progress → Loads → Type 0
IsGiven (Ok x) p given = given ≡ Ok p
IsGiven (Err e) p given = IsErrGiven e given

-- this file is refused for this, or memory ran out
abbrev pub IsRefusedFor : List ℕ → TreeFault → FilesFault → Type 0
IsRefusedFor name (trees.Refused fault) (files.Refused own own_fault) = (own ≡ name) × (own_fault ≡ fault)
IsRefusedFor name trees.Memory (files.Refused own own_fault) = ⊥
IsRefusedFor name fault files.Read = ⊥
IsRefusedFor name fault files.Memory = Unit {0}
