-- The files of an interface: a file, and those that it includes before it (docs/IDL.md, "Loading").
use Rattle.std.specs.Prelude.{◌≡◌, ℕ, zero, suc, nat_le, Bool, not, ◌||◌, if◌then◌else◌, Option, Some, None, Result, Ok, Err, List, [], ◌∷◌, ◌++◌, length, slice_range}
use Rattle.std.specs.List.{list_any}
use Rattle.std.specs.Str.{bytes_eq, is_utf8}
use Rattle.facts.specs.ResultSteps.{◌>>=◌}
use Rattle.idl_parse.specs.Files.{File, include_spans}
use Rattle.idl_lex.specs.Meanings.{plain_text}
use Rattle.idl_lex.specs.declared.span.Span.{Span}
use Rattle.idl_parse.specs.declared.tree.module.Entry.{Entry}
use Rattle.idl_load.specs.FileText.{FileText, tree, bad, IsText}
use Rattle.idl_load.specs.declared.file_fault.FileFault.{FileFault}
use Rattle.idl_load.specs.declared.file_fault.FileFault.TheVariants.{TooManyFiles}
use Rattle.idl_load.specs.declared.progress.Progress.{Progress}
use Rattle.tars_base.specs.Contents.{Contents}

-- how many files an interface may have
abbrev pub MAX_FILES : ℕ
MAX_FILES = 64

-- what is read under each name: the bytes and what they are, or nothing
abbrev pub Reading : Type 0
Reading = List ℕ → Option (List ℕ × FileText)

-- it is read what the files hold
pub record Reads (contents : Contents) (read : Reading) : Type 0 where
  pub missing : (name : List ℕ) → contents name ≡ None → read name ≡ None
  pub present : (name bytes : List ℕ) → contents name ≡ Some bytes → (text : FileText) × (read name ≡ Some (bytes, text)) × IsText bytes text

-- why loading stops: there is no file of a name, or one is refused
pub data Stop : Type 0 where
  unread : List ℕ → Stop
  refused : List ℕ → FileFault → Stop

abbrev pub Loads : Type 0
Loads = Result Progress Stop

abbrev pub begin : Progress → List ℕ → Progress
begin p name = record p { begun = p.begun ++ name ∷ [] }

abbrev pub file_of : List ℕ → List ℕ → List Entry → File
file_of name bytes entries = record { name = name; text = bytes; entries = entries }

abbrev pub finish : Progress → File → Progress
finish p file = record p { done = p.done ++ file ∷ [] }

-- a name that is no text, or that was begun, is passed over
abbrev pub is_passed : Progress → List ℕ → Bool
is_passed p name = not (is_utf8 name) || list_any (bytes_eq name) p.begun

-- One include of a file, whose text begins at an offset.
unfoldable pub include : (Progress → List ℕ → Loads) → List ℕ → Progress → List ℕ → ℕ → Loads
include visit file p name at =
    if is_passed p name then Ok p
    else (if nat_le MAX_FILES (length p.begun) then Err (refused file (TooManyFiles at)) else visit p name)

-- The includes of a file, one after the other.
unfoldable pub follow : (Progress → List ℕ → Loads) → List ℕ → List ℕ → Progress → List Span → Loads
follow visit file bytes p [] = Ok p
follow visit file bytes p (span ∷ spans) =
    include visit file p (plain_text (slice_range bytes span.start span.end)) span.start >>= λ q. follow visit file bytes q spans

-- A file, with what is read under its name: the files that it includes come before it.
unfoldable pub visit_read : (Progress → List ℕ → Loads) → Progress → List ℕ → Option (List ℕ × FileText) → Loads
visit_read visit p name None = Err (unread name)
visit_read visit p name (Some (bytes, bad fault)) = Err (refused name fault)
visit_read visit p name (Some (bytes, tree entries)) =
    follow visit name bytes (begin p name) (include_spans entries) >>= λ q. Ok (finish q (file_of name bytes entries))

-- A file, where so many more may be open one inside the other. (Each one that is open was begun, so of `MAX_FILES` there
-- are always enough.)
unfoldable pub visit : ℕ → Reading → Progress → List ℕ → Loads
visit zero read p name = Err (unread name)
visit (suc room) read p name = visit_read (visit room read) p name (read name)

abbrev pub nothing_begun : Progress
nothing_begun = record { begun = []; done = [] }

-- the file of a name and those that it includes, each after the files that it includes
unfoldable pub load_of : Reading → List ℕ → Result (List File) Stop
load_of read name = visit MAX_FILES read nothing_begun name >>= λ p. Ok p.done
