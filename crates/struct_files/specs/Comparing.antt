-- What `compat` gives (docs/SCRIPTS.md, "Two versions"; docs/PROTOCOL.md, "Compatibility").
use Rattle.std.specs.Prelude.{ℕ, List, ◌++◌, codes}
use Rattle.refuse_lines.specs.RefuseText.{path_text}
use Rattle.struct_files.specs.Answers.{TextAnswer, done, refused, unread}
use Rattle.struct_files.specs.Finding as finding
use Rattle.struct_files.specs.Finding.{Finds}
use Rattle.tars_base.specs.Contents.{Held}
use Rattle.tars_model.specs.Declarations.{Declared, members_at}
use Rattle.tars_versions.specs.Agreement.{Agreement, agree, differ, versions_agree}
use Rattle.tars_versions.specs.declared.reason_kind.ReasonKind.{ReasonKind}
use Rattle.tars_versions.specs.declared.reason_kind.ReasonKind.TheVariants.{Missing, Mismatch}

abbrev pub kind_text : ReasonKind → List ℕ
kind_text Missing = codes "missing"
kind_text Mismatch = codes "mismatch"

-- `compatible`, or `incompatible` and the first reason with its path, in a line
unfoldable pub agreement_line : Agreement → List ℕ
agreement_line agree = codes "compatible\n"
agreement_line (differ reason) = codes "incompatible " ++ kind_text reason.kind ++ codes " " ++ path_text reason.steps ++ codes "\n"

-- the structs of two numbers, an old one and a new one
abbrev pub structs_agree : Declared → ℕ → Declared → ℕ → Agreement
structs_agree d number d' number' = versions_agree d (members_at d number) d' (members_at d' number')

-- `compat OLD NEW STRUCT` gives this for the struct `home::name`. The struct is found in the old file before the new file is
-- read. Files may change in between: each is read of what they hold then.
pub data ComparesFiles (held : Held) (old new home name : List ℕ) : TextAnswer → Type 0 where
  no_old :
      (missing : List ℕ) → Finds (held 0) old home name (finding.unread missing)
      → ComparesFiles held old new home name (unread missing)
  bad_old :
      (line : List ℕ) → Finds (held 0) old home name (finding.refused line)
      → ComparesFiles held old new home name (refused line)
  no_new :
      (d : Declared) (number : ℕ) (missing : List ℕ) → Finds (held 0) old home name (finding.found d number)
      → Finds (held 1) new home name (finding.unread missing) → ComparesFiles held old new home name (unread missing)
  bad_new :
      (d : Declared) (number : ℕ) (line : List ℕ) → Finds (held 0) old home name (finding.found d number)
      → Finds (held 1) new home name (finding.refused line) → ComparesFiles held old new home name (refused line)
  both_structs :
      (d : Declared) (number : ℕ) (d' : Declared) (number' : ℕ) → Finds (held 0) old home name (finding.found d number)
      → Finds (held 1) new home name (finding.found d' number')
      → ComparesFiles held old new home name (done (agreement_line (structs_agree d number d' number')))
