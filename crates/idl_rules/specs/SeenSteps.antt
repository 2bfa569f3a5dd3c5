-- For the proofs: the words that stood before.
use Rattle.std.specs.Prelude.{◌≡◌, ℕ, Bool, not, ◌&&◌, List, ◌++◌}
use Rattle.std.specs.List.{list_any}
use Rattle.std.specs.Str.{bytes_eq}
use Rattle.idl_lex.specs.declared.span.Span.{Span}
use Rattle.idl_scene.specs.Faults.{fault_if}
use Rattle.idl_scene.specs.Items.{word}
use Rattle.idl_scene.specs.Known.{Scene}
use Rattle.idl_scene.specs.declared.check_fault.CheckWhy.TheVariants.{TwiceName, BadIdentifier, TooMany}
use Rattle.idl_scene.specs.declared.check_fault.Fault.{Fault}
use Rattle.idl_rules.specs.Rules.{is_reserved}

-- a word stands among those seen just where it stands among the words
pub record HasSame (seen words : List (List ℕ)) : Type 0 where
  pub same : (word : List ℕ) → list_any (bytes_eq word) seen ≡ list_any (bytes_eq word) words

-- what is found at a name after names of which these words were seen
abbrev pub faults_of_name : Scene → Bool → Bool → List (List ℕ) → Span → List Fault
faults_of_name s declares full seen name =
    fault_if (not (not (list_any (bytes_eq (word s.text name)) seen))) s.file name.start TwiceName
    ++ (fault_if (declares && is_reserved (word s.text name)) s.file name.start BadIdentifier ++ fault_if full s.file name.start TooMany)
