-- For the proofs: faults of a name that is declared, where there is one.
use Rattle.std.specs.Prelude.{Bool, is_some, Option, List}
use Rattle.idl_lex.specs.declared.span.Span.{Span}
use Rattle.idl_scene.specs.Faults.{fault_if}
use Rattle.idl_scene.specs.Items.{word}
use Rattle.idl_scene.specs.Known.{Scene, find}
use Rattle.idl_scene.specs.declared.check_fault.CheckWhy.TheVariants.{TwiceName, TooMany}
use Rattle.idl_scene.specs.declared.check_fault.Fault.{Fault}
use Rattle.idl_rules.specs.Rules.{at_name, reserved}

abbrev pub twice_named : Scene → Option Span → List Fault
twice_named s name = at_name (λ name. fault_if (is_some (find s.home (word s.text name) s.known)) s.file name.start TwiceName) name

abbrev pub reserved_named : Scene → Option Span → List Fault
reserved_named s name = at_name (reserved s) name

abbrev pub full_named : Scene → Bool → Option Span → List Fault
full_named s full name = at_name (λ name. fault_if full s.file name.start TooMany) name
