-- What looking for a struct gives of what the files held, by what loading the interface file returned.
use Rattle.std.proofs.Common.{◌≡◌, ℕ, List, Option, Some, None, sym, subst}
use Rattle.std.specs.Prelude.{Result, Ok, Err, IsErr, IsErrAnd}
use Rattle.idl_schema.specs.SchemaOf.{struct_number}
use Rattle.schema_files.specs.LoadAnswers.{IsRefusedBy}
use Rattle.schema_files.specs.Refusals.{refusal_line}
use Rattle.schema_files.specs.declared.load_fault.LoadFault.{LoadFault}
use Rattle.schema_files.specs.declared.load_fault.LoadFault.TheVariants.{Refused, Read, Memory}
use Rattle.schema_files.proofs.CallerLemmas.{ForSchema}
use Rattle.struct_files.specs.Finding.{found, refused, unknown_struct, Finds, bad_interface, no_struct, struct}
use Rattle.struct_files.specs.Steps.{IsFound}
use Rattle.struct_files.specs.declared.finding.Found.{Found}
use Rattle.tars_base.specs.Contents.{Contents, AreTold}
use Rattle.tars_model.specs.Declarations.{Declared}

module _ (told : Option Contents) (file home name : List ℕ) where
  -- what looking for the struct returned, for some contents
  abbrev pub ForFinding : Result Found LoadFault → Type 0
  ForFinding result = (seen : Contents) × AreTold told seen × IsFound seen file home name result

  not_loaded : (fault : LoadFault) → ForSchema told file (Err fault) → ForFinding (Err fault)
  not_loaded (Refused line) given = (given.0, given.1, bad_interface line given.2.holds)
  not_loaded Read given = (given.0, given.1, tt)
  not_loaded Memory given = (given.0, given.1, tt)

  pub by_fault : (fault : LoadFault) (result : Result Found LoadFault) → IsErr result × IsErrAnd result (λ e. e ≡ fault) → ForSchema told file (Err fault) → ForFinding result
  by_fault fault (Ok f) is given = absurd (cc (is.0))
  by_fault fault (Err own) is given = subst (λ (f : LoadFault). ForFinding (Err f)) (sym is.1) (not_loaded fault given)

  module _ (d : Declared) (loaded : ForSchema told file (Ok d)) where
    pub not_declared : (fault : LoadFault) → struct_number d home name ≡ None → IsRefusedBy (refusal_line file unknown_struct) fault → ForFinding (Err fault)
    not_declared (Refused line) none by =
        (loaded.0, loaded.1, subst (λ (l : List ℕ). Finds loaded.0 file home name (refused l)) (sym by) (no_struct d loaded.2.holds none))
    not_declared Read none by = absurd by
    not_declared Memory none by = (loaded.0, loaded.1, tt)

    pub is_declared : (number : ℕ) → struct_number d home name ≡ Some number → (seen : Contents) × AreTold told seen × Finds seen file home name (found d number)
    is_declared number is = (loaded.0, loaded.1, struct d number loaded.2.holds is)
