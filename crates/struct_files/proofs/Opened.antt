-- What opening the files of a struct gives of what they held, by what finding it and reading returned.
use Rattle.std.proofs.Common.{◌≡◌, ℕ, List, Option, sym, subst}
use Rattle.std.specs.Prelude.{Result, Ok, Err, IsErr, IsErrAnd}
use Rattle.std.specs.declared.vec.Vec.{Vec}
use Rattle.schema_files.specs.declared.load_fault.LoadFault.{LoadFault}
use Rattle.schema_files.specs.declared.load_fault.LoadFault.TheVariants.{Refused, Read, Memory}
use Rattle.schema_files.proofs.CallerLemmas.{ForFile, always, held_in, held_told}
use Rattle.struct_files.specs.Opening.{opened, Opens, no_struct, bad_values, struct_and_values}
use Rattle.struct_files.specs.Steps.{IsOpened}
use Rattle.struct_files.specs.declared.finding.Found.{Found}
use Rattle.struct_files.specs.declared.opening.Opened.{Opened}
use Rattle.struct_files.proofs.Found.{ForFinding}
use Rattle.tars_base.specs.Contents.{Contents, Held, IsHeld}

module _ (told : Option Contents) (file home name values : List ℕ) where
  -- what opening returned, for what the files held
  abbrev pub ForOpening : Result Opened LoadFault → Type 0
  ForOpening result = (held : Held) × IsHeld told held × IsOpened held file home name values result

  pub by_fault : (fault : LoadFault) (result : Result Opened LoadFault) → IsErr result × IsErrAnd result (λ e. e ≡ fault) → ForOpening (Err fault) → ForOpening result
  by_fault fault (Ok o) is says = absurd (cc (is.0))
  by_fault fault (Err own) is says = subst (λ (f : LoadFault). ForOpening (Err f)) (sym is.1) says

  pub not_found : (fault : LoadFault) → ForFinding told file home name (Err fault) → ForOpening (Err fault)
  not_found (Refused line) given = (always given.0, (λ step. given.1), no_struct line given.2)
  not_found Read given = (always given.0, (λ step. given.1), tt)
  not_found Memory given = (always given.0, (λ step. given.1), tt)

  module _ (f : Found) (found : ForFinding told file home name (Ok f)) (A : Type 0) where
    pub not_read : (fault : LoadFault) → ForFile {A = A} told values (Err fault) → ForOpening (Err fault)
    not_read (Refused line) read =
        (held_in found.0 read.0, held_told told found.0 read.0 found.1 read.1, bad_values f.schema f.number line found.2 read.2.holds)
    not_read Read read = (held_in found.0 read.0, held_told told found.0 read.0 found.1 read.1, tt)
    not_read Memory read = (held_in found.0 read.0, held_told told found.0 read.0 found.1 read.1, tt)

    pub both_read : (text : Vec ℕ A) → ForFile told values (Ok text) → (held : Held) × IsHeld told held × Opens held file home name values (opened f.schema f.number text.items)
    both_read text read =
        (held_in found.0 read.0, held_told told found.0 read.0 found.1 read.1, struct_and_values f.schema f.number text.items found.2 read.2.holds)
