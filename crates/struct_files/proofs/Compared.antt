-- What comparing two versions of a struct gives of what the files held, by what finding it in them returned.
use Rattle.std.proofs.Common.{◌≡◌, ℕ, List, Option, sym, subst}
use Rattle.std.specs.Prelude.{Result, Ok, Err, IsErr, IsErrAnd}
use Rattle.std.specs.declared.vec.Vec.{Vec}
use Rattle.schema_files.specs.declared.load_fault.LoadFault.{LoadFault}
use Rattle.schema_files.specs.declared.load_fault.LoadFault.TheVariants.{Refused, Read, Memory}
use Rattle.schema_files.proofs.CallerLemmas.{always, any_held, held_in, held_told}
use Rattle.struct_files.specs.Answers.{done, refused, IsAnswered}
use Rattle.struct_files.specs.Comparing.{agreement_line, structs_agree, ComparesFiles, bad_old, bad_new, both_structs}
use Rattle.struct_files.specs.declared.finding.Found.{Found}
use Rattle.struct_files.proofs.Found.{ForFinding}
use Rattle.struct_files.proofs.OneComparing.{only_compared}
use Rattle.tars_base.specs.Contents.{Contents, Held, IsHeld}

module _ (A : Type 0) (told : Option Contents) (old new home name : List ℕ) where
  -- what the command returned, for what the files held
  abbrev ForAnswer : Result (Vec ℕ A) LoadFault → Type 0
  ForAnswer result = (held : Held) × IsHeld told held × IsAnswered (ComparesFiles held old new home name) result

  pub by_fault : (fault : LoadFault) (result : Result (Vec ℕ A) LoadFault) → IsErr result × IsErrAnd result (λ e. e ≡ fault) → ForAnswer (Err fault) → ForAnswer result
  by_fault fault (Ok line) is given = absurd (cc (is.0))
  by_fault fault (Err own) is given = subst (λ (f : LoadFault). ForAnswer (Err f)) (sym is.1) given

  pub no_memory : ForAnswer (Err Memory)
  no_memory = let any = any_held told in (any.0, any.1, tt)

  pub old_not_found : (fault : LoadFault) → ForFinding told old home name (Err fault) → ForAnswer (Err fault)
  old_not_found (Refused line) given = (always given.0, (λ step. given.1), only_compared (always given.0) old new home name (refused line) (bad_old line given.2))
  old_not_found Read given = (always given.0, (λ step. given.1), tt)
  old_not_found Memory given = (always given.0, (λ step. given.1), tt)

  module _ (before : Found) (first : ForFinding told old home name (Ok before)) where
    pub new_not_found : (fault : LoadFault) → ForFinding told new home name (Err fault) → ForAnswer (Err fault)
    new_not_found (Refused line) second =
        let held = held_in first.0 second.0 in
        (held, held_told told first.0 second.0 first.1 second.1, only_compared held old new home name (refused line) (bad_new before.schema before.number line first.2 second.2))
    new_not_found Read second = (held_in first.0 second.0, held_told told first.0 second.0 first.1 second.1, tt)
    new_not_found Memory second = (held_in first.0 second.0, held_told told first.0 second.0 first.1 second.1, tt)

    pub both_found : (after : Found) (line : Vec ℕ A) → ForFinding told new home name (Ok after) → line.items ≡ agreement_line (structs_agree before.schema before.number after.schema after.number) → ForAnswer (Ok line)
    both_found after line second is =
        let held = held_in first.0 second.0 in (
          held,
          held_told told first.0 second.0 first.1 second.1,
          only_compared held old new home name (done line.items)
              (subst (λ (text : List ℕ). ComparesFiles held old new home name (done text)) (sym is) (both_structs before.schema before.number after.schema after.number first.2 second.2)),
        )
