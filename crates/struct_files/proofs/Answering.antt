-- What a command on a struct gives of what the files held, by what was returned of opening them and of the text.
use Rattle.std.proofs.Common.{◌≡◌, ℕ, List, Option, sym, subst}
use Rattle.std.specs.Prelude.{Result, Ok, Err, IsErr, IsErrAnd}
use Rattle.std.specs.declared.vec.Vec.{Vec}
use Rattle.schema_files.specs.declared.load_fault.LoadFault.{LoadFault}
use Rattle.schema_files.specs.declared.load_fault.LoadFault.TheVariants.{Refused, Read, Memory}
use Rattle.struct_files.specs.Answers.{done, refused, Gives, bad_file, both_files, IsAnswered}
use Rattle.struct_files.specs.Steps.{IsComing}
use Rattle.struct_files.specs.declared.opening.Opened.{Opened}
use Rattle.struct_files.proofs.OneGiving.{Coming, IsSingle, only_answer}
use Rattle.struct_files.proofs.Opened.{ForOpening}
use Rattle.tars_base.specs.Contents.{Contents, Held, IsHeld}

module _ (A : Type 0) (Comes : Coming) (single : IsSingle Comes) (told : Option Contents) (file home name values : List ℕ) where
  -- what the command returned, for what the files held
  abbrev pub ForAnswer : Result (Vec ℕ A) LoadFault → Type 0
  ForAnswer result = (held : Held) × IsHeld told held × IsAnswered (Gives Comes held file home name values) result

  not_opened : (fault : LoadFault) → ForOpening told file home name values (Err fault) → ForAnswer (Err fault)
  not_opened (Refused line) given = (given.0, given.1, only_answer Comes given.0 file home name values single (refused line) (bad_file line given.2))
  not_opened Read given = (given.0, given.1, tt)
  not_opened Memory given = (given.0, given.1, tt)

  pub by_fault : (fault : LoadFault) (result : Result (Vec ℕ A) LoadFault) → IsErr result × IsErrAnd result (λ e. e ≡ fault) → ForOpening told file home name values (Err fault) → ForAnswer result
  by_fault fault (Ok line) is given = absurd (cc (is.0))
  by_fault fault (Err own) is given = subst (λ (f : LoadFault). ForAnswer (Err f)) (sym is.1) (not_opened fault given)

  pub by_text : (o : Opened) (result : Result (Vec ℕ A) LoadFault) → ForOpening told file home name values (Ok o) → IsComing (Comes o.schema o.number o.text.items) result → ForAnswer result
  by_text o (Ok line) given comes =
      (given.0, given.1, only_answer Comes given.0 file home name values single (done line.items) (both_files o.schema o.number o.text.items (done line.items) given.2 comes))
  by_text o (Err (Refused line)) given comes =
      (given.0, given.1, only_answer Comes given.0 file home name values single (refused line) (both_files o.schema o.number o.text.items (refused line) given.2 comes))
  by_text o (Err Read) given comes = absurd comes
  by_text o (Err Memory) given comes = (given.0, given.1, tt)
