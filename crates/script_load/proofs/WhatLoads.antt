-- What loading a script gives of what the files held, by what was read of them.
use Rattle.std.proofs.Common.{◌≡◌, ℕ, zero, suc, List, Option, sym, subst}
use Rattle.std.specs.Prelude.{Result, Ok, Err, IsErr, IsErrAnd}
use Rattle.std.specs.declared.vec.Vec.{Vec}
use Rattle.schema_files.specs.FileReading.{ReadsFile}
use Rattle.schema_files.specs.FileReading as file
use Rattle.schema_files.specs.LoadAnswers.{IsRefusedBy}
use Rattle.schema_files.specs.Refusals.{refusal_line}
use Rattle.schema_files.specs.declared.load_fault.LoadFault.{LoadFault}
use Rattle.schema_files.specs.declared.load_fault.LoadFault.TheVariants.{Refused, Read, Memory}
use Rattle.schema_files.proofs.CallerLemmas.{ForFile, always}
use Rattle.script_lines.specs.ScriptAnswers.{IsRefusalOf}
use Rattle.script_lines.specs.Scripts.{Script, IsScript}
use Rattle.script_lines.specs.declared.fault.ScriptRefusal.{ScriptRefusal}
use Rattle.script_lines.specs.declared.fault.ScriptRefusal.TheVariants as form
use Rattle.script_session.specs.declared.session.Session.{Session}
use Rattle.tars_base.specs.Contents.{Contents, Held, AreTold, IsHeld, HoldsOnly}
use Rattle.script_load.specs.LineFaults.{IsFirstFault}
use Rattle.script_load.specs.LineSteps.{OnFault}
use Rattle.script_load.specs.LoadAnswers.{IsAnswered}
use Rattle.script_load.specs.LoadSteps.{IsNoScript, IsNotJudged}
use Rattle.script_load.specs.Loading.{loaded, refused, Loads, long_script, bad_form, bad_interface, bad_line, session}
use Rattle.script_load.specs.Sessions.{IsSession}
use Rattle.script_load.specs.TextFaults.{form_fault, line_fault}
use Rattle.script_load.specs.declared.faults.LineRefusal.{LineRefusal}
use Rattle.script_load.specs.declared.faults.LineRefusal.TheVariants as line
use Rattle.script_load.specs.declared.sides.Sides.{Sides}
use Rattle.script_load.proofs.LoadingSides.{ForSides}
use Rattle.script_load.proofs.OneLoading.{only_answer}

-- what loading the script returned, for what was held
abbrev pub ForScript : Option Contents → List ℕ → Result Session LoadFault → Type 0
ForScript told script result = (held : Held) × IsHeld told held × IsAnswered held script result

-- what is held as the script is read, then the client's file, and from then on
abbrev three : Contents → Contents → Contents → Held
three text first later zero = text
three text first later (suc zero) = first
three text first later (suc (suc step)) = later

three_told : (told : Option Contents) (text first later : Contents) → AreTold told text → AreTold told first → AreTold told later → IsHeld told (three text first later)
three_told told text first later a b c zero = a
three_told told text first later a b c (suc zero) = b
three_told told text first later a b c (suc (suc step)) = c

module _ (told : Option Contents) (script : List ℕ) where
  -- what an error says of a result
  pub by_error : (fault : LoadFault) (result : Result Session LoadFault) → IsErr result × IsErrAnd result (λ x. x ≡ fault) → ForScript told script (Err fault) → ForScript told script result
  by_error fault (Ok l) is says = absurd (cc (is.0))
  by_error fault (Err own) is says = subst (λ (f : LoadFault). ForScript told script (Err f)) (sym is.1) says

  -- a line refuses the script, or there was no memory for it
  refused_script : (held : Held) (line : List ℕ) (fault : LoadFault) → Loads held script (refused line) → IsRefusedBy line fault → IsAnswered held script (Err fault)
  refused_script held line (Refused own) loads by = only_answer held script (refused own) (subst (λ (l : List ℕ). Loads held script (refused l)) (sym by) loads)
  refused_script held line Read loads by = tt
  refused_script held line Memory loads by = tt

  -- nothing more is read after a script that is refused
  no_file_by : (A : Type 0) (fault : LoadFault) → ForFile {A = A} told script (Err fault) → ForScript told script (Err fault)
  no_file_by A (Refused line) given = (always given.0, (λ step. given.1), only_answer (always given.0) script (refused line) (long_script line given.2.holds))
  no_file_by A Read given = (always given.0, (λ step. given.1), tt)
  no_file_by A Memory given = (always given.0, (λ step. given.1), tt)

  pub no_file : {A : Type 0} (result : Result (Vec ℕ A) LoadFault) → ForFile told script result → (fault : LoadFault) → result ≡ Err fault → ForScript told script (Err fault)
  no_file {A = A} result given fault is = no_file_by A fault (subst (ForFile told script) is given)

  -- these bytes were read whole
  abbrev pub WasRead : List ℕ → Type 0
  WasRead text = (seen : Contents) × AreTold told seen × HoldsOnly (ReadsFile seen script) (file.whole text)

  module _ (text : List ℕ) (read : WasRead text) where
    pub no_form : (refusal : ScriptRefusal) (fault : LoadFault) → IsRefusalOf text refusal → IsNoScript script refusal fault → ForScript told script (Err fault)
    no_form (form.Fault own) fault has by =
        (always read.0, (λ step. read.1), refused_script (always read.0) (refusal_line script (form_fault own)) fault (bad_form text own read.2.holds has) by)
    no_form form.Memory fault has by = (always read.0, (λ step. read.1), subst (λ (f : LoadFault). IsAnswered (always read.0) script (Err f)) (sym by) tt)

    module _ (s : Script) (says : IsScript text s) where
      pub no_sides : (fault : LoadFault) → ForSides told s (Err fault) → ForScript told script (Err fault)
      no_sides (Refused line) (first, later, is_first, is_later, one) =
          let held = three read.0 first later in
          (held, three_told told read.0 first later read.1 is_first is_later, only_answer held script (refused line) (bad_interface text line s read.2.holds says one.holds))
      no_sides Read (first, later, is_first, is_later, one) = (three read.0 first later, three_told told read.0 first later read.1 is_first is_later, tt)
      no_sides Memory (first, later, is_first, is_later, one) = (three read.0 first later, three_told told read.0 first later read.1 is_first is_later, tt)

      module _ (both : Sides) (given : ForSides told s (Ok both)) where
        abbrev held : Held
        held = three read.0 given.0 given.1

        held_told : IsHeld told held
        held_told = three_told told read.0 given.0 given.1 read.1 given.2 given.3

        pub not_judged : (refusal : LineRefusal) (fault : LoadFault) → OnFault refusal (IsFirstFault both.client both.server s) → IsNotJudged script refusal fault
            → ForScript told script (Err fault)
        not_judged (line.Fault own) fault first by =
            (held, held_told, refused_script held (refusal_line script (line_fault own)) fault (bad_line text s both.client both.server own read.2.holds says given.4.holds first) by)
        not_judged line.Memory fault first by = (held, held_told, subst (λ (f : LoadFault). IsAnswered held script (Err f)) (sym by) tt)

        pub judged : (l : Session) → IsSession s both.client both.server l → ForScript told script (Ok l)
        judged l is = (held, held_told, only_answer held script (loaded l) (session text s both.client both.server l read.2.holds says given.4.holds is))
