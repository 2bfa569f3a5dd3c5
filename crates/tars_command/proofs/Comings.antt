-- One answer is due for what is asked for, and it is what loading, reading and the commands on structs return.
use Rattle.std.proofs.Common.{◌≡◌, ◌≢◌, ℕ, List, Option, sym, ap, subst, ◌∙◌}
use Rattle.std.specs.Prelude.{Result, Ok, Err, IsErr, IsErrAnd}
use Rattle.std.specs.declared.vec.Vec.{Vec}
use Rattle.canonical_text.specs.Canonical.{canonical}
use Rattle.command_words.specs.Asked.{Asked, check, plan, encode, decode, compat}
use Rattle.run_course.specs.Planned.{planned}
use Rattle.run_report.specs.ReportText.{report_text_of}
use Rattle.schema_files.specs.SchemaLoading as schema
use Rattle.schema_files.specs.SchemaLoading.{SchemaAnswer, LoadsSchema}
use Rattle.schema_files.specs.declared.load_fault.LoadFault.{LoadFault}
use Rattle.schema_files.specs.declared.load_fault.LoadFault.TheVariants as faults
use Rattle.schema_files.proofs.CallerLemmas.{ForSchema, always, any_held, one_schema}
use Rattle.script_load.specs.Loading as load
use Rattle.script_load.specs.Loading.{LoadAnswer, Loads}
use Rattle.script_load.proofs.CallerLemmas.{ForScript, one_answer}
use Rattle.script_session.specs.declared.session.Session.{Session}
use Rattle.struct_files.specs.Answers as text
use Rattle.struct_files.specs.Answers.{TextAnswer, IsAnswered}
use Rattle.struct_files.specs.Comparing.{ComparesFiles}
use Rattle.struct_files.specs.Decoding.{DecodesFile}
use Rattle.struct_files.specs.Encoding.{EncodesFile}
use Rattle.schema_kept.specs.Written.{HoldBytes}
use Rattle.struct_files.proofs.CallerLemmas.{some_encoded, same_encoded, some_decoded, same_decoded, some_compared, same_compared}
use Rattle.tars_base.specs.Contents.{Contents, Held, IsHeld}
use Rattle.tars_command.specs.Due.{DueAnswer, usage, done, due_of_schema, due_of_script, due_of_text}
use Rattle.tars_command.specs.RunSteps.{Comes, checked, run, encoded, decoded, compared, IsComing}
use Rattle.tars_model.specs.Declarations.{Declared}

-- ---- one answer

module _ (held : Held) where
  -- `encode` comes to an answer where files hold bytes, every other command always
  abbrev pub HasBytesFor : Asked → Type 0
  HasBytesFor (encode file home name values) = HoldBytes (held 0)
  HasBytesFor x = Unit {0}

  pub some_coming : (x : Asked) → HasBytesFor x → (answer : DueAnswer) × Comes held x answer
  some_coming (check file) bytes = let one = one_schema (held 0) file in (due_of_schema one.0, checked one.0 one.1.holds)
  some_coming (plan script) bytes = let one = one_answer held script in (due_of_script one.0, run one.0 one.1.holds)
  some_coming (encode file home name values) bytes = let some = some_encoded held file home name values bytes in (due_of_text some.0, encoded some.0 some.1)
  some_coming (decode file home name hex) bytes = let some = some_decoded held file home name hex in (due_of_text some.0, decoded some.0 some.1)
  some_coming (compat old new home name) bytes = let some = some_compared held old new home name in (due_of_text some.0, compared some.0 some.1)

  pub same_coming : (x : Asked) (a b : DueAnswer) → Comes held x a → Comes held x b → a ≡ b
  same_coming (check file) a b (checked first holds) (checked second also) =
      let one = one_schema (held 0) file in ap due_of_schema (one.1.only first holds ∙ sym (one.1.only second also))
  same_coming (plan script) a b (run first holds) (run second also) =
      let one = one_answer held script in ap due_of_script (one.1.only first holds ∙ sym (one.1.only second also))
  same_coming (encode file home name values) a b (encoded first holds) (encoded second also) = ap due_of_text (same_encoded held file home name values first second holds also)
  same_coming (decode file home name hex) a b (decoded first holds) (decoded second also) = ap due_of_text (same_decoded held file home name hex first second holds also)
  same_coming (compat old new home name) a b (compared first holds) (compared second also) = ap due_of_text (same_compared held old new home name first second holds also)

schema_due : (answer : SchemaAnswer) → due_of_schema answer ≢ usage
schema_due (schema.declared d) = λ e. cc
schema_due (schema.refused line) = λ e. cc
schema_due (schema.unread name) = λ e. cc

script_due : (answer : LoadAnswer) → due_of_script answer ≢ usage
script_due (load.loaded l) = λ e. cc
script_due (load.refused line) = λ e. cc
script_due (load.unread name) = λ e. cc

text_due : (answer : TextAnswer) → due_of_text answer ≢ usage
text_due (text.done line) = λ e. cc
text_due (text.refused line) = λ e. cc
text_due (text.unread name) = λ e. cc

pub no_usage : (held : Held) (x : Asked) (answer : DueAnswer) → Comes held x answer → answer ≢ usage
no_usage held x answer (checked given holds) = schema_due given
no_usage held x answer (run given holds) = script_due given
no_usage held x answer (encoded given holds) = text_due given
no_usage held x answer (decoded given holds) = text_due given
no_usage held x answer (compared given holds) = text_due given

-- ---- what is returned

module _ (A : Type 0) (told : Option Contents) where
  -- what was returned for what is asked for, for what the files held
  abbrev pub ForAsked : Asked → Result (Vec ℕ A) LoadFault → Type 0
  ForAsked x result = (held : Held) × IsHeld told held × IsComing held x result

  by_error : (x : Asked) (fault : LoadFault) (result : Result (Vec ℕ A) LoadFault) → IsErr result × IsErrAnd result (λ e. e ≡ fault) → ForAsked x (Err fault) → ForAsked x result
  by_error x fault (Ok text) is says = absurd (cc (is.0))
  by_error x fault (Err own) is says = subst (λ (f : LoadFault). ForAsked x (Err f)) (sym is.1) says

  pub no_memory : (x : Asked) (result : Result (Vec ℕ A) LoadFault) → IsErr result × IsErrAnd result (λ e. e ≡ faults.Memory) → ForAsked x result
  no_memory x result is = let any = any_held told in by_error x faults.Memory result is (any.0, any.1, tt)

  by_text : (held : Held) (x : Asked) (own : Vec ℕ A) (line : List ℕ) → own.items ≡ line → Comes held x (done line) → Comes held x (done own.items)
  by_text held x own line is comes = subst (λ (t : List ℕ). Comes held x (done t)) (sym is) comes

  module _ (file : List ℕ) where
    check_fault : (fault : LoadFault) → ForSchema told file (Err fault) → ForAsked (check file) (Err fault)
    check_fault (faults.Refused line) given = (always given.0, (λ step. given.1), checked (schema.refused line) given.2.holds)
    check_fault faults.Read given = (always given.0, (λ step. given.1), tt)
    check_fault faults.Memory given = (always given.0, (λ step. given.1), tt)

    pub check_failed : (fault : LoadFault) (result : Result (Vec ℕ A) LoadFault) → IsErr result × IsErrAnd result (λ e. e ≡ fault) → ForSchema told file (Err fault) → ForAsked (check file) result
    check_failed fault result is given = by_error (check file) fault result is (check_fault fault given)

    pub check_printed : (d : Declared) (own : Vec ℕ A) → ForSchema told file (Ok d) → own.items ≡ canonical d → ForAsked (check file) (Ok own)
    check_printed d own given is = (always given.0, (λ step. given.1), by_text (always given.0) (check file) own (canonical d) is (checked (schema.declared d) given.2.holds))

  module _ (script : List ℕ) where
    plan_fault : (fault : LoadFault) → ForScript told script (Err fault) → ForAsked (plan script) (Err fault)
    plan_fault (faults.Refused line) given = (given.0, given.1, run (load.refused line) given.2.holds)
    plan_fault faults.Read given = (given.0, given.1, tt)
    plan_fault faults.Memory given = (given.0, given.1, tt)

    pub plan_failed : (fault : LoadFault) (result : Result (Vec ℕ A) LoadFault) → IsErr result × IsErrAnd result (λ e. e ≡ fault) → ForScript told script (Err fault) → ForAsked (plan script) result
    plan_failed fault result is given = by_error (plan script) fault result is (plan_fault fault given)

    pub plan_printed : (l : Session) (own : Vec ℕ A) → ForScript told script (Ok l) → own.items ≡ report_text_of l (planned l) → ForAsked (plan script) (Ok own)
    plan_printed l own given is = (given.0, given.1, by_text given.0 (plan script) own (report_text_of l (planned l)) is (run (load.loaded l) given.2.holds))

  -- the same by an answer of a command on a struct
  by_answer : (held : Held) (x : Asked) (Given : TextAnswer → Type 0) → ((answer : TextAnswer) → Given answer → Comes held x (due_of_text answer)) → (result : Result (Vec ℕ A) LoadFault) → IsAnswered Given result → IsComing held x result
  by_answer held x Given comes (Ok line) one = comes (text.done line.items) one.holds
  by_answer held x Given comes (Err (faults.Refused line)) one = comes (text.refused line) one.holds
  by_answer held x Given comes (Err faults.Read) one = tt
  by_answer held x Given comes (Err faults.Memory) one = tt

  pub encode_comes : (file home name values : List ℕ) (result : Result (Vec ℕ A) LoadFault) → (held : Held) × IsHeld told held × IsAnswered (EncodesFile held file home name values) result → ForAsked (encode file home name values) result
  encode_comes file home name values result given =
      (given.0, given.1, by_answer given.0 (encode file home name values) (EncodesFile given.0 file home name values) (λ answer holds. encoded answer holds) result given.2)

  pub decode_comes : (file home name hex : List ℕ) (result : Result (Vec ℕ A) LoadFault) → (held : Held) × IsHeld told held × IsAnswered (DecodesFile held file home name hex) result → ForAsked (decode file home name hex) result
  decode_comes file home name hex result given =
      (given.0, given.1, by_answer given.0 (decode file home name hex) (DecodesFile given.0 file home name hex) (λ answer holds. decoded answer holds) result given.2)

  pub compat_comes : (old new home name : List ℕ) (result : Result (Vec ℕ A) LoadFault) → (held : Held) × IsHeld told held × IsAnswered (ComparesFiles held old new home name) result → ForAsked (compat old new home name) result
  compat_comes old new home name result given =
      (given.0, given.1, by_answer given.0 (compat old new home name) (ComparesFiles given.0 old new home name) (λ answer holds. compared answer holds) result given.2)
