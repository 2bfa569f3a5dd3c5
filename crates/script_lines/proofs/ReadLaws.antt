-- What `read_script` returned, by the outcome of the text; and each text has one outcome.
use Rattle.std.proofs.Common.{◌≡◌, ℕ, List, Result, Ok, Err, sym, subst, ◌∙◌, ◌⊎◌, inl, inr}
use Rattle.std.specs.Prelude.{IfOk, IfErr}
use Rattle.script_lines.specs.Scripts.{Script, IsScript, IsScriptFault}
use Rattle.script_lines.specs.KeptSteps.{outcome}
use Rattle.script_lines.specs.AnswerSteps.{GivesOutcome}
use Rattle.script_lines.specs.ScriptAnswers.{GivesScript, GivesFault, IsRefusalOf}
use Rattle.script_lines.specs.Views.{script_of}
use Rattle.script_lines.specs.declared.script_lines.ScriptLines.{ScriptLines}
use Rattle.script_lines.specs.declared.fault.ScriptFault.{ScriptFault}
use Rattle.script_lines.specs.declared.fault.ScriptRefusal.{ScriptRefusal}
use Rattle.script_lines.specs.declared.fault.ScriptRefusal.TheVariants.{Fault, Memory}
use Rattle.script_lines.specs.ScriptLimits.{KeepsLimits}
use Rattle.script_lines.proofs.LimitLaws.{keeps_limits}
use Rattle.script_lines.proofs.ScriptLaws.{OutcomeIs, outcome_is, script_outcome, fault_outcome}

abbrev Given : Type 0
Given = Result ScriptLines ScriptRefusal

pub read_is : (text : List ℕ) (r : Given) → GivesOutcome r (outcome text) → IfOk r (λ script. IsScript text (script_of script))
read_is text (Ok script) given = subst (OutcomeIs text) given (outcome_is text)
read_is text (Err refusal) given = tt

pub limits_are : (text : List ℕ) (r : Given) → GivesOutcome r (outcome text) → IfOk r (λ script. KeepsLimits (script_of script))
limits_are text (Ok script) given = keeps_limits text (script_of script) (read_is text (Ok script) given)
limits_are text (Err refusal) given = tt

pub fault_is : (text : List ℕ) (r : Given) → GivesOutcome r (outcome text) → IfErr r (λ refusal. IsRefusalOf text refusal)
fault_is text (Ok script) given = tt
fault_is text (Err (Fault fault)) given = subst (OutcomeIs text) given (outcome_is text)
fault_is text (Err Memory) given = tt

pub only_is : (text : List ℕ) (r : Given) → GivesOutcome r (outcome text) → (script : Script) → IsScript text script → GivesScript r script
only_is text (Ok given) is script says = let same = sym is ∙ script_outcome text script says in cc
only_is text (Err (Fault fault)) is script says = absurd (let same = sym is ∙ script_outcome text script says in cc)
only_is text (Err Memory) is script says = tt

pub refused_is : (text : List ℕ) (r : Given) → GivesOutcome r (outcome text) → (fault : ScriptFault) → IsScriptFault text fault → GivesFault r fault
refused_is text (Ok given) is fault has = absurd (let same = sym is ∙ fault_outcome text fault has in cc)
refused_is text (Err (Fault given)) is fault has = let same = sym is ∙ fault_outcome text fault has in cc
refused_is text (Err Memory) is fault has = tt

-- ---- one outcome

pub some_outcome : (text : List ℕ) → ((script : Script) × IsScript text script) ⊎ ((fault : ScriptFault) × IsScriptFault text fault)
some_outcome text = by_outcome (outcome text) (outcome_is text)
  where
    by_outcome : (r : Result Script ScriptFault) → OutcomeIs text r → ((script : Script) × IsScript text script) ⊎ ((fault : ScriptFault) × IsScriptFault text fault)
    by_outcome (Ok script) is = inl (script, is)
    by_outcome (Err fault) is = inr (fault, is)

pub one_script : (text : List ℕ) (a b : Script) → IsScript text a → IsScript text b → a ≡ b
one_script text a b first second = let same = sym (script_outcome text a first) ∙ script_outcome text b second in cc

pub one_fault : (text : List ℕ) (a b : ScriptFault) → IsScriptFault text a → IsScriptFault text b → a ≡ b
one_fault text a b first second = let same = sym (fault_outcome text a first) ∙ fault_outcome text b second in cc

pub not_both : (text : List ℕ) (script : Script) (fault : ScriptFault) → IsScript text script → ¬ (IsScriptFault text fault)
not_both text script fault says has = absurd (let same = sym (script_outcome text script says) ∙ fault_outcome text fault has in cc)
