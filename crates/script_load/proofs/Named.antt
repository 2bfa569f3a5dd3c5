-- The function that a line names, and what is read of the line over it.
use Rattle.std.proofs.Common.{◌≡◌, ◌<◌, ℕ, true, List, length, slice_get, slice_index_or, Option, Some, None, refl, sym, ap, subst, ◌∙◌}
use Rattle.std.specs.Prelude.{Result, Ok, Err, IfErr, IsErr, IsErrAnd}
use Rattle.std.proofs.lemmas.Option.{get_or_from_slice_get, slice_get_within}
use Rattle.script_lines.specs.Scripts.{RuleLine}
use Rattle.script_rules.specs.Functions.{IsFunctionOf, AreParams}
use Rattle.script_rules.specs.Outcomes as outcome
use Rattle.script_rules.specs.Rules.{MeansRule, RuleFaultOf}
use Rattle.script_rules.specs.declared.rule_fault.RuleFault.{RuleFault}
use Rattle.script_rules.specs.declared.rule_fault.RuleFault.TheVariants as fault
use Rattle.script_session.specs.Judged.{HasBytes}
use Rattle.servant_core.specs.declared.rules.Rule.{Rule}
use Rattle.servant_core.specs.declared.rules.Rule.TheVariants as rule
use Rattle.tars_model.specs.Declarations.{Declared}
use Rattle.tars_model.specs.declared.func_desc.FuncDesc.{FuncDesc}
use Rattle.tars_model.specs.declared.value.Value.{Value}
use Rattle.value_text.specs.Printed.{has_bytes}
use Rattle.script_load.specs.LineFaults.{IsNamed, HasRuleFault, no_rule}
use Rattle.script_load.specs.LineSteps.{OnFault, AreTheFuncs, at_line}
use Rattle.script_load.specs.declared.faults.LineFault.{LineFault}
use Rattle.script_load.specs.declared.faults.LineRefusal.{LineRefusal}
use Rattle.script_load.specs.declared.faults.LineRefusal.TheVariants as line

-- ---- the function

pub named_within : (funcs : List FuncDesc) (name : List ℕ) (number : ℕ) → IsFunctionOf funcs name number → number < length funcs
named_within funcs name number found = slice_get_within funcs number found.0 found.1

module _ (funcs : List FuncDesc) (name : List ℕ) (number : ℕ) (func : FuncDesc) (found : IsFunctionOf funcs name number) (is : func ≡ slice_index_or funcs number func) where
  same_func : found.0 ≡ func
  same_func = sym (get_or_from_slice_get funcs number found.0 func found.1) ∙ sym is

  pub is_named : IsNamed funcs name number func
  is_named = record { found = found.1 ∙ ap (λ (f : FuncDesc). Some f) same_func; named = sym (ap (λ (f : FuncDesc). f.name) same_func) ∙ found.2 }

  pub named_params : AreTheFuncs funcs → AreParams func.params
  named_params are = are.params number func is_named.found

-- ---- rules

pub rule_bytes : (made : Rule) → ((value : Value) → made ≡ rule.Value value → has_bytes value ≡ true) → HasBytes made
rule_bytes (rule.Value value) each = each value refl
rule_bytes (rule.Echo place) each = tt
rule_bytes (rule.Add first second) each = tt
rule_bytes (rule.Code number) each = tt
rule_bytes rule.Silent each = tt

module _ (d : Declared) (funcs : List FuncDesc) (own : RuleLine) (number : ℕ) (func : FuncDesc) (named : IsNamed funcs own.func number func) where
  abbrev OfLine : LineRefusal → Type 0
  OfLine refusal = OnFault refusal (λ f. (f.at ≡ own.at) × HasRuleFault d funcs own f.why)

  pub rule_refused : (why : RuleFault) → outcome.OnFault why (RuleFaultOf d func own.rule) → (refusal : LineRefusal) → refusal ≡ at_line own.at why → OfLine refusal
  rule_refused fault.UnknownName has refusal is = subst OfLine (sym is) (refl, no_rule number func named has)
  rule_refused fault.BadValue has refusal is = subst OfLine (sym is) (refl, no_rule number func named has)
  rule_refused fault.Memory has refusal is = subst OfLine (sym is) tt

-- ---- errors

-- what is said of a refusal holds of the result that hands it on
pub on_error : {A : Type 0} (P : LineFault → Type 0) (result : Result A LineRefusal) (refusal : LineRefusal) → IsErr result × IsErrAnd result (λ x. x ≡ refusal) → OnFault refusal P
    → IfErr result (λ r. OnFault r P)
on_error P (Ok made) refusal is says = tt
on_error P (Err own) refusal is says = subst (λ (r : LineRefusal). OnFault r P) (sym is.1) says

pub on_fault : (P Q : LineFault → Type 0) → ((fault : LineFault) → P fault → Q fault) → (refusal : LineRefusal) → OnFault refusal P → OnFault refusal Q
on_fault P Q each (line.Fault fault) says = each fault says
on_fault P Q each line.Memory says = tt
