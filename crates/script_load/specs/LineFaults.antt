-- The names and values in a script that its interfaces do not have (docs/SCRIPTS.md, "Faults of scripts").
use Rattle.std.specs.Prelude.{◌≡◌, ◌≤◌, ℕ, ◌⊎◌, Some, None, List, slice_get}
use Rattle.script_lines.specs.Meanings.{Event, call}
use Rattle.script_lines.specs.Scripts.{Script, RuleLine, EventLine}
use Rattle.script_rules.specs.Functions.{IsFunctionOf}
use Rattle.script_rules.specs.Rules.{RuleFaultOf}
use Rattle.script_rules.specs.declared.rule_fault.RuleFault.{RuleFault}
use Rattle.script_rules.specs.declared.rule_fault.RuleFault.TheVariants as rule
use Rattle.script_values.specs.Args.{SaysArgs}
use Rattle.tars_model.specs.Declarations.{Declared}
use Rattle.tars_model.specs.Members.{arguments_of}
use Rattle.tars_model.specs.declared.func_desc.FuncDesc.{FuncDesc}
use Rattle.tars_model.specs.declared.value.Value.{Value}
use Rattle.script_load.specs.Sides.{interface_number, funcs_named}
use Rattle.script_load.specs.declared.faults.LineFault.{LineFault}
use Rattle.script_load.specs.declared.faults.LineWhy.{LineWhy}
use Rattle.script_load.specs.declared.faults.LineWhy.TheVariants.{UnknownName, BadValue}

-- no function has the name
abbrev pub IsUnknown : List FuncDesc → List ℕ → Type 0
IsUnknown funcs name = (number : ℕ) → ¬ (IsFunctionOf funcs name number)

-- the function of the name
pub record IsNamed (funcs : List FuncDesc) (name : List ℕ) (number : ℕ) (func : FuncDesc) : Type 0 where
  pub found : slice_get funcs number ≡ Some func
  pub named : func.name ≡ name

abbrev pub rule_fault : LineWhy → RuleFault
rule_fault UnknownName = rule.UnknownName
rule_fault BadValue = rule.BadValue

-- 6: the function is unknown, or 6 or 7: the words mean no rule of it
pub data HasRuleFault (d : Declared) (funcs : List FuncDesc) (line : RuleLine) (why : LineWhy) : Type 0 where
  no_function : why ≡ UnknownName → IsUnknown funcs line.func → HasRuleFault d funcs line why
  no_rule :
      (number : ℕ) (func : FuncDesc) → IsNamed funcs line.func number func → RuleFaultOf d func line.rule (rule_fault why)
      → HasRuleFault d funcs line why

-- 6: the function is unknown, or 7: the text says no arguments of it
pub data HasCallFault (d : Declared) (funcs : List FuncDesc) (name args : List ℕ) (why : LineWhy) : Type 0 where
  no_function : why ≡ UnknownName → IsUnknown funcs name → HasCallFault d funcs name args why
  no_arguments :
      (number : ℕ) (func : FuncDesc) → why ≡ BadValue → IsNamed funcs name number func
      → ((values : List Value) → ¬ (SaysArgs d (arguments_of func) values args)) → HasCallFault d funcs name args why

-- of events only calls have faults
abbrev pub HasEventFault : Declared → List FuncDesc → Event → LineWhy → Type 0
HasEventFault d funcs (call name args) why = HasCallFault d funcs name args why
HasEventFault d funcs _ why = ⊥

-- A line has the fault: 6 that of the interface where a side has none of its module and name, a rule over the server's interface, a
-- call over the client's.
pub data IsLineFault (client server : Declared) (s : Script) (fault : LineFault) : Type 0 where
  no_client : fault.at ≡ s.interface.at → fault.why ≡ UnknownName → interface_number client s.interface ≡ None → IsLineFault client server s fault
  no_server : fault.at ≡ s.interface.at → fault.why ≡ UnknownName → interface_number server s.interface ≡ None → IsLineFault client server s fault
  bad_rule :
      (k : ℕ) (line : RuleLine) → slice_get s.rules k ≡ Some line → fault.at ≡ line.at
      → HasRuleFault server (funcs_named server s.interface) line fault.why → IsLineFault client server s fault
  bad_event :
      (k : ℕ) (line : EventLine) → slice_get s.events k ≡ Some line → fault.at ≡ line.at
      → HasEventFault client (funcs_named client s.interface) line.event fault.why → IsLineFault client server s fault

-- the first line that has a fault
pub record IsFirstFault (client server : Declared) (s : Script) (fault : LineFault) : Type 0 where
  pub has : IsLineFault client server s fault
  pub first : (other : LineFault) → IsLineFault client server s other → fault.at ≤ other.at
