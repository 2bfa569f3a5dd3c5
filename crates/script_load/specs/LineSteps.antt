-- For the proofs: what the functions that judge lines give. What a session and a fault are stands in specs/Sessions.antt and
-- specs/LineFaults.antt.
use Rattle.std.specs.Prelude.{◌≡◌, ◌<◌, ◌≤◌, ◌⊎◌, ℕ, true, Option, Some, None, List, length, take, slice_get, Result, Ok, Err}
use Rattle.std.specs.List.{All, list_all}
use Rattle.script_lines.specs.Scripts.{Script, IsScript, RuleLine, EventLine}
use Rattle.script_rules.specs.Functions.{AreFuncs, AreParams}
use Rattle.script_rules.specs.declared.rule_fault.RuleFault.{RuleFault}
use Rattle.script_rules.specs.declared.rule_fault.RuleFault.TheVariants as rule
use Rattle.script_session.specs.Judged.{HasBytes}
use Rattle.script_session.specs.declared.session.CallSpec.{CallSpec}
use Rattle.script_session.specs.declared.session.Event.{Event}
use Rattle.script_session.specs.declared.session.Event.TheVariants.{Call}
use Rattle.script_session.specs.declared.session.FuncRule.{FuncRule}
use Rattle.servant_core.specs.Functions.{functions_of}
use Rattle.servant_core.specs.Rules.{IsRuleOf as RuleFits}
use Rattle.tars_base.specs.Limits.{MAX_FILE}
use Rattle.tars_model.specs.Declarations.{Declared}
use Rattle.tars_model.specs.Members.{arguments_of}
use Rattle.tars_model.specs.Values.{fit_members}
use Rattle.tars_model.specs.declared.func_desc.FuncDesc.{FuncDesc}
use Rattle.value_text.specs.Printed.{has_bytes}
use Rattle.script_load.specs.LineFaults.{HasRuleFault, HasEventFault}
use Rattle.script_load.specs.Sessions.{AreRules, AreEvents}
use Rattle.script_load.specs.Sides.{interface_number}
use Rattle.script_load.specs.declared.faults.LineFault.{LineFault}
use Rattle.script_load.specs.declared.faults.LineRefusal.{LineRefusal}
use Rattle.script_load.specs.declared.faults.LineRefusal.TheVariants as line
use Rattle.script_load.specs.declared.faults.LineWhy.TheVariants.{UnknownName, BadValue}
use Rattle.script_load.specs.declared.session.Headers.{Headers}

-- ---- refusals

-- what is said of a fault; want of memory says nothing
abbrev pub OnFault : LineRefusal → (LineFault → Type 0) → Type 0
OnFault (line.Fault fault) P = P fault
OnFault line.Memory P = Unit {0}

-- a fault of the words of a rule, at a line
abbrev pub at_line : ℕ → RuleFault → LineRefusal
at_line at rule.UnknownName = line.Fault (record { at = at; why = UnknownName })
at_line at rule.BadValue = line.Fault (record { at = at; why = BadValue })
at_line at rule.Memory = line.Memory

-- ---- lines

-- functions as those of a schema's interface are
pub record AreTheFuncs (funcs : List FuncDesc) : Type 0 where
  pub names : AreFuncs funcs
  pub params : (k : ℕ) (func : FuncDesc) → slice_get funcs k ≡ Some func → AreParams func.params

-- a rule fits its function
pub record FitsRule (d : Declared) (funcs : List FuncDesc) (made : FuncRule) : Type 0 where
  pub func : FuncDesc
  pub found : slice_get funcs made.func ≡ Some func
  pub fits : RuleFits d func made.rule
  pub bytes : HasBytes made.rule

-- the arguments of a call fit its function
pub record FitsCall (d : Declared) (funcs : List FuncDesc) (spec : CallSpec) : Type 0 where
  pub func : FuncDesc
  pub found : slice_get funcs spec.func ≡ Some func
  pub fits : fit_members d (arguments_of func) spec.args ≡ true
  pub bytes : list_all has_bytes spec.args ≡ true

abbrev pub FitsEvent : Declared → List FuncDesc → Event → Type 0
FitsEvent d funcs (Call spec) = FitsCall d funcs spec
FitsEvent d funcs _ = Unit {0}

-- the first rule that has a fault: those before have none
pub record HaveRuleFault (d : Declared) (funcs : List FuncDesc) (lines : List RuleLine) (fault : LineFault) : Type 0 where
  pub place : ℕ
  pub line : RuleLine
  pub found : slice_get lines place ≡ Some line
  pub at : fault.at ≡ line.at
  pub has : HasRuleFault d funcs line fault.why
  pub before : List FuncRule
  pub read : AreRules d funcs (take place lines) before

-- the same of events, whose calls are numbered from a number on
pub record HaveEventFault (d : Declared) (funcs : List FuncDesc) (lines : List EventLine) (fault : LineFault) : Type 0 where
  pub place : ℕ
  pub line : EventLine
  pub found : slice_get lines place ≡ Some line
  pub at : fault.at ≡ line.at
  pub has : HasEventFault d funcs line.event fault.why
  pub before : List Event
  pub read : AreEvents d funcs 1 (take place lines) before

-- the text of a file says the script
pub record IsOfFile (s : Script) : Type 0 where
  pub text : List ℕ
  pub within : length text ≤ MAX_FILE
  pub says : IsScript text s

-- ---- headers

-- the fault of a line with an interface that a side does not have, or that of a rule before it
abbrev pub LacksInterface : ℕ → Result (List FuncRule) LineRefusal → LineRefusal → Type 0
LacksInterface at (Ok made) refusal = refusal ≡ line.Fault (record { at = at; why = UnknownName })
LacksInterface at (Err line.Memory) refusal = refusal ≡ line.Memory
LacksInterface at (Err (line.Fault fault)) refusal =
    ((fault.at < at) × (refusal ≡ line.Fault fault)) ⊎ ((at ≤ fault.at) × (refusal ≡ line.Fault (record { at = at; why = UnknownName })))

-- what the headers of a script say
pub record AreHeaders (client server : Declared) (s : Script) (h : Headers) : Type 0 where
  pub client_interface : interface_number client s.interface ≡ Some h.client_interface
  pub server_interface : interface_number server s.interface ≡ Some h.server_interface
  pub client_within : h.client_interface < length client.interfaces
  pub server_within : h.server_interface < length server.interfaces
  pub rules : AreRules server (functions_of server h.server_interface) s.rules h.rules
  pub fits : All (FitsRule server (functions_of server h.server_interface)) h.rules
