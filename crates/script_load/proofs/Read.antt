-- What was read over the schemas of both sides: the headers of a script, and its events after them.
use Rattle.std.proofs.Common.{◌≡◌, ◌∙◌, List, Option, Some, None, option_map, refl, sym, ap, subst}
use Rattle.std.specs.Prelude.{Result, IfOk, IfErr}
use Rattle.std.specs.Option.{unwrap_or}
use Rattle.script_lines.specs.Scripts.{Script, RuleLine, EventLine}
use Rattle.script_lines.specs.Views.{queue_of}
use Rattle.script_lines.specs.declared.queue.QueueWords.{QueueWords}
use Rattle.script_rules.proofs.OneRule.{OneValue}
use Rattle.script_session.specs.declared.session.FuncRule.{FuncRule}
use Rattle.servant_core.specs.Functions.{functions_of}
use Rattle.tars_model.specs.Declarations.{Declared}
use Rattle.tars_model.specs.declared.func_desc.FuncDesc.{FuncDesc}
use Rattle.script_load.specs.LineFaults.{IsFirstFault}
use Rattle.script_load.specs.LineSteps.{OnFault, HaveRuleFault, HaveEventFault, IsOfFile, LacksInterface, AreHeaders}
use Rattle.script_load.specs.Sessions.{AreRules, capacity_of}
use Rattle.script_load.specs.Sides.{funcs_at, funcs_named}
use Rattle.script_load.specs.declared.faults.LineFault.{LineFault}
use Rattle.script_load.specs.declared.faults.LineRefusal.{LineRefusal}
use Rattle.script_load.specs.declared.session.Headers.{Headers}
use Rattle.script_load.proofs.FirstFaults.{IsThere, IsLacking, OnRules, rule_is_first, lacks_is_first, event_is_first}
use Rattle.script_load.proofs.SchemaSides.{HasFuncs}
use Rattle.script_load.proofs.ScriptOrder.{IsOrdered, are_ordered}

-- a queue without its line
pub capacity_is : (q : Option QueueWords) → (unwrap_or q (record { capacity = 1000; timeout = 3000 })).capacity ≡ capacity_of (option_map queue_of q)
capacity_is None = refl
capacity_is (Some q) = refl

module _ (one : OneValue) (client server : Declared) (client_has : HasFuncs client) (server_has : HasFuncs server) (s : Script) (file : IsOfFile s) where
  pub ordered : IsOrdered s
  ordered = are_ordered file.text s file.says

  -- ---- headers

  module _ (funcs : List FuncDesc) (lines : List RuleLine) (funcs_are : funcs ≡ funcs_named server s.interface) (lines_are : lines ≡ s.rules) where
    same_faults : (fault : LineFault) → HaveRuleFault server funcs lines fault → HaveRuleFault server (funcs_named server s.interface) s.rules fault
    same_faults fault have =
        subst (λ (ls : List RuleLine). HaveRuleFault server (funcs_named server s.interface) ls fault) lines_are
        (subst (λ (fs : List FuncDesc). HaveRuleFault server fs lines fault) funcs_are have)

    pub bad_rules : (fault : LineFault) → IsThere one client server client_has server_has s ordered client
        → IsThere one client server client_has server_has s ordered server → HaveRuleFault server funcs lines fault → IsFirstFault client server s fault
    bad_rules fault in_client in_server have = rule_is_first one client server client_has server_has s ordered fault in_client in_server (same_faults fault have)

    on_rules : (result : Result (List FuncRule) LineRefusal) → IfOk result (λ made. AreRules server funcs lines made)
        → IfErr result (λ refusal. OnFault refusal (HaveRuleFault server funcs lines)) → OnRules one client server client_has server_has s ordered result
    on_rules result means fault =
        subst (λ (ls : List RuleLine). IfOk result (λ made. AreRules server (funcs_named server s.interface) ls made)
        × IfErr result (λ refusal. OnFault refusal (HaveRuleFault server (funcs_named server s.interface) ls))) lines_are
        (subst (λ (fs : List FuncDesc). IfOk result (λ made. AreRules server fs lines made) × IfErr result (λ refusal. OnFault refusal (HaveRuleFault server fs lines)))
        funcs_are (means, fault))

    pub no_interface : IsLacking one client server client_has server_has s ordered → (result : Result (List FuncRule) LineRefusal)
        → IfOk result (λ made. AreRules server funcs lines made) → IfErr result (λ refusal. OnFault refusal (HaveRuleFault server funcs lines))
        → (refusal : LineRefusal) → LacksInterface s.interface.at result refusal → OnFault refusal (IsFirstFault client server s)
    no_interface lacks result means fault refusal is =
        lacks_is_first one client server client_has server_has s ordered lacks result (on_rules result means fault) refusal is

  -- ---- events

  module _ (h : Headers) (are : AreHeaders client server s h) (funcs : List FuncDesc) (lines : List EventLine) (funcs_are : funcs ≡ functions_of client h.client_interface)
      (lines_are : lines ≡ s.events) where
    pub bad_events : (fault : LineFault) → HaveEventFault client funcs lines fault → IsFirstFault client server s fault
    bad_events fault have =
        event_is_first one client server client_has server_has s ordered fault h.rules (h.client_interface, are.client_interface) (h.server_interface, are.server_interface)
        (subst (λ (fs : List FuncDesc). AreRules server fs s.rules h.rules) (sym (ap (funcs_at server) are.server_interface)) are.rules)
        (subst (λ (ls : List EventLine). HaveEventFault client (funcs_named client s.interface) ls fault) lines_are
        (subst (λ (fs : List FuncDesc). HaveEventFault client fs lines fault) (funcs_are ∙ sym (ap (funcs_at client) are.client_interface)) have))
