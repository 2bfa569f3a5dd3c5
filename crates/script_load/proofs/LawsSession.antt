-- A script says one session over two schemas or has a first fault, and not both.
use Rattle.std.proofs.Common.{◌≡◌, ◌⊎◌, inl, inr, ℕ, zero, suc, Some, None, List, [], ◌∷◌, slice_get, refl, sym, ap, ap₂, ◌∙◌, subst}
use Rattle.script_lines.specs.Meanings.{Event as Said, call, serve, work, deliver, close}
use Rattle.script_lines.specs.Scripts.{Script, RuleLine, EventLine}
use Rattle.script_rules.proofs.Names.{some_is}
use Rattle.script_rules.proofs.OneRule.{OneValue, ValueOrNone}
use Rattle.script_session.specs.Sessions.{NODE, client_funcs, server_funcs}
use Rattle.script_session.specs.declared.session.CallSpec.{CallSpec}
use Rattle.script_session.specs.declared.session.Event.{Event}
use Rattle.script_session.specs.declared.session.Event.TheVariants.{Call, Serve, Work, Deliver, Close}
use Rattle.script_session.specs.declared.session.FuncRule.{FuncRule}
use Rattle.script_session.specs.declared.session.ObjectName.{ObjectName}
use Rattle.script_session.specs.declared.session.Session.{Session}
use Rattle.servant_core.specs.Functions.{functions_of}
use Rattle.tars_model.specs.Declarations.{Declared}
use Rattle.tars_model.specs.declared.func_desc.FuncDesc.{FuncDesc}
use Rattle.script_load.specs.LineFaults.{HasRuleFault, HasEventFault, IsLineFault, IsFirstFault}
use Rattle.script_load.specs.LineFaults as fault
use Rattle.script_load.specs.LineSteps.{AreTheFuncs}
use Rattle.script_load.specs.Sessions.{AreRules, IsCallOf, IsEventOf, AreEvents, IsSession, next_number}
use Rattle.script_load.specs.Sides.{funcs_at}
use Rattle.script_load.specs.declared.faults.LineFault.{LineFault}
use Rattle.script_load.specs.declared.faults.LineWhy.{LineWhy}
use Rattle.script_load.proofs.LawsLines.{same_line, no_line_fault, some_call, same_call, same_call_fault, no_call_fault}
use Rattle.script_load.proofs.SchemaSides.{HasFuncs}

nothing_at : {X : Type 0} (k : ℕ) (x : X) → slice_get [] k ≡ Some x → ⊥
nothing_at k x found = cc

module _ (one : OneValue) (d : Declared) (funcs : List FuncDesc) where
  -- ---- events

  pub some_event : ValueOrNone d → (number : ℕ) (said : Said)
      → ((event : Event) × IsEventOf d funcs number said event) ⊎ ((why : LineWhy) × HasEventFault d funcs said why)
  some_event value_or number (call name text) = by_call (some_call one d funcs name text value_or number)
    where
      by_call : ((spec : CallSpec) × IsCallOf d funcs number name text spec) ⊎ ((why : LineWhy) × HasEventFault d funcs (call name text) why) → ((event : Event) × IsEventOf d funcs number (call name text) event) ⊎ ((why : LineWhy) × HasEventFault d funcs (call name text) why)
      by_call (inl (spec, is)) = inl (Call spec, (spec, refl, is))
      by_call (inr bad) = inr bad
  some_event value_or number (serve bytes) = inl (Serve NODE bytes, refl)
  some_event value_or number work = inl (Work NODE, refl)
  some_event value_or number (deliver bytes) = inl (Deliver NODE bytes, refl)
  some_event value_or number close = inl (Close, refl)

  module _ (are : AreTheFuncs funcs) where
    same_event : (number : ℕ) (said : Said) (a b : Event) → IsEventOf d funcs number said a → IsEventOf d funcs number said b → a ≡ b
    same_event number (call name text) a b (m, is, first) (n, also, second) =
        is ∙ ap (λ (x : CallSpec). Call x) (same_call one d funcs name text are number m n first second) ∙ sym also
    same_event number (serve bytes) a b is also = is ∙ sym also
    same_event number work a b is also = is ∙ sym also
    same_event number (deliver bytes) a b is also = is ∙ sym also
    same_event number close a b is also = is ∙ sym also

    pub same_event_fault : (said : Said) (a b : LineWhy) → HasEventFault d funcs said a → HasEventFault d funcs said b → a ≡ b
    same_event_fault (call name text) a b first second = same_call_fault one d funcs name text are a b first second
    same_event_fault (serve bytes) a b first second = absurd first
    same_event_fault work a b first second = absurd first
    same_event_fault (deliver bytes) a b first second = absurd first
    same_event_fault close a b first second = absurd first

    no_event_fault : (number : ℕ) (said : Said) (event : Event) (why : LineWhy) → IsEventOf d funcs number said event → ¬ (HasEventFault d funcs said why)
    no_event_fault number (call name text) event why (spec, is, of) bad = no_call_fault one d funcs name text are number spec why of bad
    no_event_fault number (serve bytes) event why is bad = bad
    no_event_fault number work event why is bad = bad
    no_event_fault number (deliver bytes) event why is bad = bad
    no_event_fault number close event why is bad = bad

    -- ---- all lines

    pub same_rules : (lines : List RuleLine) (a b : List FuncRule) → AreRules d funcs lines a → AreRules d funcs lines b → a ≡ b
    same_rules [] [] [] first second = refl
    same_rules [] (x ∷ xs) b first second = absurd first
    same_rules [] [] (y ∷ ys) first second = absurd second
    same_rules (line ∷ lines) [] b first second = absurd first
    same_rules (line ∷ lines) (x ∷ xs) [] first second = absurd second
    same_rules (line ∷ lines) (x ∷ xs) (y ∷ ys) first second =
        ap₂ (λ (z : FuncRule) (zs : List FuncRule). z ∷ zs) (same_line one d funcs line are x y first.0 second.0) (same_rules lines xs ys first.1 second.1)

    pub same_events : (number : ℕ) (lines : List EventLine) (a b : List Event) → AreEvents d funcs number lines a → AreEvents d funcs number lines b → a ≡ b
    same_events number [] [] [] first second = refl
    same_events number [] (x ∷ xs) b first second = absurd first
    same_events number [] [] (y ∷ ys) first second = absurd second
    same_events number (line ∷ lines) [] b first second = absurd first
    same_events number (line ∷ lines) (x ∷ xs) [] first second = absurd second
    same_events number (line ∷ lines) (x ∷ xs) (y ∷ ys) first second =
        ap₂ (λ (z : Event) (zs : List Event). z ∷ zs) (same_event number line.event x y first.0 second.0)
        (same_events (next_number number line.event) lines xs ys first.1 second.1)

    -- lines that mean rules have no fault
    pub no_rule_fault : (lines : List RuleLine) (made : List FuncRule) → AreRules d funcs lines made → (k : ℕ) (line : RuleLine) (why : LineWhy)
        → slice_get lines k ≡ Some line → ¬ (HasRuleFault d funcs line why)
    no_rule_fault [] made are_rules k line why found bad = nothing_at k line found
    no_rule_fault (l ∷ lines) [] are_rules k line why found bad = are_rules
    no_rule_fault (l ∷ lines) (x ∷ xs) are_rules zero line why found bad =
        no_line_fault one d funcs l are x why are_rules.0 (subst (λ (m : RuleLine). HasRuleFault d funcs m why) (sym (some_is found)) bad)
    no_rule_fault (l ∷ lines) (x ∷ xs) are_rules (suc k) line why found bad = no_rule_fault lines xs are_rules.1 k line why found bad

    pub no_events_fault : (number : ℕ) (lines : List EventLine) (made : List Event) → AreEvents d funcs number lines made → (k : ℕ) (line : EventLine) (why : LineWhy)
        → slice_get lines k ≡ Some line → ¬ (HasEventFault d funcs line.event why)
    no_events_fault number [] made are_events k line why found bad = nothing_at k line found
    no_events_fault number (l ∷ lines) [] are_events k line why found bad = are_events
    no_events_fault number (l ∷ lines) (x ∷ xs) are_events zero line why found bad =
        no_event_fault number l.event x why are_events.0 (subst (λ (m : EventLine). HasEventFault d funcs m.event why) (sym (some_is found)) bad)
    no_events_fault number (l ∷ lines) (x ∷ xs) are_events (suc k) line why found bad =
        no_events_fault (next_number number l.event) lines xs are_events.1 k line why found bad

-- ---- sessions

abbrev made_of : Declared → ℕ → Declared → ℕ → ObjectName → List FuncRule → ℕ → ℕ → List Event → Session
made_of client client_interface server server_interface object rules queue queue_timeout events = record {
  client = client;
  client_interface = client_interface;
  server = server;
  server_interface = server_interface;
  object = object;
  rules = rules;
  queue = queue;
  queue_timeout = queue_timeout;
  events = events;
}

module _ (one : OneValue) (s : Script) (client server : Declared) (client_has : HasFuncs client) (server_has : HasFuncs server) where
  -- two sessions of a script are one
  pub one_session : (a b : Session) → IsSession s client server a → IsSession s client server b → a ≡ b
  one_session a b first second =
      ap₂ (λ (x : Declared) (y : Declared). made_of x a.client_interface y a.server_interface a.object a.rules a.queue a.queue_timeout a.events)
      (first.client_is ∙ sym second.client_is) (first.server_is ∙ sym second.server_is)
      ∙ ap₂ (λ (m n : ℕ). made_of b.client m b.server n a.object a.rules a.queue a.queue_timeout a.events) at_client at_server
      ∙ ap₂ (λ (o : ObjectName) (rs : List FuncRule). made_of b.client b.client_interface b.server b.server_interface o rs a.queue a.queue_timeout a.events)
      (first.object ∙ sym second.object) rules_same
      ∙ ap₂ (λ (m n : ℕ). made_of b.client b.client_interface b.server b.server_interface b.object b.rules m n a.events)
      (first.capacity ∙ sym second.capacity) (first.timeout ∙ sym second.timeout)
      ∙ ap (λ (es : List Event). made_of b.client b.client_interface b.server b.server_interface b.object b.rules b.queue b.queue_timeout es) events_same
    where
      at_client : a.client_interface ≡ b.client_interface
      at_client = some_is (sym first.client_interface ∙ second.client_interface)

      at_server : a.server_interface ≡ b.server_interface
      at_server = some_is (sym first.server_interface ∙ second.server_interface)

      funcs_client : client_funcs a ≡ functions_of client a.client_interface
      funcs_client = ap (λ (d : Declared). functions_of d a.client_interface) first.client_is

      also_client : client_funcs b ≡ functions_of client a.client_interface
      also_client = ap₂ (λ (d : Declared) (n : ℕ). functions_of d n) second.client_is (sym at_client)

      funcs_server : server_funcs a ≡ functions_of server a.server_interface
      funcs_server = ap (λ (d : Declared). functions_of d a.server_interface) first.server_is

      also_server : server_funcs b ≡ functions_of server a.server_interface
      also_server = ap₂ (λ (d : Declared) (n : ℕ). functions_of d n) second.server_is (sym at_server)

      rules_same : a.rules ≡ b.rules
      rules_same = same_rules one server (functions_of server a.server_interface) (server_has a.server_interface) s.rules a.rules b.rules
          (subst (λ (fs : List FuncDesc). AreRules server fs s.rules a.rules) funcs_server first.rules)
          (subst (λ (fs : List FuncDesc). AreRules server fs s.rules b.rules) also_server second.rules)

      events_same : a.events ≡ b.events
      events_same = same_events one client (functions_of client a.client_interface) (client_has a.client_interface) 1 s.events a.events b.events
          (subst (λ (fs : List FuncDesc). AreEvents client fs 1 s.events a.events) funcs_client first.events)
          (subst (λ (fs : List FuncDesc). AreEvents client fs 1 s.events b.events) also_client second.events)

  none_some : {n : ℕ} → None ≡ Some n → ⊥
  none_some e = cc

  -- a script that says a session has no fault
  pub no_fault : (session : Session) (bad : LineFault) → IsSession s client server session → ¬ (IsLineFault client server s bad)
  no_fault session bad is (fault.no_client at why none) = none_some (sym none ∙ is.client_interface)
  no_fault session bad is (fault.no_server at why none) = none_some (sym none ∙ is.server_interface)
  no_fault session bad is (fault.bad_rule k line found at has) =
      let same : server_funcs session ≡ functions_of server session.server_interface = ap (λ (d : Declared). functions_of d session.server_interface) is.server_is in
      no_rule_fault one server (functions_of server session.server_interface) (server_has session.server_interface) s.rules session.rules
      (subst (λ (fs : List FuncDesc). AreRules server fs s.rules session.rules) same is.rules) k line bad.why found
      (subst (λ (fs : List FuncDesc). HasRuleFault server fs line bad.why) (ap (funcs_at server) is.server_interface) has)
  no_fault session bad is (fault.bad_event k line found at has) =
      let same : client_funcs session ≡ functions_of client session.client_interface = ap (λ (d : Declared). functions_of d session.client_interface) is.client_is in
      no_events_fault one client (functions_of client session.client_interface) (client_has session.client_interface) 1 s.events session.events
      (subst (λ (fs : List FuncDesc). AreEvents client fs 1 s.events session.events) same is.events) k line bad.why found
      (subst (λ (fs : List FuncDesc). HasEventFault client fs line.event bad.why) (ap (funcs_at client) is.client_interface) has)

  pub not_both_ways : (session : Session) (bad : LineFault) → IsSession s client server session → ¬ (IsFirstFault client server s bad)
  not_both_ways session bad is first = no_fault session bad is first.has
