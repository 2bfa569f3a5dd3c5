-- A script says a session over two schemas or has a first fault.
use Rattle.std.proofs.Common.{◌≡◌, ◌<◌, ◌≤◌, ◌⊎◌, inl, inr, ℕ, suc, Option, Some, None, List, [], ◌∷◌, take, slice_get, refl, subst}
use Rattle.std.specs.Prelude.{Ok, Err}
use Rattle.std.proofs.lemmas.Bool.{cases_lt}
use Rattle.script_lines.specs.Scripts.{Script, RuleLine, EventLine}
use Rattle.script_rules.proofs.OneRule.{OneValue, ValueOrNone}
use Rattle.script_session.specs.declared.session.Event.{Event}
use Rattle.script_session.specs.declared.session.FuncRule.{FuncRule}
use Rattle.script_session.specs.declared.session.Session.{Session}
use Rattle.tars_model.specs.Declarations.{Declared}
use Rattle.tars_model.specs.declared.func_desc.FuncDesc.{FuncDesc}
use Rattle.script_load.specs.LineFaults.{HasRuleFault, HasEventFault, IsFirstFault}
use Rattle.script_load.specs.LineSteps.{HaveRuleFault, HaveEventFault}
use Rattle.script_load.specs.Sessions.{IsRuleOf, AreRules, IsEventOf, AreEvents, IsSession, next_number, object_name, capacity_of, timeout_of}
use Rattle.script_load.specs.Sides.{interface_number, funcs_at, funcs_named}
use Rattle.script_load.specs.declared.faults.LineFault.{LineFault}
use Rattle.script_load.specs.declared.faults.LineRefusal.TheVariants as line
use Rattle.script_load.specs.declared.faults.LineWhy.{LineWhy}
use Rattle.script_load.specs.declared.faults.LineWhy.TheVariants.{UnknownName}
use Rattle.script_load.proofs.FirstFaults.{rule_is_first, event_is_first, lacks_is_first}
use Rattle.script_load.proofs.LawsLines.{some_line}
use Rattle.script_load.proofs.LawsSession.{some_event}
use Rattle.script_load.proofs.SchemaSides.{HasFuncs}
use Rattle.script_load.proofs.ScriptOrder.{IsOrdered}

module _ (one : OneValue) (d : Declared) (value_or : ValueOrNone d) (funcs : List FuncDesc) where
  -- ---- rules

  next_rule_fault : (line : RuleLine) (lines : List RuleLine) (made : FuncRule) (fault : LineFault) → IsRuleOf d funcs line made
      → HaveRuleFault d funcs lines fault → HaveRuleFault d funcs (line ∷ lines) fault
  next_rule_fault line lines made fault is have = record {
    place = suc have.place;
    line = have.line;
    found = have.found;
    at = have.at;
    has = have.has;
    before = made ∷ have.before;
    read = (is, have.read);
  }

  -- lines mean rules or have a first fault
  pub some_rules : (lines : List RuleLine) → ((made : List FuncRule) × AreRules d funcs lines made) ⊎ ((fault : LineFault) × HaveRuleFault d funcs lines fault)
  some_rules [] = inl ([], tt)
  some_rules (line ∷ lines) = by_line (some_line one d funcs line value_or) (some_rules lines)
    where
      by_line : ((made : FuncRule) × IsRuleOf d funcs line made) ⊎ ((why : LineWhy) × HasRuleFault d funcs line why)
          → ((made : List FuncRule) × AreRules d funcs lines made) ⊎ ((fault : LineFault) × HaveRuleFault d funcs lines fault)
          → ((made : List FuncRule) × AreRules d funcs (line ∷ lines) made) ⊎ ((fault : LineFault) × HaveRuleFault d funcs (line ∷ lines) fault)
      by_line (inl (made, is)) (inl (mades, are)) = inl (made ∷ mades, (is, are))
      by_line (inl (made, is)) (inr (fault, have)) = inr (fault, next_rule_fault line lines made fault is have)
      by_line (inr (why, has)) later =
          inr (record { at = line.at; why = why }, record { place = 0; line = line; found = refl; at = refl; has = has; before = []; read = tt })

  -- ---- events

  -- the first that has a fault, where calls are numbered from a number on
  record FirstEvent (number : ℕ) (lines : List EventLine) : Type 0 where
    place : ℕ
    line : EventLine
    why : LineWhy
    found : slice_get lines place ≡ Some line
    has : HasEventFault d funcs line.event why
    before : List Event
    read : AreEvents d funcs number (take place lines) before

  some_events_from : (number : ℕ) (lines : List EventLine) → ((events : List Event) × AreEvents d funcs number lines events) ⊎ FirstEvent number lines
  some_events_from number [] = inl ([], tt)
  some_events_from number (line ∷ lines) = by_line (some_event one d funcs value_or number line.event) (some_events_from (next_number number line.event) lines)
    where
      by_line : ((event : Event) × IsEventOf d funcs number line.event event) ⊎ ((why : LineWhy) × HasEventFault d funcs line.event why)
          → ((events : List Event) × AreEvents d funcs (next_number number line.event) lines events) ⊎ FirstEvent (next_number number line.event) lines
          → ((events : List Event) × AreEvents d funcs number (line ∷ lines) events) ⊎ FirstEvent number (line ∷ lines)
      by_line (inl (event, is)) (inl (events, are)) = inl (event ∷ events, (is, are))
      by_line (inl (event, is)) (inr first) = inr (record {
        place = suc first.place;
        line = first.line;
        why = first.why;
        found = first.found;
        has = first.has;
        before = event ∷ first.before;
        read = (is, first.read);
      })
      by_line (inr (why, has)) later = inr (record { place = 0; line = line; why = why; found = refl; has = has; before = []; read = tt })

  pub some_events : (lines : List EventLine) → ((events : List Event) × AreEvents d funcs 1 lines events) ⊎ ((fault : LineFault) × HaveEventFault d funcs lines fault)
  some_events lines = by_first (some_events_from 1 lines)
    where
      by_first : ((events : List Event) × AreEvents d funcs 1 lines events) ⊎ FirstEvent 1 lines
          → ((events : List Event) × AreEvents d funcs 1 lines events) ⊎ ((fault : LineFault) × HaveEventFault d funcs lines fault)
      by_first (inl found) = inl found
      by_first (inr first) =
          inr (
            record { at = first.line.at; why = first.why },
            record {
              place = first.place;
              line = first.line;
              found = first.found;
              at = refl;
              has = first.has;
              before = first.before;
              read = first.read;
            },
          )

-- ---- the whole

module _ (one : OneValue) (client server : Declared) (client_or : ValueOrNone client) (server_or : ValueOrNone server) (client_has : HasFuncs client) (server_has : HasFuncs server)
    (s : Script) (ordered : IsOrdered s) where
  abbrev Outcome : Type 0
  Outcome = ((session : Session) × IsSession s client server session) ⊎ ((fault : LineFault) × IsFirstFault client server s fault)

  abbrev Rules : Type 0
  Rules = ((made : List FuncRule) × AreRules server (funcs_named server s.interface) s.rules made) ⊎ ((fault : LineFault) × HaveRuleFault server (funcs_named server s.interface) s.rules fault)

  abbrev Events : Type 0
  Events = ((events : List Event) × AreEvents client (funcs_named client s.interface) 1 s.events events) ⊎ ((fault : LineFault) × HaveEventFault client (funcs_named client s.interface) s.events fault)

  -- where a side lacks the interface, the line of that or a rule before it
  lacking : (interface_number client s.interface ≡ None) ⊎ (interface_number server s.interface ≡ None) → Rules → (fault : LineFault) × IsFirstFault client server s fault
  lacking lacks (inl (made, are)) =
      (record { at = s.interface.at; why = UnknownName }, lacks_is_first one client server client_has server_has s ordered lacks (Ok made) (are, tt) _ refl)
  lacking lacks (inr (fault, have)) = by_place (cases_lt fault.at s.interface.at)
    where
      by_place : (fault.at < s.interface.at) ⊎ (s.interface.at ≤ fault.at) → (found : LineFault) × IsFirstFault client server s found
      by_place (inl early) = (fault, lacks_is_first one client server client_has server_has s ordered lacks (Err (line.Fault fault)) (tt, have) (line.Fault fault) (inl (early, refl)))
      by_place (inr late) = (
        record { at = s.interface.at; why = UnknownName },
        lacks_is_first one client server client_has server_has s ordered lacks (Err (line.Fault fault)) (tt, have) (line.Fault (record { at = s.interface.at; why = UnknownName })) (inr (late, refl)),
      )

  module _ (in_client in_server : ℕ) (client_is : interface_number client s.interface ≡ Some in_client) (server_is : interface_number server s.interface ≡ Some in_server) where
    by_lines : Rules → Events → Outcome
    by_lines (inr (fault, have)) later = inr (fault, rule_is_first one client server client_has server_has s ordered fault (in_client, client_is) (in_server, server_is) have)
    by_lines (inl (made, are)) (inr (fault, have)) =
        inr (fault, event_is_first one client server client_has server_has s ordered fault made (in_client, client_is) (in_server, server_is) are have)
    by_lines (inl (made, are)) (inl (events, read)) =
        inl (
          record {
            client = client;
            client_interface = in_client;
            server = server;
            server_interface = in_server;
            object = object_name s.object;
            rules = made;
            queue = capacity_of s.queue;
            queue_timeout = timeout_of s.queue;
            events = events;
          },
          record {
            client_is = refl;
            client_interface = client_is;
            server_is = refl;
            server_interface = server_is;
            object = refl;
            rules = subst (λ (o : Option ℕ). AreRules server (funcs_at server o) s.rules made) server_is are;
            capacity = refl;
            timeout = refl;
            events = subst (λ (o : Option ℕ). AreEvents client (funcs_at client o) 1 s.events events) client_is read;
          },
        )

  pub some_session : Outcome
  some_session =
      by_numbers (interface_number client s.interface) (interface_number server s.interface) refl refl (some_rules one server server_or (funcs_named server s.interface) s.rules)
      (some_events one client client_or (funcs_named client s.interface) s.events)
    where
      by_numbers : (m n : Option ℕ) → interface_number client s.interface ≡ m → interface_number server s.interface ≡ n → Rules → Events → Outcome
      by_numbers (Some m) (Some n) client_is server_is rules events = by_lines m n client_is server_is rules events
      by_numbers None n client_is server_is rules events = inr (lacking (inl client_is) rules)
      by_numbers (Some m) None client_is server_is rules events = inr (lacking (inr server_is) rules)
