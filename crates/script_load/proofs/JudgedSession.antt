-- The session that a script says is judged.
use Rattle.std.proofs.Common.{◌≡◌, ◌<◌, ◌≤◌, ◌^◌, ℕ, suc, ◌+◌, true, List, [], ◌∷◌, length, Some, slice_get, slice_index_or, refl, sym, ap, subst, ◌∙◌, arith, lit≤}
use Rattle.std.specs.List.{All}
use Rattle.std.proofs.lemmas.List.Elements.{All-cons, All-nil, All-head, All-tail}
use Rattle.std.proofs.lemmas.Option.{get_or_from_slice_get, slice_get_within}
use Rattle.script_lines.specs.Meanings.{Event as Said, call, serve, work, deliver, close}
use Rattle.script_lines.specs.Scripts.{Script, IsScript, EventLine}
use Rattle.script_lines.specs.TextLimits.{MAX_LINE}
use Rattle.script_rules.specs.Rules.{IsJudgedEvent}
use Rattle.script_rules.proofs.ScriptRules.{JudgedEvent, events_judged}
use Rattle.script_session.specs.Judged.{IsCall, IsEvent, IsRule, IsJudged, IDS}
use Rattle.script_session.specs.Sessions.{client_funcs, server_funcs, func_of, request_of}
use Rattle.script_session.specs.declared.session.CallSpec.{CallSpec}
use Rattle.script_session.specs.declared.session.Event.{Event}
use Rattle.script_session.specs.declared.session.Event.TheVariants.{Call, Serve, Work, Deliver, Close}
use Rattle.script_session.specs.declared.session.ObjectName.{ObjectName}
use Rattle.script_session.specs.declared.session.Session.{Session}
use Rattle.script_values.specs.Args.{SaysArgs}
use Rattle.tars_base.specs.Limits.{MAX_FILE}
use Rattle.tars_frames.specs.Streams.{LONGEST}
use Rattle.tars_model.specs.Declarations.{Declared}
use Rattle.tars_model.specs.Members.{arguments_of}
use Rattle.tars_model.specs.Values.{fit_members}
use Rattle.tars_model.specs.declared.func_desc.FuncDesc.{FuncDesc}
use Rattle.rpc_packet.specs.Packets.{request_frame}
use Rattle.value_lengths.proofs.CallerLemmas.{said_packet}
use Rattle.wire_reading.specs.Readings.{AreBytes}
use Rattle.script_rules.proofs.Names.{some_is}
use Rattle.script_load.specs.LineSteps.{FitsRule, FitsCall, FitsEvent}
use Rattle.script_load.specs.Sessions.{IsCallOf, IsEventOf, AreEvents, IsSession, next_number, object_name, capacity_of}
use Rattle.script_load.proofs.JudgedNumbers.{few_events, holds_one}
use Rattle.script_load.proofs.Objects.{id_bytes, id_short, timeout_within}

-- ---- events

module _ (s : Session) (servant : length s.object.id ≤ MAX_LINE) where
  func_is : (k : ℕ) (func : FuncDesc) → slice_get (client_funcs s) k ≡ Some func → func_of s k ≡ func
  func_is k func found = get_or_from_slice_get (client_funcs s) k func _ found

  -- a call that a line says
  said_call : (number : ℕ) (name text : List ℕ) (spec : CallSpec) → IsCallOf s.client (client_funcs s) number name text spec
      → FitsCall s.client (client_funcs s) spec → IsJudgedEvent (call name text) → IsCall s spec
  said_call number name text spec is fits short = record {
    line = ap (λ (c : CallSpec). c.line) is.is;
    func = slice_get_within (client_funcs s) spec.func fits.func fits.found;
    args = subst (λ (f : FuncDesc). fit_members s.client (arguments_of f) spec.args ≡ true) (sym (func_is spec.func fits.func fits.found)) fits.fits;
    bytes = fits.bytes;
    within = λ id small. said_packet s.client (arguments_of (func_of s spec.func)) text (request_of s spec id) (record {
      values = spec.args;
      says = subst (λ (f : FuncDesc). SaysArgs s.client (arguments_of f) spec.args text) (sym called) is.says;
      body = refl;
      line = short.1;
      servant = servant;
      func = omega (arith, short.0, ap (λ (f : FuncDesc). length f.name) called, ap length is.named.named);
      context = refl;
      status = refl;
    });
  }
    where
      called : func_of s spec.func ≡ is.func
      called = func_is spec.func is.func is.named.found

  said_event : (number : ℕ) (said : Said) (event : Event) → IsEventOf s.client (client_funcs s) number said event
      → FitsEvent s.client (client_funcs s) event → IsJudgedEvent said → IsEvent s event
  said_event number (call name text) event (spec, same, is) fits short =
      subst (IsEvent s) (sym same) (said_call number name text spec is (subst (FitsEvent s.client (client_funcs s)) same fits) short)
  said_event number (serve bytes) event is fits short = subst (IsEvent s) (sym is) tt
  said_event number work event is fits short = subst (IsEvent s) (sym is) tt
  said_event number (deliver bytes) event is fits short = subst (IsEvent s) (sym is) tt
  said_event number close event is fits short = subst (IsEvent s) (sym is) tt

  said_events : (number : ℕ) (lines : List EventLine) (events : List Event) → AreEvents s.client (client_funcs s) number lines events
      → All (FitsEvent s.client (client_funcs s)) events → All JudgedEvent lines → All (IsEvent s) events
  said_events number [] [] are fits short = All-nil (IsEvent s)
  said_events number [] (event ∷ events) are fits short = absurd are
  said_events number (line ∷ lines) [] are fits short = absurd are
  said_events number (line ∷ lines) (event ∷ events) are fits short =
      All-cons (IsEvent s) event events
      (said_event number line.event event are.0 (All-head (FitsEvent s.client (client_funcs s)) event events fits) (All-head JudgedEvent line lines short))
      (said_events (next_number number line.event) lines events are.1 (All-tail (FitsEvent s.client (client_funcs s)) event events fits) (All-tail JudgedEvent line lines short))

as_many : (d : Declared) (funcs : List FuncDesc) (number : ℕ) (lines : List EventLine) (events : List Event) → AreEvents d funcs number lines events → length events ≡ length lines
as_many d funcs number [] [] are = refl
as_many d funcs number [] (event ∷ events) are = absurd are
as_many d funcs number (line ∷ lines) [] are = absurd are
as_many d funcs number (line ∷ lines) (event ∷ events) are = ap suc (as_many d funcs (next_number number line.event) lines events are.1)

-- ---- the whole

module _ (text : List ℕ) (script : Script) (is : IsScript text script) (short : length text ≤ MAX_FILE) (s : Session) (object : s.object ≡ object_name script.object) where
  servant_is : s.object.id ≡ script.object.id
  servant_is = ap (λ (o : ObjectName). o.id) object

  servant_short : length s.object.id ≤ MAX_LINE
  servant_short = omega (arith, ap length servant_is, id_short text script is)

  pub session_judged : s.client_interface < length s.client.interfaces → s.server_interface < length s.server.interfaces
      → All (FitsRule s.server (server_funcs s)) s.rules → s.queue ≡ capacity_of script.queue
      → AreEvents s.client (client_funcs s) 1 script.events s.events → All (FitsEvent s.client (client_funcs s)) s.events → IsJudged s
  session_judged client_within server_within rules queue events fits = record {
    client = client_within;
    server = server_within;
    id_bytes = subst AreBytes (sym servant_is) (id_bytes text script is);
    id_short = omega (arith, servant_short);
    node = subst (λ (o : ObjectName). 1 ≤ length o.nodes) (sym object) (lit≤ tt);
    timeout = subst (λ (o : ObjectName). (slice_index_or o.nodes 0 (record { host = []; port = 0; timeout = 0 })).timeout < 2 ^ 31) (sym object)
        (omega (arith, timeout_within text script is));
    rules = λ k d within. let fits = rules k d within in record { func = fits.func; func_is = fits.found; fits = fits.fits; bytes = fits.bytes };
    queue = omega (arith, queue, holds_one text script is);
    events = said_events s servant_short 1 script.events s.events events fits (events_judged text script is);
    few = omega (arith, as_many s.client (client_funcs s) 1 script.events s.events events, few_events text script is, short);
  }
