-- The session that a script says over the schemas of both sides (docs/SCRIPTS.md, "Scripts").
use Rattle.std.specs.Prelude.{◌≡◌, ℕ, ◌+◌, true, false, Option, Some, None, List, [], ◌∷◌}
use Rattle.script_lines.specs.Meanings.{Queue, Event as Said, call, serve, work, deliver, close}
use Rattle.script_lines.specs.Objects.{Object}
use Rattle.script_lines.specs.Scripts.{Script, RuleLine, EventLine}
use Rattle.script_rules.specs.Rules.{MeansRule}
use Rattle.script_values.specs.Args.{SaysArgs}
use Rattle.script_session.specs.Sessions.{NODE, client_funcs, server_funcs}
use Rattle.script_session.specs.declared.session.CallSpec.{CallSpec}
use Rattle.script_session.specs.declared.session.Event.{Event}
use Rattle.script_session.specs.declared.session.Event.TheVariants.{Call, Serve, Work, Deliver, Close}
use Rattle.script_session.specs.declared.session.FuncRule.{FuncRule}
use Rattle.script_session.specs.declared.session.ObjectName.{ObjectName}
use Rattle.script_session.specs.declared.session.Session.{Session}
use Rattle.tars_model.specs.Declarations.{Declared}
use Rattle.tars_model.specs.Members.{arguments_of}
use Rattle.tars_model.specs.declared.func_desc.FuncDesc.{FuncDesc}
use Rattle.tars_model.specs.declared.value.Value.{Value}
use Rattle.script_load.specs.LineFaults.{IsNamed}
use Rattle.script_load.specs.Sides.{interface_number}

-- ---- headers

-- the object with its one node
abbrev pub object_name : Object → ObjectName
object_name o = record { id = o.id; nodes = record { host = o.host; port = o.port; timeout = o.timeout } ∷ [] }

-- without a `queue` line a queue holds 1,000 requests
abbrev pub capacity_of : Option Queue → ℕ
capacity_of None = 1000
capacity_of (Some q) = q.capacity

-- and one may wait there for 3,000 ms
abbrev pub timeout_of : Option Queue → ℕ
timeout_of None = 3000
timeout_of (Some q) = q.timeout

-- a line's rule: that of the function of its name, as its words mean it
pub record IsRuleOf (d : Declared) (funcs : List FuncDesc) (line : RuleLine) (made : FuncRule) : Type 0 where
  pub func : FuncDesc
  pub named : IsNamed funcs line.func made.func func
  pub means : MeansRule d func line.rule made.rule

-- a rule for each line
abbrev pub AreRules : Declared → List FuncDesc → List RuleLine → List FuncRule → Type 0
AreRules d funcs [] [] = Unit {0}
AreRules d funcs (line ∷ lines) (made ∷ mades) = IsRuleOf d funcs line made × AreRules d funcs lines mades
AreRules d funcs _ _ = ⊥

-- ---- events

-- a call of a function by the one line, which waits for its reply and has no key
abbrev pub two_way_call : ℕ → ℕ → List Value → CallSpec
two_way_call number func args = record { call = number; line = 1; func = func; two_way = true; begin = false; key = 0; args = args }

-- a call of the function of the name, with the arguments that the text says
pub record IsCallOf (d : Declared) (funcs : List FuncDesc) (number : ℕ) (name text : List ℕ) (spec : CallSpec) : Type 0 where
  pub func : FuncDesc
  pub named : IsNamed funcs name spec.func func
  pub says : SaysArgs d (arguments_of func) spec.args text
  pub is : spec ≡ two_way_call number spec.func spec.args

-- what an event is
abbrev pub IsEventOf : Declared → List FuncDesc → ℕ → Said → Event → Type 0
IsEventOf d funcs number (call name text) event = (spec : CallSpec) × (event ≡ Call spec) × IsCallOf d funcs number name text spec
IsEventOf d funcs number (serve bytes) event = event ≡ Serve NODE bytes
IsEventOf d funcs number work event = event ≡ Work NODE
IsEventOf d funcs number (deliver bytes) event = event ≡ Deliver NODE bytes
IsEventOf d funcs number close event = event ≡ Close

-- the number of the call that comes next
abbrev pub next_number : ℕ → Said → ℕ
next_number number (call name text) = number + 1
next_number number _ = number

-- an event for each line; the calls are numbered from a number on
abbrev pub AreEvents : Declared → List FuncDesc → ℕ → List EventLine → List Event → Type 0
AreEvents d funcs number [] [] = Unit {0}
AreEvents d funcs number (line ∷ lines) (event ∷ events) =
    IsEventOf d funcs number line.event event × AreEvents d funcs (next_number number line.event) lines events
AreEvents d funcs number _ _ = ⊥

-- ---- the whole

-- The script says the session: rules are over the server's interface, calls over the client's.
pub record IsSession (s : Script) (client server : Declared) (session : Session) : Type 0 where
  pub client_is : session.client ≡ client
  pub client_interface : interface_number client s.interface ≡ Some session.client_interface
  pub server_is : session.server ≡ server
  pub server_interface : interface_number server s.interface ≡ Some session.server_interface
  pub object : session.object ≡ object_name s.object
  pub rules : AreRules server (server_funcs session) s.rules session.rules
  pub capacity : session.queue ≡ capacity_of s.queue
  pub timeout : session.queue_timeout ≡ timeout_of s.queue
  pub events : AreEvents client (client_funcs session) 1 s.events session.events
