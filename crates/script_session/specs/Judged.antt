-- What loading has judged of a session (docs/SCRIPTS.md, "Loading").
use Rattle.std.specs.Prelude.{◌≡◌, ◌<◌, ◌≤◌, ◌^◌, ℕ, true, Some, List, length, All, slice_get}
use Rattle.std.specs.List.{list_all}
use Rattle.tars_model.specs.Members.{arguments_of}
use Rattle.tars_model.specs.Values.{fit_members}
use Rattle.tars_model.specs.declared.func_desc.FuncDesc.{FuncDesc}
use Rattle.tars_frames.specs.Streams.{LONGEST}
use Rattle.value_text.specs.Printed.{has_bytes}
use Rattle.wire_reading.specs.Readings.{AreBytes}
use Rattle.rpc_packet.specs.Packets.{request_frame}
use Rattle.servant_core.specs.Rules.{IsRuleOf}
use Rattle.servant_core.specs.declared.rules.Rule.{Rule}
use Rattle.servant_core.specs.declared.rules.Rule.TheVariants as rule
use Rattle.script_session.specs.Sessions.{client_funcs, server_funcs, func_of, node_of, request_of}
use Rattle.script_session.specs.declared.session.CallSpec.{CallSpec}
use Rattle.script_session.specs.declared.session.Event.{Event}
use Rattle.script_session.specs.declared.session.Event.TheVariants.{Call}
use Rattle.script_session.specs.declared.session.FuncRule.{FuncRule}
use Rattle.script_session.specs.declared.session.Session.{Session}

-- ids are 31 bits wide
abbrev pub IDS : ℕ
IDS = 2 ^ 31

-- a call by the one line, of a function that is there, with arguments that fit it, and whose request is a packet under every id
pub record IsCall (s : Session) (spec : CallSpec) : Type 0 where
  pub line : spec.line ≡ 1
  pub func : spec.func < length (client_funcs s)
  pub args : fit_members s.client (arguments_of (func_of s spec.func)) spec.args ≡ true
  pub bytes : list_all has_bytes spec.args ≡ true
  pub within : (id : ℕ) → id < IDS → length (request_frame (request_of s spec id)) ≤ LONGEST

abbrev pub IsEvent : Session → Event → Type 0
IsEvent s (Call spec) = IsCall s spec
IsEvent s _ = Unit {0}

-- the texts of a value that is returned are bytes
abbrev pub HasBytes : Rule → Type 0
HasBytes (rule.Value value) = has_bytes value ≡ true
HasBytes _ = Unit {0}

-- a rule that fits a function of the server
pub record IsRule (s : Session) (r : FuncRule) : Type 0 where
  pub func : FuncDesc
  pub func_is : slice_get (server_funcs s) r.func ≡ Some func
  pub fits : IsRuleOf s.server func r.rule
  pub bytes : HasBytes r.rule

-- both interfaces and the node are there, and rules, calls and numbers are as they may be
pub record IsJudged (s : Session) : Type 0 where
  pub client : s.client_interface < length s.client.interfaces
  pub server : s.server_interface < length s.server.interfaces
  pub id_bytes : AreBytes s.object.id
  pub id_short : length s.object.id < 2 ^ 31
  pub node : 1 ≤ length s.object.nodes
  pub timeout : (node_of s).timeout < 2 ^ 31
  pub rules : All (IsRule s) s.rules
  pub queue : 1 ≤ s.queue
  pub events : All (IsEvent s) s.events
  pub few : length s.events < IDS
