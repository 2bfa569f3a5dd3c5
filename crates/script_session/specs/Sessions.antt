-- What a session is about (docs/SCRIPTS.md, "General scripts"): the functions of both sides, one line of calls, one node, and
-- what its servant replies.
use Rattle.std.specs.Prelude.{ℕ, pos, Option, Some, None, List, [], ◌∷◌, length, replicate, slice_index_or, slice_set}
use Rattle.tars_model.specs.Members.{arguments_of}
use Rattle.tars_model.specs.declared.func_desc.FuncDesc.{FuncDesc}
use Rattle.tars_codec.specs.Written.{written}
use Rattle.rpc_packet.specs.declared.request.Request.{Request}
use Rattle.servant_core.specs.Functions.{functions_of}
use Rattle.servant_core.specs.Rules.{table_reply}
use Rattle.servant_core.specs.Servants.{Handled}
use Rattle.servant_core.specs.declared.replies.Reply.{Reply}
use Rattle.servant_core.specs.declared.rules.Rule.{Rule}
use Rattle.script_session.specs.declared.session.CallSpec.{CallSpec}
use Rattle.script_session.specs.declared.session.Endpoint.{Endpoint}
use Rattle.script_session.specs.declared.session.FuncRule.{FuncRule}
use Rattle.script_session.specs.declared.session.Session.{Session}
use Rattle.script_session.specs.declared.report.PickNote.{PickNote}
use Rattle.script_session.specs.declared.report.Why.TheVariants.{Live}

-- how many calls of the line may be in flight
abbrev pub WIDTH : ℕ
WIDTH = 8

-- the one node, as reports number it
abbrev pub NODE : ℕ
NODE = 1

-- the one node is picked, which is live
abbrev pub live_node : Option PickNote
live_node = Some (record { node = NODE; why = Live })

-- ---- the parts of a session

-- the functions of the interface, in the caller's version and in the server's
abbrev pub client_funcs : Session → List FuncDesc
client_funcs s = functions_of s.client s.client_interface

abbrev pub server_funcs : Session → List FuncDesc
server_funcs s = functions_of s.server s.server_interface

-- a function of the caller's version, by its number
abbrev pub func_of : Session → ℕ → FuncDesc
func_of s k = slice_index_or (client_funcs s) k (record { name = []; ret = None; params = [] })

abbrev pub node_of : Session → Endpoint
node_of s = slice_index_or s.object.nodes 0 (record { host = []; port = 0; timeout = 0 })

-- ---- the caller's requests

-- the request of a call under an id, to the one object: a normal call, message type 0, neither context nor status
abbrev pub request_of : Session → CallSpec → ℕ → Request
request_of s spec id =
    record {
      version = pos 1;
      kind = pos 0;
      message = pos 0;
      id = pos id;
      servant = s.object.id;
      func = (func_of s spec.func).name;
      body = written s.client (arguments_of (func_of s spec.func)) spec.args;
      timeout = pos (node_of s).timeout;
      context = [];
      status = [];
    }

-- ---- the servant

-- the rules by the functions' numbers, for so many functions; the first rule of a function counts
abbrev pub rule_table : ℕ → List FuncRule → List (Option Rule)
rule_table count [] = replicate count None
rule_table count (rule ∷ rules) = slice_set (rule_table count rules) rule.func (Some rule.rule)

abbrev pub rules_of : Session → List (Option Rule)
rules_of s = rule_table (length (server_funcs s)) s.rules

-- what it replies to a call
abbrev pub replies : Session → Handled → Reply
replies s call = table_reply s.server (server_funcs s) (rules_of s) call
