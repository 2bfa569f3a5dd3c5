-- The report of a script (docs/SCRIPTS.md, "Reports").
use Rattle.std.specs.Prelude.{ℕ, suc, true, if◌then◌else◌, Option, Some, None, Result, Ok, Err, List, [], ◌∷◌, ◌++◌, map, take, filter_map}
use Rattle.tars_model.specs.Members.{reply_members_of}
use Rattle.tars_model.specs.declared.value.Value.{Value}
use Rattle.tars_decode.specs.Reads.{is_zero}
use Rattle.tars_decode.specs.declared.refuse.Refuse.{Refuse}
use Rattle.tars_frames.specs.Streams.{LONGEST}
use Rattle.tars_frames.specs.Cutting.{rest_of}
use Rattle.script_session.specs.Sessions.{func_of}
use Rattle.script_session.specs.declared.link_log.LinkLog.{LinkLog}
use Rattle.script_session.specs.declared.session.Event.{Event}
use Rattle.script_session.specs.declared.session.Event.TheVariants.{Close}
use Rattle.script_session.specs.declared.report.CallId.{CallId}
use Rattle.script_session.specs.declared.report.End.{End}
use Rattle.script_session.specs.declared.report.End.TheVariants.{Value as ValueEnd, Code, Undecoded, Closed, Refused}
use Rattle.script_session.specs.declared.report.PickNote.{PickNote}
use Rattle.script_session.specs.declared.report.Report.{Report}
use Rattle.script_session.specs.declared.report.RouteStep.{RouteStep}
use Rattle.script_session.specs.declared.report.RouteStep.TheVariants.{Picked, Reported}
use Rattle.script_session.specs.declared.report.Row.{Row}
use Rattle.rpc_packet.specs.Bodies.{decoded}
use Rattle.rpc_packet.specs.declared.response.Response.{Response}
use Rattle.script_session.specs.declared.session.Session.{Session}
use Rattle.run_course.specs.Courses.{Fate, replied, closed, Stage, refused, opened, Noted, Link, Course, answers_stream, step, after_all}

-- How a call came out.

-- the values that a body says, or why it says none
abbrev pub body_end : ℕ → ℕ → Result (List Value) Refuse → End
body_end node packet (Ok values) = ValueEnd node packet values
body_end node packet (Err why) = Undecoded node packet why

-- the body of a reply as the caller's version of a function reads it
abbrev pub reply_values : Session → ℕ → List ℕ → Result (List Value) Refuse
reply_values s func body = decoded s.client (reply_members_of (func_of s func)) body

-- what a reply says: its return code, or under the code 0 what its body says
unfoldable pub reply_end : Session → ℕ → ℕ → ℕ → Response → End
reply_end s func node packet r =
    if is_zero r.ret then body_end node packet (reply_values s func r.body) else Code node packet r.ret

abbrev pub fate_end : Session → ℕ → Option Fate → End
fate_end s func (Some (replied node packet r)) = reply_end s func node packet r
fate_end s func (Some closed) = Closed
fate_end s func None = Closed

abbrev pub stage_end : Session → ℕ → Stage → End
stage_end s func (refused why) = Refused why
stage_end s func (opened life) = fate_end s func life.fate

abbrev pub id_of : Stage → Option CallId
id_of (refused why) = None
id_of (opened life) = Some (record { 0 = life.id })

abbrev pub row_of : Session → Noted → Row
row_of s call =
    record {
      call = call.spec.call;
      line = call.spec.line;
      func = call.spec.func;
      two_way = call.spec.two_way;
      pick = call.pick;
      id = id_of call.stage;
      end = stage_end s call.spec.func call.stage;
    }

-- What passed on a link, nodes from 1; what was read of the answers after the last whole packet is the rest.

abbrev pub link_log : ℕ → Link → LinkLog
link_log node link =
    record {
      node = node;
      sent = link.sent;
      torn = [];
      got = link.got;
      rest = rest_of LONGEST (take link.delivered (answers_stream link));
      cut = None;
    }

abbrev pub logs_from : ℕ → List Link → List LinkLog
logs_from node [] = []
logs_from node (link ∷ links) = link_log node link ∷ logs_from (suc node) links

-- What the router did: each pick, and each reply as a success when it is collected, in the order of calls.

abbrev pub pick_step : ℕ → Option PickNote → Option RouteStep
pick_step call None = None
pick_step call (Some note) = Some (Picked call note.node note.why 0 0)

abbrev pub success : ℕ → Option Fate → Option RouteStep
success call (Some (replied node packet r)) = Some (Reported call node 0 true 0)
success call _ = None

abbrev pub report_step : ℕ → Stage → Option RouteStep
report_step call (refused why) = None
report_step call (opened life) = success call life.fate

abbrev pub picked_step : Noted → Option RouteStep
picked_step call = pick_step call.spec.call call.pick

abbrev pub reported_step : Noted → Option RouteStep
reported_step call = report_step call.spec.call call.stage

-- A run ends by a close, and what is in flight is collected in the order of the calls.

abbrev pub collects : Stage → Stage
collects (refused why) = refused why
collects (opened life) = opened (record life { collected = true })

abbrev pub collected_call : Noted → Noted
collected_call call = record call { stage = collects call.stage }

abbrev pub collected_all : Course → Course
collected_all c = record c { calls = map collected_call c.calls }

unfoldable pub ended : Session → List Event → Course
ended s events = collected_all (step s (after_all s events) Close)

abbrev pub report_of : Session → Course → Report
report_of s c =
    record {
      calls = map (row_of s) c.calls;
      links = logs_from 1 c.links;
      routes = filter_map picked_step c.calls ++ filter_map reported_step c.calls;
    }

-- the report of a script
unfoldable pub planned : Session → Report
planned s = report_of s (ended s s.events)
