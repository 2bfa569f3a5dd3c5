-- What is made once for a session.
use Rattle.std.specs.Prelude.{List, map}
use Rattle.tars_model.specs.Members.{arguments_of, reply_members_of}
use Rattle.tars_model.specs.declared.func_desc.FuncDesc.{FuncDesc}
use Rattle.servant_core.specs.Tables.{Table}
use Rattle.script_session.specs.Sessions.{rules_of}
use Rattle.script_session.specs.declared.session.Session.{Session}
use Rattle.session_service.specs.declared.func_members.FuncMembers.{FuncMembers}

-- the members of a function's arguments and of its reply
abbrev pub members_of : FuncDesc → FuncMembers
members_of func = record { arguments = arguments_of func; reply = reply_members_of func }

abbrev pub all_members : List FuncDesc → List FuncMembers
all_members funcs = map members_of funcs

-- the servant of a session, which has handled no call
abbrev pub servant_of : Session → Table
servant_of s = record { schema = s.server; interface = s.server_interface; rules = rules_of s; handled = 0 }
