-- The servant of a session, and what it answers.
use Rattle.std.proofs.Common.{◌≡◌, ◌≤◌, ℕ, Bool, true, false, cond, List, [], length, Option, Some, None, refl, sym, ap, ◌∙◌, subst}
use Rattle.std.specs.Prelude.{ℤ, IfSome, slice_get}
use Rattle.tars_model.specs.Declarations.{Declared}
use Rattle.tars_model.specs.declared.func_desc.FuncDesc.{FuncDesc}
use Rattle.rpc_packet.specs.declared.request.Request.{Request}
use Rattle.rpc_packet.specs.declared.response.Response.{Response}
use Rattle.tars_frames.specs.Streams.{LONGEST}
use Rattle.rpc_packet.specs.Packets.{response_frame}
use Rattle.rpc_packet.specs.Outcomes.{AreTexts}
use Rattle.rpc_packet.proofs.CallerLemmas.{no_texts}
use Rattle.servant_core.specs.Answers.{SUCCESS, TOO_LONG, is_one, response_to, code_alone, is_long, members_returned, within_limit, replied, answered_call, answered_by, answered_two_way, answered, unseen, asked_call, refusal}
use Rattle.servant_core.specs.Functions.{functions_of}
use Rattle.servant_core.specs.Servants.{Always, Handled, IsAfter, IsSuited}
use Rattle.servant_core.specs.Rules.{table_reply}
use Rattle.servant_core.specs.Tables.{Table, functions}
use Rattle.servant_core.specs.declared.replies.Reply.{Reply}
use Rattle.servant_core.specs.declared.replies.Reply.TheVariants.{Values, Code, Silent}
use Rattle.servant_core.proofs.CallerLemmas.{always_after, answered_short, unseen_short}
use Rattle.tars_codec.specs.Written.{written}
use Rattle.script_session.specs.Sessions.{server_funcs, replies}
use Rattle.script_session.specs.declared.session.Session.{Session}
use Rattle.session_service.specs.Made.{servant_of}
use Rattle.run_engine.specs.Tracks.{IsServantOf, IsWritable}

-- ---- servants that reply the same are answered by the same

module _ (d : Declared) (funcs : List FuncDesc) (f g : Handled → Reply) (same : (call : Handled) → f call ≡ g call) (r : Request) where
  call_same : (call : Option Handled) → answered_call d funcs f r call ≡ answered_call d funcs g r call
  call_same None = refl
  call_same (Some call) = ap (λ reply. replied d (slice_get funcs call.func) r reply) (same call)

  by_same : (call : Option Handled) (code : Option ℤ) → answered_by d funcs f r call code ≡ answered_by d funcs g r call code
  by_same call (Some code) = refl
  by_same call None = call_same call

answered_same : (d : Declared) (interface : ℕ) (name : List ℕ) (f g : Handled → Reply) (r : Request) (now : ℕ) → ((call : Handled) → f call ≡ g call)
    → answered d interface name f r now ≡ answered d interface name g r now
unfolding answered
answered_same d interface name f g r now same = by_kind (is_one r.kind)
  where
    by_kind : (b : Bool) → cond b None (answered_two_way d interface name f r now) ≡ cond b None (answered_two_way d interface name g r now)
    by_kind true = refl
    by_kind false = by_same d (functions_of d interface) f g same r (asked_call d (functions_of d interface) r now) (refusal d interface name r)

pub answered_is : (s : Session) (table : Table) (r : Request) (now : ℕ) → IsServantOf s table
    → answered s.server s.server_interface s.object.id (λ call. table_reply table.schema (functions table) table.rules call) r now
    ≡ answered s.server s.server_interface s.object.id (replies s) r now
answered_is s table r now of_session = answered_same s.server s.server_interface s.object.id _ (replies s) r now of_session.replies_are

-- ---- the servant of a session

pub made_servant : (s : Session) (table : Table) → table ≡ servant_of s
    → Always (IsSuited table.schema (functions table)) (λ earlier last. table_reply table.schema (functions table) table.rules last) → IsServantOf s table
made_servant s table is suits = subst (IsServantOf s) (sym is) (record {
  replies_are = λ call. refl;
  suited = subst (λ (t : Table). Always (IsSuited t.schema (functions t)) (λ earlier last. table_reply t.schema (functions t) t.rules last)) is suits;
})

pub servant_after : (s : Session) (old new : Table) (calls : List Handled)
    → IsAfter (λ earlier last. table_reply old.schema (functions old) old.rules last) calls (λ earlier last. table_reply new.schema (functions new) new.rules last)
    → IsServantOf s old → IsServantOf s new
servant_after s old new calls after of_session = record {
  replies_are = λ call. after [] call ∙ of_session.replies_are call;
  suited = always_after _ _ calls (IsSuited s.server (server_funcs s)) after of_session.suited;
}

-- ---- what is answered can be written

module _ (P : Response → Type 0) (every : (r : Request) (code : ℤ) (body : List ℕ) → P (response_to r code body)) where
  limited_has : (r : Request) (body : List ℕ) → P (within_limit r body)
  limited_has r body = by_test (is_long r body)
    where
      by_test : (b : Bool) → P (cond b (code_alone r TOO_LONG) (response_to r SUCCESS body))
      by_test true = every r TOO_LONG []
      by_test false = every r SUCCESS body

  replied_has : (d : Declared) (func : Option FuncDesc) (r : Request) (reply : Reply) → IfSome (replied d func r reply) P
  replied_has d func r (Values values) = limited_has r (written d (members_returned func) values)
  replied_has d func r (Code n) = every r n []
  replied_has d func r Silent = tt

  call_has : (d : Declared) (funcs : List FuncDesc) (reply : Handled → Reply) (r : Request) (call : Option Handled) → IfSome (answered_call d funcs reply r call) P
  call_has d funcs reply r None = tt
  call_has d funcs reply r (Some call) = replied_has d (slice_get funcs call.func) r (reply call)

  by_has : (d : Declared) (funcs : List FuncDesc) (reply : Handled → Reply) (r : Request) (call : Option Handled) (code : Option ℤ) → IfSome (answered_by d funcs reply r call code) P
  by_has d funcs reply r call (Some code) = every r code []
  by_has d funcs reply r call None = call_has d funcs reply r call

  answered_has : (d : Declared) (interface : ℕ) (name : List ℕ) (reply : Handled → Reply) (r : Request) (now : ℕ) → IfSome (answered d interface name reply r now) P
  unfolding answered
  answered_has d interface name reply r now = by_test (is_one r.kind)
    where
      by_test : (b : Bool) → IfSome (cond b None (answered_two_way d interface name reply r now)) P
      by_test true = tt
      by_test false = by_has d (functions_of d interface) reply r (asked_call d (functions_of d interface) r now) (refusal d interface name r)

  unseen_has : (r : Request) (code : ℤ) → IfSome (unseen r code) P
  unfolding unseen
  unseen_has r code = by_test (is_one r.kind)
    where
      by_test : (b : Bool) → IfSome (cond b None (Some (code_alone r code))) P
      by_test true = tt
      by_test false = every r code []

writable : (response : Option Response) → IfSome response (λ r. AreTexts r.status) → IfSome response (λ r. length (response_frame r) ≤ LONGEST) → IfSome response IsWritable
writable None status within = tt
writable (Some r) status within = record { status = status; within = within }

pub answered_writable : (d : Declared) (interface : ℕ) (name : List ℕ) (reply : Handled → Reply) (r : Request) (now : ℕ) → IfSome (answered d interface name reply r now) IsWritable
answered_writable d interface name reply r now =
    writable (answered d interface name reply r now) (answered_has (λ r. AreTexts r.status) (λ r code body. no_texts) d interface name reply r now) (answered_short d interface name reply r now)

pub unseen_writable : (r : Request) (code : ℤ) → IfSome (unseen r code) IsWritable
unseen_writable r code = writable (unseen r code) (unseen_has (λ r. AreTexts r.status) (λ r code body. no_texts) r code) (unseen_short r code)
