-- What a node answers to the request of a judged call.
use Rattle.std.proofs.Common.{◌≡◌, ◌≢◌, ℕ, Bool, true, false, cond, not, is_none, List, [], ◌∷◌, Option, Some, None, Ok, Err, refl, sym, ap, ◌∙◌, arith, pos}
use Rattle.std.specs.Prelude.{slice_get}
use Rattle.std.specs.Str.{bytes_eq}
use Rattle.std.proofs.lemmas.Slice.Eq.{bytes_eq-Decides}
use Rattle.tars_model.specs.Members.{arguments_of, reply_members_of}
use Rattle.tars_model.specs.Schemas.{IsSchema}
use Rattle.tars_model.specs.declared.func_desc.FuncDesc.{FuncDesc}
use Rattle.tars_model.specs.declared.value.Value.{Value}
use Rattle.tars_decode.specs.Reads.{Read}
use Rattle.tars_codec.specs.Written.{written}
use Rattle.value_text.specs.Printed.{has_bytes}
use Rattle.wire_reading.specs.Readings.{AreBytes}
use Rattle.rpc_packet.specs.Bodies.{unless_refused}
use Rattle.rpc_packet.specs.declared.request.Request.{Request}
use Rattle.rpc_packet.specs.declared.response.Response.{Response}
use Rattle.servant_core.specs.Answers.{SUCCESS, NOT_READ, TOO_LONG, NO_SERVANT, NO_FUNCTION, PING, arguments_for, arguments_at, call_at, first_code, refusal, response_to, code_alone, within_limit, replied, answered_by, answered}
use Rattle.servant_core.specs.Servants.{IsReplyUnder}
use Rattle.servant_core.specs.declared.replies.Reply.{Reply}
use Rattle.servant_core.specs.declared.replies.Reply.TheVariants.{Values, Code, Silent}
use Rattle.servant_core.proofs.Lengths.{short_body}
use Rattle.script_session.specs.Judged.{IsCall, IsJudged}
use Rattle.script_session.specs.Sessions.{client_funcs, server_funcs, func_of, request_of, replies}
use Rattle.script_session.specs.declared.session.CallSpec.{CallSpec}
use Rattle.script_session.specs.declared.session.Session.{Session}
use Rattle.run_answers.specs.Answered.{Answer, success, code, nothing, server_func, called_func, of_reply, of_arguments, server_arguments, of_function, answer_to}
use Rattle.run_answers.proofs.ListLaws.{all_pass, index_or_is, position_within}
use Rattle.run_answers.proofs.FuncMembers.{no_members, func_name, arguments_are, reply_are}
use Rattle.run_answers.proofs.Bodies.{AreSendable, body_values, projection_sendable}
use Rattle.run_answers.proofs.Replies.{reply_bytes, reply_fits}

-- the response that stands for an answer
abbrev pub response_of : Session → Request → Answer → Option Response
response_of s r (success members values) = Some (within_limit r (written s.server members values))
response_of s r (code n) = Some (code_alone r n)
response_of s r nothing = None

-- values that can be written, or a code other than 0
abbrev pub IsGiven : Session → Answer → Type 0
IsGiven s (success members values) = AreSendable s.server members values
IsGiven s (code n) = n ≢ pos 0
IsGiven s nothing = Unit {0}

module _ (s : Session) (client : IsSchema s.client) (server : IsSchema s.server) (judged : IsJudged s) (spec : CallSpec) (call : IsCall s spec) where
  client_found : slice_get (client_funcs s) spec.func ≡ Some (func_of s spec.func)
  client_found = index_or_is (client_funcs s) spec.func (record { name = []; ret = None; params = [] }) call.func

  -- the arguments that are sent
  pub args_sendable : AreSendable s.client (arguments_of (func_of s spec.func)) spec.args
  args_sendable =
      record {
        schema = client;
        members = arguments_are client s.client_interface spec.func (func_of s spec.func) client_found;
        fit = call.args;
        bytes = all_pass has_bytes spec.args call.bytes;
      }

  pub name_small : AreBytes (func_of s spec.func).name
  name_small = func_name client s.client_interface spec.func (func_of s spec.func) client_found

  server_found : (k : ℕ) → called_func s spec ≡ Some k → slice_get (server_funcs s) k ≡ Some (server_func s k)
  server_found k is =
      index_or_is (server_funcs s) k (record { name = []; ret = None; params = [] })
      (position_within (λ (func : FuncDesc). bytes_eq (func_of s spec.func).name func.name) (server_funcs s) k is)

  -- ---- the answer can be written

  reply_given : (k : ℕ) (args : List Value) → slice_get (server_funcs s) k ≡ Some (server_func s k) → AreSendable s.server (arguments_of (server_func s k)) args
      → (reply : Reply) → replies s (record { func = k; args = args; moment = 0 }) ≡ reply → IsReplyUnder s.server (reply_members_of (server_func s k)) reply → IsGiven s (of_reply (server_func s k) reply)
  reply_given k args found sendable (Values values) is fit =
      record {
        schema = server;
        members = reply_are server s.server_interface k (server_func s k) found;
        fit = fit;
        bytes = reply_bytes s server judged (record { func = k; args = args; moment = 0 }) sendable.bytes values is;
      }
  reply_given k args found sendable (Code n) is fit = fit
  reply_given k args found sendable Silent is fit = tt

  args_given : (k : ℕ) → slice_get (server_funcs s) k ≡ Some (server_func s k) → (read : Read (List Value)) → server_arguments s spec k ≡ read → IsGiven s (of_arguments s k read)
  args_given k found (Err why) is = λ e. cc e
  args_given k found (Ok args) is =
      let sendable = projection_sendable s.client (arguments_of (func_of s spec.func)) spec.args args_sendable s.server (arguments_of (server_func s k)) server
      (arguments_are server s.server_interface k (server_func s k) found) args is in
      reply_given k args found sendable (replies s (record { func = k; args = args; moment = 0 })) refl
      (reply_fits s server judged (record { func = k; args = args; moment = 0 }) (server_func s k) found sendable.fit)

  func_given : (o : Option ℕ) → called_func s spec ≡ o → IsGiven s (of_function s spec o)
  func_given None is = λ e. cc e
  func_given (Some k) is = args_given k (server_found k is) (server_arguments s spec k) refl

  pub answer_given : IsGiven s (answer_to s spec)
  unfolding answer_to
  answer_given = by_ping (bytes_eq (func_of s spec.func).name PING)
    where
      by_ping : (ping : Bool) → IsGiven s (cond ping (success [] []) (of_function s spec (called_func s spec)))
      by_ping true = record { schema = server; members = no_members s.server; fit = refl; bytes = tt }
      by_ping false = func_given (called_func s spec) refl

  -- ---- it is what the node answers

  module _ (id now : ℕ) where
    abbrev request : Request
    request = request_of s spec id

    by_reply : (k : ℕ) (reply : Reply) → replied s.server (Some (server_func s k)) request reply ≡ response_of s request (of_reply (server_func s k) reply)
    by_reply k (Values values) = refl
    by_reply k (Code n) = refl
    by_reply k Silent = refl

    by_args : (k : ℕ) → slice_get (server_funcs s) k ≡ Some (server_func s k) → (read : Read (List Value))
        → answered_by s.server (server_funcs s) (replies s) request (call_at now (Some k) (unless_refused read)) (first_code ((is_none (unless_refused read), NOT_READ) ∷ []))
        ≡ response_of s request (of_arguments s k read)
    by_args k found (Err why) = refl
    by_args k found (Ok args) =
        ap (λ (func : Option FuncDesc). replied s.server func request (replies s (record { func = k; args = args; moment = now }))) found
        ∙ by_reply k (replies s (record { func = k; args = args; moment = 0 }))

    by_func : (o : Option ℕ) → called_func s spec ≡ o
        → answered_by s.server (server_funcs s) (replies s) request (call_at now o (arguments_at s.server (server_funcs s) o request.body))
        (first_code ((is_none o, NO_FUNCTION) ∷ (is_none (arguments_at s.server (server_funcs s) o request.body), NOT_READ) ∷ []))
        ≡ response_of s request (of_function s spec o)
    by_func None is = refl
    by_func (Some k) is =
        let found = server_found k is in
        let values : arguments_for s.server (slice_get (server_funcs s) k) request.body ≡ unless_refused (server_arguments s spec k) =
        ap (λ (func : Option FuncDesc). arguments_for s.server func request.body) found
        ∙ body_values s.client (arguments_of (func_of s spec.func)) spec.args args_sendable s.server (arguments_of (server_func s k)) in
        ap (λ o. answered_by s.server (server_funcs s) (replies s) request (call_at now (Some k) o) (first_code ((is_none o, NOT_READ) ∷ []))) values
        ∙ by_args k found (server_arguments s spec k)

    no_body_is : within_limit request (written s.server [] []) ≡ response_to request SUCCESS []
    unfolding written
    no_body_is = ap (λ long. cond long (code_alone request TOO_LONG) (response_to request SUCCESS [])) (sym (short_body request [] (omega arith)))

    by_ping : (ping : Bool)
        → answered_by s.server (server_funcs s) (replies s) request (call_at now (called_func s spec) (arguments_at s.server (server_funcs s) (called_func s spec) request.body))
        (first_code ((ping, SUCCESS) ∷ (is_none (called_func s spec), NO_FUNCTION) ∷ (is_none (arguments_at s.server (server_funcs s) (called_func s spec) request.body), NOT_READ) ∷ []))
        ≡ response_of s request (cond ping (success [] []) (of_function s spec (called_func s spec)))
    by_ping true = ap Some (sym no_body_is)
    by_ping false = by_func (called_func s spec) refl

    pub answered_is : answered s.server s.server_interface s.object.id (replies s) request now ≡ response_of s request (answer_to s spec)
    unfolding answered refusal answer_to
    answered_is =
        ap (λ same. answered_by s.server (server_funcs s) (replies s) request (call_at now (called_func s spec) (arguments_at s.server (server_funcs s) (called_func s spec) request.body))
        (first_code ((not same, NO_SERVANT) ∷ (bytes_eq (func_of s spec.func).name PING, SUCCESS) ∷ (is_none (called_func s spec), NO_FUNCTION)
        ∷ (is_none (arguments_at s.server (server_funcs s) (called_func s spec) request.body), NOT_READ) ∷ []))) ((bytes_eq-Decides s.object.id s.object.id).1 refl)
        ∙ by_ping (bytes_eq (func_of s spec.func).name PING)
