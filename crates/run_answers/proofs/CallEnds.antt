-- What is read of the response to a judged call, and what its end says.
use Rattle.std.proofs.Common.{◌≡◌, ◌≢◌, ◌≤◌, ◌<◌, ◌^◌, ℕ, Bool, true, false, cond, eqb, eqb-true, List, [], ◌∷◌, length, Option, Some, None, Result, Ok, Err, IfSome, refl, sym, ap, ◌∙◌, subst, lit<, ltb-true, pos, negsuc, ℤ}
use lib.Signed.{mag}
use Rattle.std.proofs.lemmas.List.Elements.{All-nil}
use Rattle.tars_model.specs.Members.{arguments_of, reply_members_of}
use Rattle.tars_model.specs.Schemas.{IsSchema}
use Rattle.tars_model.specs.Values.{is_signed}
use Rattle.tars_model.specs.declared.member.Member.{Member}
use Rattle.tars_model.specs.declared.value.Value.{Value}
use Rattle.tars_decode.specs.Reads.{Read, is_zero}
use Rattle.tars_decode.specs.declared.halt.Refusal.TheVariants as refusal
use Rattle.tars_decode.specs.declared.refuse.Refuse.{Refuse}
use Rattle.tars_codec.specs.Written.{written}
use Rattle.tars_frames.specs.Streams.{LONGEST, IsPacket}
use Rattle.wire_reading.specs.Readings.{AreBytes}
use Rattle.rpc_packet.specs.Bodies.{refusal_told}
use Rattle.rpc_packet.specs.Packets.{request_frame, read_request, response_frame, read_response}
use Rattle.rpc_packet.specs.declared.request.Request.{Request}
use Rattle.rpc_packet.specs.declared.response.Response.{Response}
use Rattle.rpc_packet.proofs.CallerLemmas.{no_texts, within_sendable, within_answerable, request_packet, response_packet}
use Rattle.rpc_packet.proofs.ComesBack.{request_comes_back, response_comes_back}
use Rattle.rpc_packet.proofs.FrameBytes.{request_bytes, response_bytes}
use Rattle.servant_core.specs.Answers.{SUCCESS, TOO_LONG, OVERLOAD, response_to, code_alone, is_long, within_limit, answered, unseen}
use Rattle.servant_core.proofs.CallerLemmas.{answered_short, unseen_short}
use Rattle.script_session.specs.Judged.{IDS, IsCall, IsJudged}
use Rattle.script_session.specs.Sessions.{func_of, request_of, replies}
use Rattle.script_session.specs.declared.session.CallSpec.{CallSpec}
use Rattle.script_session.specs.declared.session.Session.{Session}
use Rattle.run_course.specs.Nodes.{frames_of}
use Rattle.run_course.specs.Planned.{body_end, reply_end}
use Rattle.run_course.proofs.Lists.{some_same, none_some}
use Rattle.run_answers.specs.Answered.{Answer, success, code, nothing, answer_to, client_values, SaysValues, SaysCode, Says, IsAnswerFrame, IsOverloadFrame}
use Rattle.run_answers.proofs.Bodies.{AreSendable, body_bytes, body_decoded}
use Rattle.run_answers.proofs.CallAnswers.{response_of, IsGiven, name_small, args_sendable, answer_given, answered_is}
use Rattle.run_answers.proofs.WideCodes.{wide_unread}

signed_mag : (n : ℤ) → is_signed 31 n ≡ true → mag n < 2 ^ 31
signed_mag (pos n) e = ltb-true n (2 ^ 31) e
signed_mag (negsuc n) e = ltb-true n (2 ^ 31) e

no_bytes : AreBytes []
no_bytes = All-nil (λ byte. byte < 256)

not_zero : (n : ℤ) → n ≢ pos 0 → is_zero n ≡ false
not_zero (pos n) other = by_test (eqb n 0) refl
  where
    by_test : (b : Bool) → eqb n 0 ≡ b → b ≡ false
    by_test true e = absurd (other (ap pos (eqb-true n 0 e)))
    by_test false e = refl
not_zero (negsuc n) other = refl

one_same : {X : Type 0} (x y : X) → x ∷ [] ≡ y ∷ [] → x ≡ y
one_same x y e = ap (λ zs. elim zs [ z ∷ rest ↦ z | [] ↦ x ]) e

-- a response to a call, of bytes
pub record IsPlain (r : Request) (response : Response) : Type 0 where
  pub ret : ℤ
  pub body : List ℕ
  pub is : response ≡ response_to r ret body
  pub bytes : AreBytes body

module _ (s : Session) (client : IsSchema s.client) (server : IsSchema s.server) (judged : IsJudged s) (spec : CallSpec) (call : IsCall s spec) (id : ℕ) (small : id < IDS) where
  abbrev request : Request
  request = request_of s spec id

  -- ---- the request

  pub request_whole : IsPacket LONGEST (request_frame request)
  request_whole = request_packet request (call.within id small)

  pub request_back : read_request (request_frame request) ≡ Some request
  request_back =
      request_comes_back request (record { version = lit< tt; kind = lit< tt; message = lit< tt; id = small; timeout = judged.timeout })
      (within_sendable request no_texts no_texts (call.within id small))
      (request_bytes request refl refl judged.id_bytes (name_small s client server judged spec call) (body_bytes s.client (arguments_of (func_of s spec.func)) spec.args (args_sendable s client server judged spec call)))

  -- ---- responses

  plain_alone : (n : ℤ) → IsPlain request (code_alone request n)
  plain_alone n = record { ret = n; body = []; is = refl; bytes = no_bytes }

  plain_limited : (body : List ℕ) → AreBytes body → IsPlain request (within_limit request body)
  plain_limited body bytes = by_test (is_long request body)
    where
      by_test : (b : Bool) → IsPlain request (cond b (code_alone request TOO_LONG) (response_to request SUCCESS body))
      by_test true = plain_alone TOO_LONG
      by_test false = record { ret = SUCCESS; body = body; is = refl; bytes = bytes }

  plain_answer : (a : Answer) → IsGiven s a → (response : Response) → response_of s request a ≡ Some response → IsPlain request response
  plain_answer (success members values) given response is =
      subst (IsPlain request) (some_same (within_limit request (written s.server members values)) response is) (plain_limited (written s.server members values) (body_bytes s.server members values given))
  plain_answer (code n) given response is = subst (IsPlain request) (some_same (code_alone request n) response is) (plain_alone n)
  plain_answer nothing given response is = absurd (none_some response is)

  -- it is read as it is, if it is read at all
  known : (response : Response) → IsPlain request response → length (response_frame response) ≤ LONGEST → (other : Response) → read_response (response_frame response) ≡ Some other → other ≡ response
  known response plain within other read =
      subst (λ (q : Response). other ≡ q) (sym plain.is)
      (by_test (is_signed 31 plain.ret) refl (subst (λ (q : Response). length (response_frame q) ≤ LONGEST) plain.is within) (subst (λ (q : Response). read_response (response_frame q) ≡ Some other) plain.is read))
    where
      own : Response
      own = response_to request plain.ret plain.body

      bytes : AreBytes (response_frame own)
      bytes = response_bytes own refl plain.bytes no_bytes

      by_test : (b : Bool) → is_signed 31 plain.ret ≡ b → length (response_frame own) ≤ LONGEST → read_response (response_frame own) ≡ Some other → other ≡ own
      by_test true fits short e =
          some_same other own
          (sym e ∙ response_comes_back own (record { version = lit< tt; kind = lit< tt; id = small; message = lit< tt; ret = signed_mag plain.ret fits }) (within_answerable own no_texts short) bytes)
      by_test false wide short e =
          let answerable = within_answerable own no_texts short in
          absurd (wide_unread request plain.ret plain.body wide (record { version = lit< tt; kind = lit< tt; id = small; message = lit< tt; ret = lit< tt })
          (record { body = answerable.body; status = answerable.status; note = answerable.note }) bytes other e)

  -- ---- frames that answer the call

  -- the frame is a packet, and is read as this response alone
  pub record IsFrameOf (response : Response) (frame : List ℕ) : Type 0 where
    pub frame_is : frame ≡ response_frame response
    pub whole : IsPacket LONGEST frame
    pub read : (other : Response) → read_response frame ≡ Some other → other ≡ response
    pub names : response.id ≡ pos id

  framed_response : (response : Response) → IsPlain request response → length (response_frame response) ≤ LONGEST → (frame : List ℕ) → response_frame response ∷ [] ≡ frame ∷ [] → IsFrameOf response frame
  framed_response response plain within frame is =
      let same : response_frame response ≡ frame = one_same (response_frame response) frame is in
      record {
        frame_is = sym same;
        whole = subst (IsPacket LONGEST) same (response_packet response within);
        read = subst (λ bytes. (other : Response) → read_response bytes ≡ Some other → other ≡ response) same (known response plain within);
        names = ap (λ (q : Response). q.id) plain.is;
      }

  -- that of the servant
  pub record IsServed (frame : List ℕ) : Type 0 where
    pub response : Response
    pub response_is : response_of s request (answer_to s spec) ≡ Some response
    pub framed : IsFrameOf response frame

  pub served_frame : (frame : List ℕ) → IsAnswerFrame s spec id frame → IsServed frame
  served_frame frame is =
      by_response (answered s.server s.server_interface s.object.id (replies s) request 0) (answered_is s client server judged spec call id 0)
      (answered_short s.server s.server_interface s.object.id (replies s) request 0) is
    where
      by_response : (o : Option Response) → o ≡ response_of s request (answer_to s spec) → IfSome o (λ response. length (response_frame response) ≤ LONGEST) → frames_of o ≡ frame ∷ [] → IsServed frame
      by_response None same short framed = absurd (cc framed)
      by_response (Some response) same short framed =
          record {
            response = response;
            response_is = sym same;
            framed = framed_response response (plain_answer (answer_to s spec) (answer_given s client server judged spec call) response (sym same)) short frame framed;
          }

  -- that of a full queue
  pub refused_frame : (frame : List ℕ) → IsOverloadFrame s spec id frame → IsFrameOf (code_alone request OVERLOAD) frame
  unfolding unseen
  refused_frame frame is = framed_response (code_alone request OVERLOAD) (plain_alone OVERLOAD) (unseen_short request OVERLOAD) frame is

  -- ---- ends

  module _ (node packet : ℕ) where
    by_read : (members : List Member) (values : List Value) (read : Read (List Value)) → client_values s spec members values ≡ read → SaysValues s spec id members values (body_end node packet (refusal_told read))
    by_read members values (Ok got) is = is
    by_read members values (Err (refusal.Missing path)) is = ap refusal_told is
    by_read members values (Err (refusal.Mismatch path why)) is = ap refusal_told is

    says_values : (members : List Member) (values : List Value) → AreSendable s.server members values
        → SaysValues s spec id members values (reply_end s spec.func node packet (within_limit request (written s.server members values)))
    unfolding reply_end
    says_values members values sendable = by_test (is_long request (written s.server members values)) refl
      where
        by_test : (b : Bool) → is_long request (written s.server members values) ≡ b
            → SaysValues s spec id members values (reply_end s spec.func node packet (cond b (code_alone request TOO_LONG) (response_to request SUCCESS (written s.server members values))))
        by_test true long = (refl, ltb-true LONGEST (length (response_frame (response_to request SUCCESS (written s.server members values)))) long)
        by_test false short =
            subst (λ (said : Result (List Value) Refuse). SaysValues s spec id members values (body_end node packet said))
            (sym (body_decoded s.server members values sendable s.client (reply_members_of (func_of s spec.func))))
            (by_read members values (client_values s spec members values) refl)

    says_code : (n : ℤ) → n ≢ pos 0 → SaysCode n (reply_end s spec.func node packet (code_alone request n))
    unfolding reply_end
    says_code n other = rw (not_zero n other) (refl, other)

    by_answer : (a : Answer) → IsGiven s a → (response : Response) → response_of s request a ≡ Some response → Says s spec id a (reply_end s spec.func node packet response)
    by_answer (success members values) given response is =
        subst (λ (q : Response). SaysValues s spec id members values (reply_end s spec.func node packet q)) (some_same (within_limit request (written s.server members values)) response is)
        (says_values members values given)
    by_answer (code n) given response is =
        subst (λ (q : Response). SaysCode n (reply_end s spec.func node packet q)) (some_same (code_alone request n) response is) (says_code n given)
    by_answer nothing given response is = absurd (none_some response is)

    pub served_says : (response : Response) → response_of s request (answer_to s spec) ≡ Some response → Says s spec id (answer_to s spec) (reply_end s spec.func node packet response)
    served_says response is = by_answer (answer_to s spec) (answer_given s client server judged spec call) response is
