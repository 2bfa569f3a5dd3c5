-- Each end of the report of a judged session says what is answered to its call, or that the queue was full.
use Rattle.std.proofs.Common.{◌≡◌, ◌⊎◌, inl, inr, ◌+◌, ℕ, zero, suc, pred, pos, List, [], ◌∷◌, Option, Some, None, refl, sym, ap, ◌∙◌, subst, arith}
use Rattle.std.specs.Prelude.{slice_get}
use Rattle.tars_model.specs.Schemas.{IsSchema}
use Rattle.rpc_packet.specs.Packets.{read_response}
use Rattle.rpc_packet.specs.declared.response.Response.{Response}
use Rattle.servant_core.specs.Answers.{OVERLOAD, code_alone}
use Rattle.script_session.specs.Judged.{IsJudged}
use Rattle.script_session.specs.Sessions.{request_of}
use Rattle.script_session.specs.declared.link_log.GotFate.TheVariants.{Used}
use Rattle.script_session.specs.declared.link_log.GotRow.{GotRow}
use Rattle.script_session.specs.declared.report.CallId.{CallId}
use Rattle.script_session.specs.declared.report.End.{End}
use Rattle.script_session.specs.declared.report.Row.{Row}
use Rattle.script_session.specs.declared.session.CallSpec.{CallSpec}
use Rattle.script_session.specs.declared.session.Session.{Session}
use Rattle.run_course.specs.Courses.{Fate, replied, closed, Life, Stage, refused, opened, Noted, Link, Course, link_of, named_id, sent_row}
use Rattle.run_course.specs.Planned.{reply_end, fate_end, stage_end, id_of, link_log, logs_from, ended, report_of, planned}
use Rattle.run_course.specs.Legal.{IsCallAt, got_of, got_at, CameFor, FateHasCause, HasCause, IsNamed, Scripted}
use Rattle.run_course.specs.LegalReports.{IsLogAt, IsUsedRow, packet_of}
use Rattle.run_course.specs.OneNode.{IsScriptedAt}
use Rattle.run_course.proofs.Lists.{some_same, none_some}
use Rattle.run_course.proofs.Runs.{runs_caused, runs_named}
use Rattle.run_course.proofs.Openings.{ids_differ}
use Rattle.run_course.proofs.OneNode.{IsRowOf, row_is_of}
use Rattle.run_course.proofs.Reports.{logs_got, opened_under, reply_packet}
use Rattle.run_answers.specs.Answered.{answer_to, Says, nothing, IsCrowded, IsOverloaded, IsAnswerFrame, IsOverloadFrame, IsAnswered}
use Rattle.run_answers.proofs.JudgedCalls.{IsSentCall, sent_call}
use Rattle.run_answers.proofs.CallEnds.{served_frame, refused_frame, served_says}
use Rattle.run_answers.proofs.CallAnswers.{response_of}
use Rattle.run_answers.proofs.Sendings.{Sending}
use Rattle.run_answers.proofs.Exchanges.{IsReply, IsBehind, got_reply, sent_so}

-- ---- the end of a call that a packet ended

record IsEndedBy (stage : Stage) (node packet : ℕ) : Type 0 where
  life : Life
  response : Response
  opened_so : stage ≡ opened life
  fate_is : life.fate ≡ Some (replied node packet response)

ended_by : (s : Session) (func : ℕ) (stage : Stage) (node packet : ℕ) → packet_of (stage_end s func stage) ≡ Some (node, packet) → IsEndedBy stage node packet
ended_by s func (refused why) node packet e = absurd (none_some (node, packet) e)
ended_by s func (opened life) node packet e = by_fate life.fate refl e
  where
    by_fate : (fate : Option Fate) → life.fate ≡ fate → packet_of (fate_end s func fate) ≡ Some (node, packet) → IsEndedBy (opened life) node packet
    by_fate None is g = absurd (none_some (node, packet) g)
    by_fate (Some closed) is g = absurd (none_some (node, packet) g)
    by_fate (Some (replied n p r)) is g =
        let same = some_same (n, p) (node, packet) (sym (reply_packet s func n p r) ∙ g) in
        record {
          life = life;
          response = r;
          opened_so = refl;
          fate_is = is ∙ ap (λ (place : ℕ × ℕ). Some (replied place.0 place.1 r)) same;
        }

-- ---- the log of a link

place_at : (n k node : ℕ) (links : List Link) (link : Link) → slice_get links k ≡ Some link → n + k ≡ node → slice_get (logs_from n links) k ≡ Some (link_log node link)
place_at n k node [] link e at = absurd (none_some link e)
place_at n zero node (first ∷ links) link e at = ap (λ l. Some (link_log n l)) (some_same first link e) ∙ ap (λ i. Some (link_log i link)) (go n node at)
  where
    go : (n node : ℕ) → n + 0 ≡ node → n ≡ node
    go n node at = omega (arith, at)
place_at n (suc k) node (first ∷ links) link e at = place_at (suc n) k node links link e (go n k node at)
  where
    go : (n k node : ℕ) → n + suc k ≡ node → suc n + k ≡ node
    go n k node at = omega (arith, at)

log_at : (s : Session) (c : Course) (node : ℕ) (link : Link) → link_of node c.links ≡ Some link → IsLogAt (report_of s c) node (link_log node link)
log_at s c zero link e = absurd (none_some link e)
log_at s c (suc k) link e = place_at 1 k (suc k) c.links link e (go k)
  where
    go : (k : ℕ) → 1 + k ≡ suc k
    go k = omega arith

module _ (s : Session) (client : IsSchema s.client) (server : IsSchema s.server) (judged : IsJudged s) where
  -- ---- what came for a call answers it

  abbrev Crowded : ℕ → Sending → Type 0
  Crowded node x = IsCrowded s (report_of s (ended s s.events)) node (sent_row s x.spec x.id)

  -- the servant's response to a call, or that of a full queue, in these bytes
  abbrev IsOwn : ℕ → Sending → Response → List ℕ → Type 0
  IsOwn node x response bytes =
      (IsAnswerFrame s x.spec x.id bytes × (response_of s (request_of s x.spec x.id) (answer_to s x.spec) ≡ Some response))
      ⊎ (IsOverloadFrame s x.spec x.id bytes × (response ≡ code_alone (request_of s x.spec x.id) OVERLOAD) × Crowded node x)

  named_own : (id : ℕ) (response : Response) → response.id ≡ pos id → (other : ℕ) → named_id response.id ≡ other → id ≡ other
  named_own id response is other names = sym (ap named_id is) ∙ names

  module _ (node : ℕ) (link : Link) (found : link_of node (ended s s.events).links ≡ Some link) where
    crowd : (x : Sending) → IsBehind s client server judged node link found x → Crowded node x
    crowd x behind =
        record {
          log = link_log node link;
          log_is = log_at s (ended s s.events) node link found;
          place = behind.place;
          sent = behind.sent;
          behind = behind.behind;
        }

    -- bytes that read as a response which names an id
    record IsNamedOwn (bytes : List ℕ) (response : Response) : Type 0 where
      sending : Sending
      place : ℕ
      call : Noted
      life : Life
      call_is : IsCallAt (ended s s.events) place call
      opened_so : call.stage ≡ opened life
      is : sending ≡ record { spec = call.spec; id = life.id }
      names : response.id ≡ pos sending.id
      own : IsOwn node sending response bytes

    reply_own : (bytes : List ℕ) (response : Response) → IsReply s client server judged node link found bytes → read_response bytes ≡ Some response → IsNamedOwn bytes response
    reply_own bytes response reply reads = by_kind reply.replies
      where
        x : Sending
        x = reply.sending

        sent : IsSentCall s x.spec x.id
        sent = sent_so s client server judged x reply.of

        of_own : response.id ≡ pos x.id → IsOwn node x response bytes → IsNamedOwn bytes response
        of_own names own =
            record {
              sending = x;
              place = reply.of.place;
              call = reply.of.call;
              life = reply.of.life;
              call_is = reply.of.call_is;
              opened_so = reply.of.opened_so;
              is = reply.of.is;
              names = names;
              own = own;
            }

        by_kind : IsAnswerFrame s x.spec x.id bytes ⊎ (IsOverloadFrame s x.spec x.id bytes × IsBehind s client server judged node link found x) → IsNamedOwn bytes response
        by_kind (inl frame) =
            let served = served_frame s client server judged x.spec sent.call x.id sent.small bytes frame in
            let same : response ≡ served.response = served.framed.read response reads in
            of_own (ap (λ (r : Response). r.id) same ∙ served.framed.names) (inl (frame, served.response_is ∙ ap Some (sym same)))
        by_kind (inr full) =
            let framed = refused_frame s client server judged x.spec sent.call x.id sent.small bytes full.0 in
            let same : response ≡ code_alone (request_of s x.spec x.id) OVERLOAD = framed.read response reads in
            of_own (ap (λ (r : Response). r.id) same) (inr (full.0, same, crowd x full.1))

    own_call : (k : ℕ) (call : Noted) (life : Life) → IsCallAt (ended s s.events) k call → call.stage ≡ opened life → (bytes : List ℕ) (response : Response) → IsNamedOwn bytes response
        → named_id response.id ≡ life.id → IsOwn node (record { spec = call.spec; id = life.id }) response bytes
    own_call k call life e is_opened_so bytes response named names = subst (λ (x : Sending). IsOwn node x response bytes) (named.is ∙ same_sending) named.own
      where
        ids : named.life.id ≡ life.id
        ids = sym (ap (λ (x : Sending). x.id) named.is) ∙ named_own named.sending.id response named.names life.id names

        calls : named.call ≡ call
        calls =
            some_same named.call call
            (sym named.call_is ∙ (ap (λ i. slice_get (ended s s.events).calls i)
            (ids_differ s s.events named.place k named.call call named.life life named.call_is e named.opened_so is_opened_so ids) ∙ e))

        same_sending : (let a : Sending = record { spec = named.call.spec; id = named.life.id } in a) ≡ record { spec = call.spec; id = life.id }
        same_sending = ap (λ (n : Noted). record { spec = n.spec; id = named.life.id }) calls ∙ ap (λ i. record { spec = call.spec; id = i }) ids

  came_own : (k : ℕ) (call : Noted) (life : Life) → IsCallAt (ended s s.events) k call → call.stage ≡ opened life → (node packet : ℕ) (response : Response)
      → (came : CameFor s (ended s s.events) life.id node packet response) → IsOwn node (record { spec = call.spec; id = life.id }) response came.bytes
  came_own k call life e is_opened_so node packet response came = by_link (link_of node (ended s s.events).links) refl came.used.2
    where
      by_link : (o : Option Link) → link_of node (ended s s.events).links ≡ o → slice_get (got_of o) came.used.0 ≡ Some (record { packet = came.bytes; fate = Used (record { 0 = life.id }) })
          → IsOwn node (record { spec = call.spec; id = life.id }) response came.bytes
      by_link None is g = absurd (none_some _ g)
      by_link (Some link) is g =
          own_call node link is k call life e is_opened_so came.bytes response
          (reply_own node link is came.bytes response (got_reply s client server judged node link is came.used.0 _ g) came.reads) came.names

  -- a call that a packet ended was sent that packet
  ended_came : (k : ℕ) (call : Noted) → IsCallAt (ended s s.events) k call → (life : Life) (node packet : ℕ) (response : Response) → call.stage ≡ opened life
      → life.fate ≡ Some (replied node packet response) → CameFor s (ended s s.events) life.id node packet response
  ended_came k call e life node packet response is_opened_so fate_is =
      subst (λ (f : Option Fate). FateHasCause s (ended s s.events) life.id f) fate_is
      (subst (λ (t : Stage). HasCause s (ended s s.events) t) is_opened_so (runs_caused s s.events k call e))

  -- ---- the rows

  abbrev SaysOrRefuses : CallSpec → ℕ → End → Type 0
  SaysOrRefuses spec id end = Says s spec id (answer_to s spec) end ⊎ IsOverloaded s (report_of s (ended s s.events)) spec id end

  own_says : (node packet : ℕ) (x : Sending) → IsSentCall s x.spec x.id → (response : Response) (bytes : List ℕ) → IsOwn node x response bytes → SaysOrRefuses x.spec x.id (reply_end s x.spec.func node packet response)
  unfolding reply_end
  own_says node packet x sent response bytes (inl own) = inl (served_says s client server judged x.spec sent.call x.id sent.small node packet response own.1)
  own_says node packet x sent response bytes (inr own) =
      inr (subst (λ (r : Response). IsOverloaded s (report_of s (ended s s.events)) x.spec x.id (reply_end s x.spec.func node packet r)) (sym own.1) (refl, own.2))

  said_row : (k : ℕ) (row : Row) (text : Scripted) (id : CallId) (node packet : ℕ) → IsRowOf s k row → IsScriptedAt s k text → row.id ≡ Some id → packet_of row.end ≡ Some (node, packet)
      → SaysOrRefuses text.spec id.0 row.end
  said_row k row text id node packet of e row_id ends =
      subst (λ (i : CallId). SaysOrRefuses text.spec i.0 row.end) ids
      (subst (λ (p : CallSpec). SaysOrRefuses p by.life.id row.end) (of.is_as.spec ∙ ap (λ (t : Scripted). t.spec) (some_same of.text text (sym of.text_is ∙ e)))
      (subst (λ (r : Row). SaysOrRefuses of.call.spec by.life.id r.end) (sym of.row_is)
      (subst (λ (t : Stage). SaysOrRefuses of.call.spec by.life.id (stage_end s of.call.spec.func t)) (sym by.opened_so)
      (subst (λ (f : Option Fate). SaysOrRefuses of.call.spec by.life.id (fate_end s of.call.spec.func f)) (sym by.fate_is)
      (own_says node packet (record { spec = of.call.spec; id = by.life.id }) (sent_call s judged k of.call by.life of.call_is by.opened_so) by.response came.bytes
      (came_own k of.call by.life of.call_is by.opened_so node packet by.response came))))))
    where
      by : IsEndedBy of.call.stage node packet
      by = ended_by s of.call.spec.func of.call.stage node packet (sym (ap (λ (r : Row). packet_of r.end) of.row_is) ∙ ends)

      came : CameFor s (ended s s.events) by.life.id node packet by.response
      came = ended_came k of.call of.call_is by.life node packet by.response by.opened_so by.fate_is

      ids : record { 0 = by.life.id } ≡ id
      ids = some_same (record { 0 = by.life.id }) id (sym (ap id_of by.opened_so) ∙ (sym (ap (λ (r : Row). r.id) of.row_is) ∙ row_id))

  -- ---- the packets

  abbrev IsFrame : ℕ → CallSpec → ℕ → List ℕ → Type 0
  IsFrame node spec id bytes = IsAnswerFrame s spec id bytes ⊎ (IsOverloadFrame s spec id bytes × IsCrowded s (report_of s (ended s s.events)) node (sent_row s spec id))

  own_frame : (node : ℕ) (x : Sending) (response : Response) (bytes : List ℕ) → IsOwn node x response bytes → IsFrame node x.spec x.id bytes
  own_frame node x response bytes (inl own) = inl own.0
  own_frame node x response bytes (inr own) = inr (own.0, own.2)

  -- a packet that settled the call with an id came for it
  used_own : (k : ℕ) (call : Noted) (life : Life) → IsCallAt (ended s s.events) k call → call.stage ≡ opened life → (node j : ℕ) (bytes : List ℕ) (id : CallId) → life.id ≡ id.0
      → slice_get (got_at (ended s s.events) node) j ≡ Some (record { packet = bytes; fate = Used id }) → IsFrame node call.spec life.id bytes
  used_own k call life e is_opened_so node j bytes id own_id used =
      subst (λ frame. IsFrame node call.spec life.id frame) (sym same_bytes)
      (subst (λ i. IsFrame node call.spec i came.bytes) (named.ends.id_is ∙ sym own_id)
      (subst (λ (n : Noted). IsFrame node n.spec named.ends.life.id came.bytes) calls
      (own_frame node (record { spec = named.call.spec; id = named.ends.life.id }) named.response came.bytes
      (came_own named.place named.call named.ends.life named.call_is named.ends.life_is node (suc j) named.response came))))
    where
      named : IsNamed (ended s s.events) node (suc j) id.0
      named = runs_named s s.events node j bytes id used

      came : CameFor s (ended s s.events) named.ends.life.id node (suc j) named.response
      came = ended_came named.place named.call named.call_is named.ends.life node (suc j) named.response named.ends.life_is named.ends.fate_is

      same_bytes : bytes ≡ came.bytes
      same_bytes =
          ap (λ (r : GotRow). r.packet)
          (some_same _ _ (sym used ∙ (ap (λ i. slice_get (got_at (ended s s.events) node) i) (ap pred came.used.1) ∙ came.used.2)))

      calls : named.call ≡ call
      calls =
          some_same named.call call
          (sym named.call_is ∙ (ap (λ i. slice_get (ended s s.events).calls i)
          (ids_differ s s.events named.place k named.call call named.ends.life life named.call_is e named.ends.life_is is_opened_so (named.ends.id_is ∙ sym own_id)) ∙ e))

  packet_row : (k : ℕ) (row : Row) (text : Scripted) (id : CallId) (node packet : ℕ) (bytes : List ℕ) → IsRowOf s k row → IsScriptedAt s k text → row.id ≡ Some id
      → IsUsedRow (report_of s (ended s s.events)) node packet bytes id → IsFrame node text.spec id.0 bytes
  packet_row k row text id node packet bytes of e row_id used =
      let life = opened_under of.call.stage id (sym (ap (λ (r : Row). r.id) of.row_is) ∙ row_id) in
      subst (λ i. IsFrame node text.spec i bytes) life.2
      (subst (λ (p : CallSpec). IsFrame node p life.0.id bytes) (of.is_as.spec ∙ ap (λ (t : Scripted). t.spec) (some_same of.text text (sym of.text_is ∙ e)))
      (used_own k of.call life.0 of.call_is life.1 node used.0 bytes id life.2 (sym (ap (λ g. slice_get g used.0) (logs_got s (ended s s.events) node)) ∙ used.2)))

  -- ---- calls to which nothing is answered

  only_refused : (spec : CallSpec) (id : ℕ) (end : End) → answer_to s spec ≡ nothing → SaysOrRefuses spec id end → IsOverloaded s (report_of s (ended s s.events)) spec id end
  only_refused spec id end silent (inl says) = absurd (subst (λ a. Says s spec id a end) silent says)
  only_refused spec id end silent (inr full) = full

  pub answered_law : IsAnswered s (planned s)
  unfolding planned
  answered_law =
      record {
        rows = λ k row text id node packet e t row_id ends. said_row k row text id node packet (row_is_of s k row e) t row_id ends;
        packets = λ k row text id node packet bytes e t row_id used. packet_row k row text id node packet bytes (row_is_of s k row e) t row_id used;
        none = λ k row text id node packet e t row_id silent ends. only_refused text.spec id.0 row.end silent (said_row k row text id node packet (row_is_of s k row e) t row_id ends);
      }
