-- What a read of the caller changes.
use Rattle.std.proofs.Common.{◌≡◌, ℕ, suc, Bool, true, false, cond, List, [], ◌∷◌, ◌++◌, length, map, Option, Some, None, refl, sym, ap, ◌∙◌, subst}
use Rattle.std.specs.Prelude.{◌==◌, ◌&&◌, ◌||◌, fold}
use Rattle.std.specs.List.{list_any, cons_option}
use Rattle.run_course.proofs.Lists.{fold_keeps}
use Rattle.run_course.proofs.Got.{came_by}
use Rattle.script_session.specs.declared.link_log.GotFate.{GotFate}
use Rattle.script_session.specs.declared.link_log.GotFate.TheVariants.{Used, Late}
use Rattle.script_session.specs.declared.link_log.GotRow.{GotRow}
use Rattle.script_session.specs.declared.session.Session.{Session}
use Rattle.rpc_packet.specs.Packets.{read_response}
use Rattle.rpc_packet.specs.declared.response.Response.{Response}
use Rattle.run_course.specs.Courses as course
use Rattle.run_course.specs.Courses.{Noted, Stage, refused, opened, Life, Desk, named_id, is_open_under, has_id, is_open, settles, settled, ends_with, is_used, is_late, came, came_as, Link, gets, delivers, news, read_to, requests_stream, answers_stream}
use Rattle.run_engine.specs.Claims.{Claim, claim_of_stage, claims_of, is_open_claim, settled_claim, ended, fate_of_reply, claims_after}
use Rattle.run_engine.specs.declared.channel.Channel.{Channel}
use Rattle.run_engine.specs.declared.node.NodeEnd.{NodeEnd}
use Rattle.run_engine.specs.declared.link_ends.LinkEnds.{LinkEnds}
use Rattle.run_engine.specs.Tracks.{Reads, TracksNode, TracksLink, TracksDesk, TracksEnds}

-- ---- the calls of a table are those that were opened

any_of : (id : ℕ) (line : ℕ) (stage : Stage) (calls : List Noted) (claims : List Claim) → list_any (is_open_under id) calls ≡ list_any (is_open_claim id) claims
    → ((has_id id stage && is_open stage) || list_any (is_open_under id) calls) ≡ list_any (is_open_claim id) (cons_option (claim_of_stage line stage) claims)
any_of id line (refused why) calls claims others = others
any_of id line (opened life) calls claims others = ap (λ b. ((life.id == id) && is_open (opened life)) || b) others

pub any_is : (id : ℕ) (calls : List Noted) → list_any (is_open_under id) calls ≡ list_any (is_open_claim id) (claims_of calls)
any_is id [] = refl
any_is id (call ∷ calls) = any_of id call.spec.line call.stage calls (claims_of calls) (any_is id calls)

settled_one : (fate : course.Fate) (line : ℕ) (life : Life) (b : Bool) (claims others : List Claim) → claims ≡ others
    → cons_option (claim_of_stage line (cond b (ends_with fate (opened life)) (opened life))) claims
    ≡ cond b (ended fate (record { line = line; life = life })) (record { line = line; life = life }) ∷ others
settled_one fate line life true claims others e = ap (λ cs. ended fate (record { line = line; life = life }) ∷ cs) e
settled_one fate line life false claims others e = ap (λ cs. record { line = line; life = life } ∷ cs) e

settled_of : (id : ℕ) (fate : course.Fate) (line : ℕ) (stage : Stage) (claims others : List Claim) → claims ≡ map (settled_claim id fate) others
    → cons_option (claim_of_stage line (settled id fate stage)) claims ≡ map (settled_claim id fate) (cons_option (claim_of_stage line stage) others)
settled_of id fate line (refused why) claims others e = e
settled_of id fate line (opened life) claims others e = settled_one fate line life (life.id == id) claims (map (settled_claim id fate) others) e

pub settled_are : (id : ℕ) (fate : course.Fate) (calls : List Noted) → claims_of (map (settles id fate) calls) ≡ map (settled_claim id fate) (claims_of calls)
settled_are id fate [] = refl
settled_are id fate (call ∷ calls) = settled_of id fate call.spec.line call.stage (claims_of (map (settles id fate) calls)) (claims_of calls) (settled_are id fate calls)

-- ---- a packet comes

came_claims : (s : Session) (node : ℕ) (d : Desk) (packet : List ℕ)
    → claims_of (came s node d packet).calls ≡ claims_after node (suc (length d.link.got)) (read_response packet) (claims_of d.calls)
unfolding came
came_claims s node d packet = go (read_response packet)
  where
    used : (r : Response) (b : Bool) → claims_of (cond b (is_used node d packet r) (is_late d packet)).calls
        ≡ cond b (map (settled_claim (named_id r.id) (course.replied node (suc (length d.link.got)) r)) (claims_of d.calls)) (claims_of d.calls)
    used r true = settled_are (named_id r.id) (course.replied node (suc (length d.link.got)) r) d.calls
    used r false = refl

    go : (reply : Option Response) → claims_of (came_as node d packet reply).calls ≡ claims_after node (suc (length d.link.got)) reply (claims_of d.calls)
    go None = refl
    go (Some r) = used r (list_any (is_open_under (named_id r.id)) d.calls)
        ∙ ap (λ b. cond b (map (settled_claim (named_id r.id) (course.replied node (suc (length d.link.got)) r)) (claims_of d.calls)) (claims_of d.calls)) (any_is (named_id r.id) d.calls)

came_got : (s : Session) (node : ℕ) (d : Desk) (packet : List ℕ)
    → (came s node d packet).link.got ≡ d.link.got ++ record { packet = packet; fate = fate_of_reply (read_response packet) (claims_of d.calls) } ∷ []
unfolding came
came_got s node d packet = go (read_response packet)
  where
    after : GotFate → List GotRow
    after fate = d.link.got ++ record { packet = packet; fate = fate } ∷ []

    used : (r : Response) (b : Bool) → (cond b (is_used node d packet r) (is_late d packet)).link.got ≡ after (cond b (Used (record { 0 = named_id r.id })) (Late 0))
    used r true = refl
    used r false = refl

    go : (reply : Option Response) → (came_as node d packet reply).link.got ≡ after (fate_of_reply reply (claims_of d.calls))
    go None = refl
    go (Some r) = used r (list_any (is_open_under (named_id r.id)) d.calls) ∙ ap (λ b. after (cond b (Used (record { 0 = named_id r.id })) (Late 0))) (any_is (named_id r.id) d.calls)

pub one_comes : {T : Type 0} (IsOf : T → List Claim → Type 0) (s : Session) (node number : ℕ) (d : Desk) (packet bytes : List ℕ) (reply : Option Response) (old new : T)
    (got rows : List GotRow) (fate : GotFate) → TracksDesk IsOf old got d → reply ≡ read_response packet → number ≡ suc (length got) → bytes ≡ packet
    → ((claims : List Claim) → IsOf old claims → fate ≡ fate_of_reply reply claims)
    → ((claims : List Claim) → IsOf old claims → IsOf new (claims_after node number reply claims))
    → rows ≡ got ++ record { packet = bytes; fate = fate } ∷ [] → TracksDesk IsOf new rows (came s node d packet)
one_comes IsOf s node number d packet bytes reply old new got rows fate t read count same told settles more = record {
  claims =
      subst (λ claims. IsOf new claims)
      (ap (λ o. claims_after node number o (claims_of d.calls)) read
      ∙ ap (λ n. claims_after node n (read_response packet) (claims_of d.calls)) (count ∙ ap (λ rows. suc (length rows)) t.got_is)
      ∙ sym (came_claims s node d packet))
      (settles (claims_of d.calls) t.claims);
  got_is =
      more ∙ ap (λ rows. rows ++ record { packet = bytes; fate = fate } ∷ []) t.got_is
      ∙ ap (λ p. d.link.got ++ record { packet = p; fate = fate } ∷ []) same
      ∙ ap (λ f. d.link.got ++ record { packet = packet; fate = f } ∷ []) (told (claims_of d.calls) t.claims ∙ ap (λ o. fate_of_reply o (claims_of d.calls)) read)
      ∙ sym (came_got s node d packet);
}

-- what is left leads where all leads
pub record Leads {T : Type 0} (IsOf : T → List Claim → Type 0) (s : Session) (node : ℕ) (table : T) (got : List GotRow) (rest : List (List ℕ)) (end : Desk) : Type 0 where
  pub desk : Desk
  pub tracks : TracksDesk IsOf table got desk
  pub ends : fold (came s node) desk rest ≡ end

pub leads_on : {T : Type 0} (IsOf : T → List Claim → Type 0) (s : Session) (node : ℕ) (old new : T) (got rows : List GotRow) (packet : List ℕ) (all rest : List (List ℕ)) (end : Desk)
    → (l : Leads IsOf s node old got all end) → all ≡ packet ∷ rest → TracksDesk IsOf new rows (came s node l.desk packet) → Leads IsOf s node new rows rest end
leads_on IsOf s node old new got rows packet all rest end l first tracks = record {
  desk = came s node l.desk packet;
  tracks = tracks;
  ends = sym (ap (λ packets. fold (came s node) l.desk packets) first) ∙ l.ends;
}

pub all_led : {T : Type 0} (IsOf : T → List Claim → Type 0) (s : Session) (node : ℕ) (table : T) (got : List GotRow) (rest : List (List ℕ)) (end : Desk)
    → Leads IsOf s node table got rest end → rest ≡ [] → TracksDesk IsOf table got end
all_led IsOf s node table got rest end l none =
    subst (λ (d : Desk). TracksDesk IsOf table got d) (sym (ap (λ packets. fold (came s node) l.desk packets) none) ∙ l.ends) l.tracks

-- ---- a read

-- nothing of the link changes but what was got
came_keeps : (s : Session) (node : ℕ) (packets : List (List ℕ)) (d : Desk) → (fold (came s node) d packets).link ≡ record d.link { got = (fold (came s node) d packets).link.got }
came_keeps s node packets d =
    fold_keeps (λ (e : Desk). e.link ≡ record d.link { got = e.link.got }) (came s node)
    (λ e packet kept. came_by s node (λ (f : Desk). f.link ≡ record d.link { got = f.link.got }) e packet (got_more e packet (Late 0) kept) (λ r read any. got_more e packet (Used (record { 0 = named_id r.id })) kept))
    packets d refl
  where
    got_more : (e : Desk) (packet : List ℕ) (fate : GotFate) → e.link ≡ record d.link { got = e.link.got } → gets e.link packet fate ≡ record d.link { got = (gets e.link packet fate).got }
    got_more e packet fate kept = ap (λ (link : Link). record link { got = e.link.got ++ record { packet = packet; fate = fate } ∷ [] }) kept

pub delivered_tracks : {T : Type 0} (IsOf : T → List Claim → Type 0) (s : Session) (node : ℕ) (bytes : Option ℕ) (calls : List Noted) (link : Link) (packets : List (List ℕ))
    (table : T) (old new : LinkEnds) → TracksLink s old link
    → Reads new.to_caller (answers_stream link) (read_to link.delivered bytes (answers_stream link))
    → packets ≡ news link.delivered (read_to link.delivered bytes (answers_stream link)) (answers_stream link)
    → TracksDesk IsOf table new.got.items
    (fold (came s node) (record { calls = calls; link = record link { delivered = read_to link.delivered bytes (answers_stream link) } }) packets)
    → new.to_node ≡ old.to_node → new.node ≡ old.node → new.sent ≡ old.sent → TracksEnds IsOf s table new (delivers s node bytes calls link)
unfolding delivers
delivered_tracks IsOf s node bytes calls link packets table old new t reads fresh desk requests_is node_is sent =
    subst (λ ps. TracksEnds IsOf s table new (fold (came s node) first ps)) fresh
    (record {
      claims = desk.claims;
      link = subst (λ (l : Link). TracksLink s new l) (sym (came_keeps s node packets first)) (record {
        requests = subst (λ (channel : Channel). Reads channel (requests_stream link) link.served) (sym requests_is) t.requests;
        side = record {
          node = subst (λ (end : NodeEnd). TracksNode s end link.node) (sym node_is) t.side.node;
          answers = reads;
        };
        sent_is = ap (λ rows. rows.items) sent ∙ t.sent_is;
        got_is = desk.got_is;
      });
    })
  where
    first : Desk
    first = record { calls = calls; link = record link { delivered = read_to link.delivered bytes (answers_stream link) } }
