-- What passes on a link.
use Rattle.std.proofs.Common.{◌≡◌, ℕ, List, [], ◌∷◌, ◌++◌, map, take, Option, None, sym, ap, ◌∙◌, subst, append-nil}
use Rattle.std.specs.Prelude.{filter_map, fold}
use Rattle.std.proofs.lemmas.List.{map-append}
use Rattle.tars_frames.specs.Streams.{LONGEST, joined}
use Rattle.tars_frames.specs.Cutting.{rest_of}
use Rattle.tars_frames.proofs.CallerLemmas.{joined-append}
use Rattle.rpc_packet.specs.Packets.{read_request}
use Rattle.script_session.specs.declared.link_log.LinkLog.{LinkLog}
use Rattle.script_session.specs.declared.link_log.SentRow.{SentRow}
use Rattle.script_session.specs.declared.session.Session.{Session}
use Rattle.run_course.specs.Courses.{Link, unused, news, read_to, requests_stream, answers_stream, sends, serves, worked}
use Rattle.run_course.specs.Nodes.{fresh, offers, works}
use Rattle.run_course.specs.Planned.{link_log}
use Rattle.run_engine.specs.declared.channel.Channel.{Channel}
use Rattle.run_engine.specs.declared.link_ends.LinkEnds.{LinkEnds}
use Rattle.run_engine.specs.declared.node.NodeEnd.{NodeEnd}
use Rattle.run_engine.specs.Tracks.{Reads, TracksNode, TracksSide, TracksLink}

pub nothing_passed : (s : Session) (ends : LinkEnds) → Reads ends.to_node [] 0 → Reads ends.to_caller [] 0 → TracksNode s ends.node fresh → ends.sent.items ≡ [] → ends.got.items ≡ []
    → TracksLink s ends unused
nothing_passed s ends requests answers node sent got = record {
  requests = requests;
  side = record { node = node; answers = answers };
  sent_is = sent;
  got_is = got;
}

-- a frame more is sent
pub sent_tracks : (s : Session) (old new : LinkEnds) (link : Link) (row : SentRow) (frame : List ℕ) → TracksLink s old link → frame ≡ row.frame
    → Reads new.to_node (requests_stream link ++ frame) link.served
    → new.to_caller ≡ old.to_caller → new.node ≡ old.node → new.sent.items ≡ old.sent.items ++ row ∷ [] → new.got ≡ old.got
    → TracksLink s new (sends row link)
sent_tracks s old new link row frame t same written caller node sent got = record {
  requests = subst (λ stream. Reads new.to_node stream link.served) (ap (λ f. requests_stream link ++ f) same ∙ sym longer) written;
  side = record {
    node = subst (λ (end : NodeEnd). TracksNode s end link.node) (sym node) t.side.node;
    answers = subst (λ (channel : Channel). Reads channel (answers_stream link) link.delivered) (sym caller) t.side.answers;
  };
  sent_is = sent ∙ ap (λ rows. rows ++ row ∷ []) t.sent_is;
  got_is = ap (λ g. g.items) got ∙ t.got_is;
}
  where
    joined-one : (frames : List (List ℕ)) (frame : List ℕ) → joined (frames ++ frame ∷ []) ≡ joined frames ++ frame
    joined-one frames frame = joined-append frames (frame ∷ []) ∙ ap (λ bytes. joined frames ++ bytes) (append-nil frame)

    longer : requests_stream (sends row link) ≡ requests_stream link ++ row.frame
    longer = ap joined (map-append (λ (r : SentRow). r.frame) link.sent (row ∷ [])) ∙ joined-one (map (λ (r : SentRow). r.frame) link.sent) row.frame

-- requests that get whole are offered
pub served_tracks : (s : Session) (old new : LinkEnds) (link : Link) (now : ℕ) (bytes : Option ℕ) (packets : List (List ℕ)) → TracksLink s old link
    → Reads new.to_node (requests_stream link) (read_to link.served bytes (requests_stream link))
    → packets ≡ news link.served (read_to link.served bytes (requests_stream link)) (requests_stream link)
    → TracksSide s new.node new.to_caller (fold (offers s now) link.node (filter_map read_request packets)) link.delivered
    → new.sent ≡ old.sent → new.got ≡ old.got → TracksLink s new (serves s now bytes link)
unfolding serves
served_tracks s old new link now bytes packets t reads fresh side sent got = record {
  requests = reads;
  side = subst (λ ps. TracksSide s new.node new.to_caller (fold (offers s now) link.node (filter_map read_request ps)) link.delivered) fresh side;
  sent_is = ap (λ rows. rows.items) sent ∙ t.sent_is;
  got_is = ap (λ g. g.items) got ∙ t.got_is;
}

-- a request is taken
pub worked_tracks : (s : Session) (old new : LinkEnds) (link : Link) (now : ℕ) → TracksLink s old link
    → TracksSide s new.node new.to_caller (works s now link.node) link.delivered
    → new.to_node ≡ old.to_node → new.sent ≡ old.sent → new.got ≡ old.got → TracksLink s new (worked s now link)
worked_tracks s old new link now t side node sent got = record {
  requests = subst (λ (channel : Channel). Reads channel (requests_stream link) link.served) (sym node) t.requests;
  side = side;
  sent_is = ap (λ rows. rows.items) sent ∙ t.sent_is;
  got_is = ap (λ g. g.items) got ∙ t.got_is;
}

-- ---- the log

pub log_is : (s : Session) (ends : LinkEnds) (link : Link) (node : ℕ) (log : LinkLog) (rest : List ℕ) → TracksLink s ends link
    → ((stream : List ℕ) (at : ℕ) → Reads ends.to_caller stream at → rest ≡ rest_of LONGEST (take at stream))
    → log ≡ record { node = node; sent = ends.sent.items; torn = []; got = ends.got.items; rest = rest; cut = None } → log ≡ link_log node link
log_is s ends link node log rest t left is =
    is ∙ ap (λ rows. record { node = node; sent = rows; torn = []; got = ends.got.items; rest = rest; cut = None }) t.sent_is
    ∙ ap (λ rows. record { node = node; sent = link.sent; torn = []; got = rows; rest = rest; cut = None }) t.got_is
    ∙ ap (λ bytes. record { node = node; sent = link.sent; torn = []; got = link.got; rest = bytes; cut = None }) (left (answers_stream link) link.delivered t.side.answers)
