-- What was read on a link is what the bytes say.
use Rattle.std.proofs.Common.{◌≡◌, ◌≤◌, ◌+◌, ℕ, zero, suc, List, [], ◌∷◌, ◌++◌, length, map, take, drop, Option, Some, None, refl, sym, ap, ◌∙◌, subst, arith}
use Rattle.std.specs.Prelude.{fold, filter_map}
use Rattle.std.proofs.lemmas.List.{map-append, append-nil, length-append, length-drop, take-append-le}
use Rattle.std.proofs.Math.Seq.{drop-append_seam}
use Rattle.std.proofs.lemmas.List.Elements.{filter_map-append}
use Rattle.script_session.specs.declared.link_log.GotFate.TheVariants.{Used, Late}
use Rattle.script_session.specs.declared.link_log.GotRow.{GotRow}
use Rattle.script_session.specs.declared.link_log.SentRow.{SentRow}
use Rattle.tars_frames.specs.Streams.{LONGEST, joined}
use Rattle.tars_frames.specs.Cutting.{packets_of, rest_of, is_refused}
use Rattle.tars_frames.proofs.CallerLemmas.{joined-append, carried_on}
use Rattle.rpc_packet.specs.Packets.{read_request}
use Rattle.script_session.specs.declared.session.Session.{Session}
use Rattle.run_course.specs.Nodes.{Offer, Node, offers, works}
use Rattle.run_course.specs.Courses.{Noted, Link, Desk, count_of, read_to, packets_to, news, requests_stream, answers_stream, sends, serves, worked, named_id, came, delivers}
use Rattle.run_course.specs.Legal.{IsRead}
use Rattle.run_course.proofs.Lists.{of_cond}
use Rattle.run_course.proofs.Got.{came_by}
use Rattle.run_course.proofs.Nodes.{requests_of, IsKept, WritesOn, TakesIn, TakesOut, all_in, works_out}

-- ---- places in a stream

count_within : (bytes : Option ℕ) (waiting : ℕ) → count_of bytes waiting ≤ waiting
count_within None waiting = omega arith
count_within (Some most) waiting = omega arith

length_drop : (at : ℕ) (stream : List ℕ) → at ≤ length stream → at + length (drop at stream) ≤ length stream
length_drop at stream within = let long = length-drop at stream in omega (arith, long, within)

-- a read goes on, within the stream
pub record Goes (at to : ℕ) (stream : List ℕ) : Type 0 where
  pub further : at ≤ to
  pub within : to ≤ length stream

pub read_goes : (at : ℕ) (bytes : Option ℕ) (stream : List ℕ) → at ≤ length stream → Goes at (read_to at bytes stream) stream
unfolding read_to
read_goes at bytes stream within =
    of_cond (is_refused LONGEST (take at stream)) (λ to. Goes at to stream) at (at + count_of bytes (length (drop at stream)))
    (λ refused. record { further = omega arith; within = within })
    (λ well. more (count_of bytes (length (drop at stream))) (length (drop at stream)) (count_within bytes (length (drop at stream))) (length_drop at stream within))
  where
    more : (n m : ℕ) → n ≤ m → at + m ≤ length stream → Goes at (at + n) stream
    more n m e f = record { further = omega arith; within = omega arith }

take_more : (at to : ℕ) (stream : List ℕ) → at ≤ to → (more : List ℕ) × (take to stream ≡ take at stream ++ more)
take_more zero to stream further = (take to stream, refl)
take_more (suc at) zero stream further = absurd (omega arith)
take_more (suc at) (suc to) [] further = ([], refl)
take_more (suc at) (suc to) (byte ∷ stream) further =
    let found = take_more at to stream (omega arith) in (found.0, ap (λ bytes. byte ∷ bytes) found.1)

-- the packets that get whole follow those before
pub news_follow : (at to : ℕ) (stream : List ℕ) → at ≤ to → packets_to to stream ≡ packets_to at stream ++ news at to stream
unfolding news
news_follow at to stream further = go (take_more at to stream further)
  where
    after : (P Q whole : List (List ℕ)) → whole ≡ P ++ Q → whole ≡ P ++ drop (length P) whole
    after P Q whole e = e ∙ ap (λ rest. P ++ rest) (sym (ap (λ w. drop (length P) w) e ∙ drop-append_seam P Q))

    go : ((more : List ℕ) × (take to stream ≡ take at stream ++ more)) → packets_to to stream ≡ packets_to at stream ++ drop (length (packets_to at stream)) (packets_to to stream)
    go found =
        after (packets_to at stream) (packets_of LONGEST (rest_of LONGEST (take at stream) ++ found.0)) (packets_to to stream)
        (ap (λ bytes. packets_of LONGEST bytes) found.1 ∙ (carried_on LONGEST (take at stream) found.0).0)

-- a longer stream has the same packets up to a place
pub packets_stay : (at : ℕ) (stream more : List ℕ) → at ≤ length stream → packets_to at (stream ++ more) ≡ packets_to at stream
packets_stay at stream more within = ap (λ bytes. packets_of LONGEST bytes) (take-append-le at stream more within)

longer : (at : ℕ) (stream more : List ℕ) → at ≤ length stream → at ≤ length (stream ++ more)
longer at stream more within = let long = length-append stream more in omega (arith, long, within)

-- ---- events on a link

requests_longer : (row : SentRow) (link : Link) → requests_stream (sends row link) ≡ requests_stream link ++ (row.frame ++ [])
requests_longer row link = ap joined (map-append (λ (r : SentRow). r.frame) link.sent (row ∷ [])) ∙ joined-append (map (λ (r : SentRow). r.frame) link.sent) (row.frame ∷ [])

pub sends_read : (s : Session) (row : SentRow) (link : Link) → IsRead s link → IsRead s (sends row link)
sends_read s row link read =
    record {
      served_within = subst (λ stream. link.served ≤ length stream) (sym (requests_longer row link)) (longer link.served (requests_stream link) (row.frame ++ []) read.served_within);
      requests = read.requests ∙ ap (λ packets. filter_map read_request packets)
          (sym (ap (λ stream. packets_to link.served stream) (requests_longer row link) ∙ packets_stay link.served (requests_stream link) (row.frame ++ []) read.served_within));
      taken_within = read.taken_within;
      room = read.room;
      answers = read.answers;
      order = read.order;
      delivered_within = read.delivered_within;
      packets = read.packets;
    }

-- a node reads on, and writes on
node_read : (s : Session) (link : Link) (to : ℕ) (node : Node) → IsRead s link → to ≤ length (requests_stream link)
    → requests_of node ≡ filter_map read_request (packets_to to (requests_stream link)) → IsKept s node → WritesOn link.node node
    → IsRead s (record link { served = to; node = node })
node_read s link to node read within offered kept written =
    let stream : joined node.answers ≡ answers_stream link ++ joined written.more = ap joined written.after ∙ joined-append link.node.answers written.more in
    record {
      served_within = within;
      requests = offered;
      taken_within = kept.taken_within;
      room = kept.room;
      answers = kept.answers;
      order = kept.order;
      delivered_within = subst (λ bytes. link.delivered ≤ length bytes) (sym stream) (longer link.delivered (answers_stream link) (joined written.more) read.delivered_within);
      packets = read.packets ∙ sym (ap (λ bytes. packets_to link.delivered bytes) stream ∙ packets_stay link.delivered (answers_stream link) (joined written.more) read.delivered_within);
    }

node_kept : (s : Session) (link : Link) → IsRead s link → IsKept s link.node
node_kept s link read = record { taken_within = read.taken_within; room = read.room; answers = read.answers; order = read.order }

pub serves_read : (s : Session) (moment : ℕ) (bytes : Option ℕ) (link : Link) → IsRead s link → IsRead s (serves s moment bytes link)
unfolding serves
serves_read s moment bytes link read =
    node_read s link to (fold (offers s moment) link.node (filter_map read_request fresh)) read goes.within
    (offered.offered ∙ (ap (λ before. before ++ filter_map read_request fresh) read.requests
    ∙ (sym (filter_map-append read_request (packets_to link.served (requests_stream link)) fresh)
    ∙ ap (λ packets. filter_map read_request packets) (sym (news_follow link.served to (requests_stream link) goes.further)))))
    (offered.kept (node_kept s link read)) offered.written
  where
    to : ℕ
    to = read_to link.served bytes (requests_stream link)

    fresh : List (List ℕ)
    fresh = news link.served to (requests_stream link)

    goes : Goes link.served to (requests_stream link)
    goes = read_goes link.served bytes (requests_stream link) read.served_within

    offered : TakesIn s link.node (fold (offers s moment) link.node (filter_map read_request fresh)) (filter_map read_request fresh)
    offered = all_in s moment (filter_map read_request fresh) link.node

pub worked_read : (s : Session) (now : ℕ) (link : Link) → IsRead s link → IsRead s (worked s now link)
worked_read s now link read =
    let out : TakesOut s link.node (works s now link.node) = works_out s now link.node in
    node_read s link link.served (works s now link.node) read read.served_within (ap (λ xs. map (λ (offer : Offer). offer.request) xs) out.offered ∙ read.requests)
    (out.kept (node_kept s link read)) out.written

-- ---- the caller reads

abbrev packets_got : List GotRow → List (List ℕ)
packets_got rows = map (λ (row : GotRow). row.packet) rows

-- of a link the packets that were got change alone, by these
pub record Gets (old new : Link) (packets : List (List ℕ)) : Type 0 where
  pub rest_is : new ≡ record old { got = new.got }
  pub got_is : packets_got new.got ≡ packets_got old.got ++ packets

pub came_gets : (s : Session) (node : ℕ) (d : Desk) (packet : List ℕ) → Gets d.link (came s node d packet).link (packet ∷ [])
came_gets s node d packet =
    came_by s node (λ e. Gets d.link e.link (packet ∷ [])) d packet
    (record { rest_is = refl; got_is = map-append (λ (row : GotRow). row.packet) d.link.got (record { packet = packet; fate = Late 0 } ∷ []) })
    (λ r reads any. record { rest_is = refl; got_is = map-append (λ (row : GotRow). row.packet) d.link.got (record { packet = packet; fate = Used (record { 0 = named_id r.id }) } ∷ []) })

gets_none : (link : Link) → Gets link link []
gets_none link = record { rest_is = refl; got_is = sym (append-nil (packets_got link.got)) }

join_more : (xs : List (List ℕ)) (packet : List ℕ) (packets : List (List ℕ)) → (xs ++ packet ∷ []) ++ packets ≡ xs ++ packet ∷ packets
join_more [] packet packets = refl
join_more (x ∷ xs) packet packets = ap (λ ys. x ∷ ys) (join_more xs packet packets)

gets_more : (a b c : Link) (packet : List ℕ) (packets : List (List ℕ)) → Gets a b (packet ∷ []) → Gets b c packets → Gets a c (packet ∷ packets)
gets_more a b c packet packets first later =
    record {
      rest_is = later.rest_is ∙ ap (λ (l : Link). record l { got = c.got }) first.rest_is;
      got_is = later.got_is ∙ (ap (λ xs. xs ++ packets) first.got_is ∙ join_more (packets_got a.got) packet packets);
    }

pub all_get : (s : Session) (node : ℕ) (packets : List (List ℕ)) (d : Desk) → Gets d.link (fold (came s node) d packets).link packets
all_get s node [] d = gets_none d.link
all_get s node (packet ∷ packets) d =
    gets_more d.link (came s node d packet).link (fold (came s node) (came s node d packet) packets).link packet packets
    (came_gets s node d packet) (all_get s node packets (came s node d packet))

pub delivers_read : (s : Session) (node : ℕ) (bytes : Option ℕ) (calls : List Noted) (link : Link) → IsRead s link → IsRead s (delivers s node bytes calls link).link
unfolding delivers
delivers_read s node bytes calls link read =
    let gets = all_get s node fresh begin in
    subst (λ (l : Link). IsRead s l) (sym gets.rest_is) (with_rows (fold (came s node) begin fresh).link.got gets.got_is)
  where
    to : ℕ
    to = read_to link.delivered bytes (answers_stream link)

    fresh : List (List ℕ)
    fresh = news link.delivered to (answers_stream link)

    begin : Desk
    begin = record { calls = calls; link = record link { delivered = to } }

    goes : Goes link.delivered to (answers_stream link)
    goes = read_goes link.delivered bytes (answers_stream link) read.delivered_within

    with_rows : (rows : List GotRow) → packets_got rows ≡ packets_got link.got ++ fresh → IsRead s (record link { delivered = to; got = rows })
    with_rows rows e =
        record {
          served_within = read.served_within;
          requests = read.requests;
          taken_within = read.taken_within;
          room = read.room;
          answers = read.answers;
          order = read.order;
          delivered_within = goes.within;
          packets = e ∙ (ap (λ packets. packets ++ fresh) read.packets ∙ sym (news_follow link.delivered to (answers_stream link) goes.further));
        }
