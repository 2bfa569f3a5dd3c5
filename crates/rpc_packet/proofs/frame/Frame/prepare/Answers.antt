use Rattle.std.proofs.Common.{rules, ◌≡◌, ◌∙◌, ◌≤◌, ◌-◌, ◌^◌, List, ℕ, length, min, vec_capacity, Err, lit<, sym, arith, subst}
use Rattle.tars_frames.specs.Streams.{LONGEST}
use Rattle.rpc_packet.specs.FrameParts.{front_of, middle_of}
use Rattle.rpc_packet.specs.Outcomes.{IsSendable}
use Rattle.rpc_packet.specs.Packets.{request_frame}
use Rattle.rpc_packet.specs.Prepared.{at_longest}
use Rattle.rpc_packet.specs.declared.request.Request.{Request}
use Rattle.rpc_packet.proofs.MemberLaws.{request_rises}
use Rattle.rpc_packet.proofs.Preparing.{the_frame, front_told, middle_told, refused_alike, prepared_said, front_small, middle_small, prepared_open}
use Rattle.rpc_packet.proofs.ValuesFit.{HasRequestNumbers}
use Rattle.rpc_packet.proofs.frame.Frame.prepare.Goals as goal

pub frame-requires-clause-rising : goal.frame-requires-clause-rising
frame-requires-clause-rising c = rw c.request_members-members.ensures request_rises

pub returns-in_err-longest-clause-limit : goal.returns-in_err-longest-clause-limit
returns-in_err-longest-clause-limit c =
    let why = c.in_err-longest.field-0.0 in
    let same = the_frame (at_longest c.args.request) c.request_members-members.result.now c.in_ok-values.values c.request_members-members.ensures c.in_ok-values.ensures.value in
    let is : c.from_residual-in_err-longest.result ≡ Err why = search rules in
    rw is (refused_alike (List ℕ) Request _ (request_frame (at_longest c.args.request)) why same c.in_err-longest.ensures.limit)

module _ (c : goal.In_ok-room) where
  numbers : HasRequestNumbers (at_longest c.args.request)
  numbers = record { version = search rules; kind = search rules; message = search rules; id = lit< tt; timeout = lit< tt }

  sendable : IsSendable (at_longest c.args.request)
  sendable = record {
    servant = c.requires.sendable.servant;
    func = c.requires.sendable.func;
    body = c.requires.sendable.body;
    context = c.requires.sendable.context;
    status = c.requires.sendable.status;
  }

  longest_is : c.in_ok-longest.longest ≡ request_frame (at_longest c.args.request)
  longest_is =
      c.in_ok-longest.ensures.written
      ∙ the_frame (at_longest c.args.request) c.request_members-members.result.now c.in_ok-values.values c.request_members-members.ensures c.in_ok-values.ensures.value

  within : length c.in_ok-longest.longest ≤ LONGEST
  within = subst (λ (bytes : List ℕ). length bytes ≤ LONGEST) (sym c.in_ok-longest.ensures.written) c.in_ok-longest.ensures.limit

  front : c.lengths-front.result.0 ≡ min (length (front_of (at_longest c.args.request))) (2 ^ 64 - 1)
  front = front_told (at_longest c.args.request) c.in_ok-values.values c.lengths-front.result.0 c.in_ok-values.ensures.value c.lengths-front.ensures.front

  middle : c.lengths-front.result.1 ≡ min (length (middle_of (at_longest c.args.request))) (2 ^ 64 - 1)
  middle = middle_told (at_longest c.args.request) c.in_ok-values.values c.lengths-front.result.1 c.in_ok-values.ensures.value c.lengths-front.ensures.middle

  front_few : c.lengths-front.result.0 ≤ LONGEST
  front_few = front_small c.args.request numbers sendable c.in_ok-longest.longest longest_is c.in_ok-longest.ensures.bytes within c.lengths-front.result.0 c.lengths-front.result.1 front middle

  middle_few : c.lengths-front.result.1 ≤ LONGEST
  middle_few = middle_small c.args.request numbers sendable c.in_ok-longest.longest longest_is c.in_ok-longest.ensures.bytes within c.lengths-front.result.0 c.lengths-front.result.1 front middle

pub overflow_add-id_at : goal.overflow_add-id_at
overflow_add-id_at c = record { fits = omega (arith, front_few c) }

pub overflow_add-result : goal.overflow_add-result
overflow_add-result c = record { fits = omega (arith, front_few c) }

pub overflow_add-result-2 : goal.overflow_add-result-2
overflow_add-result-2 c = record { fits = omega (arith, front_few c, middle_few c) }

pub invariant_of-result : goal.invariant_of-result
invariant_of-result c = (
  prepared_open c.args.request (numbers c) (sendable c) c.in_ok-longest.longest (longest_is c) c.in_ok-longest.ensures.bytes (within c) c.lengths-front.result.0 c.lengths-front.result.1 (front c) (middle c),
  record { items = c.in_ok-room.ensures.items; len = c.in_ok-room.ensures.len },
  subst (λ (bytes : List ℕ). length bytes ≤ vec_capacity c.in_ok-room.room) c.as_slice.ensures c.in_ok-room.ensures.capacity,
)

pub returns-clause-request : goal.returns-clause-request
returns-clause-request c =
    prepared_said c.args.request (numbers c.before) (sendable c.before) c.in_ok-longest.longest (longest_is c.before) c.in_ok-longest.ensures.bytes (within c.before)

pub returns-clause-limit : goal.returns-clause-limit
returns-clause-limit c = subst (λ (bytes : List ℕ). length bytes ≤ LONGEST) (longest_is c.before) (within c.before)
