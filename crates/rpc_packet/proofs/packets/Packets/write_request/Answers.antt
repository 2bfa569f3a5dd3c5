use Rattle.std.proofs.Common.{rules}
use Rattle.rpc_packet.specs.Packets.{request_frame}
use Rattle.rpc_packet.proofs.ComesBack.{request_back}
use Rattle.rpc_packet.proofs.ValuesFit.{HasRequestNumbers}
use Rattle.rpc_packet.proofs.MemberLaws.{request_rises}
use Rattle.rpc_packet.proofs.packets.Packets.write_request.Goals as goal

pub frame-requires-clause-rising : goal.frame-requires-clause-rising
frame-requires-clause-rising c = rw (c.as_slice.ensures, c.self.invariant.0) request_rises

pub frame-requires-clause-fits : goal.frame-requires-clause-fits
frame-requires-clause-fits c = rw (c.as_slice.ensures, c.self.invariant.0) c.in_ok-values.ensures.fits

pub returns-clause-written : goal.returns-clause-written
unfolding request_frame
returns-clause-written c = rw (c.as_slice.ensures, c.self.invariant.0, c.in_ok-values.ensures.value) at c.frame.ensures.written

pub returns-clause-limit : goal.returns-clause-limit
unfolding request_frame
returns-clause-limit c = rw (c.as_slice.ensures, c.self.invariant.0, c.in_ok-values.ensures.value) at c.frame.ensures.limit

numbers : (c : goal.After-array_drop-values) → HasRequestNumbers c.args.request
numbers c = record { version = search rules; kind = search rules; message = search rules; id = search rules; timeout = search rules }

pub returns-clause-back : goal.returns-clause-back
returns-clause-back c =
    request_back c.args.request c.frame.result (numbers c) c.requires.sendable (returns-clause-written c) c.frame.ensures.bytes
