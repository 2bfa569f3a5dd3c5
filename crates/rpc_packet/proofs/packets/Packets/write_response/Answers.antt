use Rattle.std.proofs.Common.{rules}
use Rattle.rpc_packet.specs.Packets.{response_frame}
use Rattle.rpc_packet.proofs.ComesBack.{response_back}
use Rattle.rpc_packet.proofs.ValuesFit.{HasResponseNumbers}
use Rattle.rpc_packet.proofs.MemberLaws.{response_rises}
use Rattle.rpc_packet.proofs.packets.Packets.write_response.Goals as goal

pub frame-requires-clause-rising : goal.frame-requires-clause-rising
frame-requires-clause-rising c = rw (c.as_slice.ensures, c.self.invariant.1) response_rises

pub frame-requires-clause-fits : goal.frame-requires-clause-fits
frame-requires-clause-fits c = rw (c.as_slice.ensures, c.self.invariant.1) c.in_ok-values.ensures.fits

pub returns-clause-written : goal.returns-clause-written
unfolding response_frame
returns-clause-written c = rw (c.as_slice.ensures, c.self.invariant.1, c.in_ok-values.ensures.value) at c.frame.ensures.written

pub returns-clause-limit : goal.returns-clause-limit
unfolding response_frame
returns-clause-limit c = rw (c.as_slice.ensures, c.self.invariant.1, c.in_ok-values.ensures.value) at c.frame.ensures.limit

numbers : (c : goal.After-array_drop-values) → HasResponseNumbers c.args.response
numbers c = record { version = search rules; kind = search rules; id = search rules; message = search rules; ret = search rules }

pub returns-clause-back : goal.returns-clause-back
returns-clause-back c =
    response_back c.args.response c.frame.result (numbers c) c.requires.answerable (returns-clause-written c) c.frame.ensures.bytes
