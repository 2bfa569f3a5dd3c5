use Rattle.std.proofs.Common.{rules, ◌≡◌, ◌∙◌, Some, Err, option_map, drop, ap, sym}
use Rattle.tars_model.specs.Declarations.{nothing_declared}
use Rattle.tars_frames.specs.Streams.{LENGTH_BYTES}
use Rattle.rpc_packet.specs.Bodies.{values_of}
use Rattle.rpc_packet.specs.Packets.{response_members, response_in, read_response}
use Rattle.rpc_packet.proofs.BodyReads.{refused_too}
use Rattle.rpc_packet.proofs.MemberLaws.{response_readable}
use Rattle.rpc_packet.proofs.packets.Packets.read_response.Goals as goal

pub read_values-requires-clause-members : goal.read_values-requires-clause-members
read_values-requires-clause-members c = rw (c.as_slice.ensures, c.self.invariant.1) response_readable

pub returns-in_err-values-clause-read : goal.returns-in_err-values-clause-read
unfolding read_response
returns-in_err-values-clause-read c =
    let why = c.in_err-values.field-0.0 in
    let values = values_of nothing_declared response_members (drop LENGTH_BYTES c.args.packet.now) in
    let refused = refused_too response_in why values (rw (c.as_slice.ensures, c.self.invariant.1) at c.in_err-values.ensures.read) in
    let is : c.from_residual.result ≡ Err why = search rules in
    rw is refused

pub returns-in-Ok-clause-read : goal.returns-in-Ok-clause-read
unfolding read_response
returns-in-Ok-clause-read c =
    let read = rw (c.as_slice.ensures, c.self.invariant.1) at c.in_ok-values.ensures.read in
    ap (option_map response_in) read ∙ ap Some (sym c.in-Ok.ensures.said)
