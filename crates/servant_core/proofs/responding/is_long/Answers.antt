use Rattle.std.proofs.Common.{arith}
use Rattle.servant_core.proofs.Lengths.{long_body, short_body}
use Rattle.servant_core.proofs.responding.is_long.Goals as goal

pub returns-then-body-gt-MAX_PACKET : goal.returns-then-body-gt-MAX_PACKET
returns-then-body-gt-MAX_PACKET c = long_body c.args.request.now c.args.body.now c.if-body-gt-MAX_PACKET.true

pub returns-then-body : goal.returns-then-body
returns-then-body c = short_body c.args.request.now c.args.body.now (omega (arith, c.if-body.true))
