use Rattle.rpc_packet.specs.Packets.{number_at}
use Rattle.rpc_packet.proofs.Taken.{fits_byte, byte_kept}
use Rattle.rpc_packet.proofs.reading.kind_at.Goals as goal

pub overflow_cast-result : goal.overflow_cast-result
overflow_cast-result c = fits_byte c.number_at.result (number_at c.args.values.now c.args.place) c.number_at.type_inv c.number_at.ensures c.requires

pub returns : goal.returns
returns c = byte_kept c.number_at.result (number_at c.args.values.now c.args.place) c.number_at.type_inv c.number_at.ensures c.requires
