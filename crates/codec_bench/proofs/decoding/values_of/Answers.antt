use Rattle.tars_decode.proofs.CallerLemmas.{struct_members_fit}
use Rattle.codec_bench.proofs.decoding.values_of.Goals as goal

pub decode-requires-clause-members : goal.decode-requires-clause-members
decode-requires-clause-members c = rw c.members_at.ensures (struct_members_fit c.order.ensures.rules c.args.number)
