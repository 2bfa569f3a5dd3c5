use Rattle.tars_decode.proofs.CallerLemmas.{struct_members_fit}
use Rattle.codec_bench.proofs.encoding.body_of.Goals as goal

pub encode-requires-clause-rising : goal.encode-requires-clause-rising
encode-requires-clause-rising c = rw c.members_at.ensures (struct_members_fit c.order.ensures.rules c.args.number).rising
