use Rattle.rpc_packet.proofs.CallerLemmas.{within_answerable}
use Rattle.run_engine.proofs.node.frame_of.Goals as goal

pub write_response-requires : goal.write_response-requires
write_response-requires c =
    let w = rw c.in-Some.is at c.requires in
    record { answerable = within_answerable c.in-Some.response w.status w.within }
