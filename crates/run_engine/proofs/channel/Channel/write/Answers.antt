use Rattle.std.proofs.lemmas.Result.{on_ok_weaker}
use Rattle.run_engine.proofs.Channels.{write_reads}
use Rattle.run_engine.proofs.channel.Channel.write.Goals as goal
use Rattle.std.proofs.Common.{refl}

pub returns : goal.returns
returns c = λ stream at reads.
    on_ok_weaker c.extend_from_slice.result (λ waiting. write_reads c.args.self.now _ stream c.args.bytes.now at waiting refl refl reads) c.extend_from_slice.ensures.ok
