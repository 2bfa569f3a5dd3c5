use Rattle.run_engine.proofs.Channels.{rest_left}
use Rattle.run_engine.proofs.channel.Channel.rest.Goals as goal
use Rattle.std.proofs.Common.{◌∙◌}

pub returns : goal.returns
returns c = λ stream at reads. c.rest.ensures.value ∙ rest_left c.args.self.now stream at reads
