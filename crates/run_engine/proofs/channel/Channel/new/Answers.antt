use Rattle.run_engine.proofs.Channels.{new_reads}
use Rattle.run_engine.proofs.channel.Channel.new.Goals as goal
use Rattle.std.proofs.Common.{refl}

pub returns : goal.returns
returns c = new_reads _ c.new.ensures.items c.in_ok-new.ensures.made refl
