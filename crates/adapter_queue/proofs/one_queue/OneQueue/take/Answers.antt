use Rattle.adapter_queue.proofs.Runs.{took_next}
use Rattle.adapter_queue.proofs.one_queue.OneQueue.take.Goals as goal

pub returns-clause-after : goal.returns-clause-after
returns-clause-after g c accepted taken after = took_next c.args.self.now c.take_first.new.self c.args.now c.take_first.result accepted taken c.take_first.ensures after
