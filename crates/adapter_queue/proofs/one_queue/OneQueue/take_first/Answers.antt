use Rattle.std.proofs.Common.{sym}
use Rattle.adapter_queue.proofs.Runs.{took_first}
use Rattle.adapter_queue.proofs.one_queue.OneQueue.take_first.Goals as goal

pub returns : goal.returns
returns g c =
    took_first c.args.self.now c.self.inside.capacity c.self.inside.timeout c.args.now c.self.inside.items.items c.pop_front.new.self.items
    c.in_ok-first.first c.taken.result (sym c.self.view_is) c.in_ok-first.ensures.items c.taken.ensures
