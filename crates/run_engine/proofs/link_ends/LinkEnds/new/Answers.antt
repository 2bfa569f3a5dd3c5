use Rattle.run_engine.proofs.Links.{nothing_passed}
use Rattle.run_engine.proofs.link_ends.LinkEnds.new.Goals as goal

pub returns : goal.returns
returns c = nothing_passed c.args.service.now _ c.in_ok-new.ensures c.in_ok-new-2.ensures c.in_ok-new-3.ensures c.new-4.ensures.items c.new-5.ensures.items
