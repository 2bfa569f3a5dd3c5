use Rattle.std.proofs.Common.{refl}
use Rattle.run_engine.proofs.Nodes.{all_led, leads_on}
use Rattle.run_engine.proofs.serving.serve_all.Goals as goal

pub loop-packet-init : goal.loop-packet-init
loop-packet-init c = λ n at t. record { here = n; side = t; ends = refl }

pub loop-packet-preserved : goal.loop-packet-preserved
loop-packet-preserved c = λ n at t.
    let l = c.loop-packet.invariant n at t in
    leads_on c.args.service.now c.args.now c.loop-packet.node c.serve_one.new.node c.loop-packet.to_caller c.serve_one.new.to_caller at c.args.news.now c.loop-packet.packet-index c.packet-item.result _
    c.loop-packet-test.true c.packet-item.is l (c.in_ok-serve_one.ensures l.here at l.side)

pub returns : goal.returns
returns c = λ n at t.
    all_led c.args.service.now c.args.now c.loop-packet.node c.loop-packet.to_caller at c.args.news.now c.loop-packet.packet-index _ c.loop-packet-test.false (c.loop-packet.invariant n at t)
