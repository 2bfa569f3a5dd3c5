use Rattle.std.proofs.Common.{arith}
use Rattle.rpc_packet.proofs.FrameSplit.{open_length, open_front, open_middle, open_tail}
use Rattle.rpc_packet.proofs.parts.parts.Goals as goal

pub slice_bounds-front-end : goal.slice_bounds-front-end
slice_bounds-front-end c =
    let whole = open_length c.args.longest.now c.args.id_at c.args.timeout_at c.requires in
    omega (arith, whole, c.requires.id_place, c.requires.timeout_place)

pub slice_bounds-middle-end : goal.slice_bounds-middle-end
slice_bounds-middle-end c =
    let whole = open_length c.args.longest.now c.args.id_at c.args.timeout_at c.requires in
    omega (arith, whole, c.requires.id_place, c.requires.timeout_place)

pub slice_bounds-tail-count : goal.slice_bounds-tail-count
slice_bounds-tail-count c =
    let whole = open_length c.args.longest.now c.args.id_at c.args.timeout_at c.requires in
    omega (arith, whole)

pub slice_bounds-tail-start : goal.slice_bounds-tail-start
slice_bounds-tail-start c =
    let whole = open_length c.args.longest.now c.args.id_at c.args.timeout_at c.requires in
    omega (arith, whole)

pub returns-clause-front : goal.returns-clause-front
returns-clause-front c = open_front c.args.longest.now c.args.id_at c.args.timeout_at c.requires

pub returns-clause-middle : goal.returns-clause-middle
returns-clause-middle c = open_middle c.args.longest.now c.args.id_at c.args.timeout_at c.requires

pub returns-clause-tail : goal.returns-clause-tail
returns-clause-tail c = open_tail c.args.longest.now c.args.id_at c.args.timeout_at c.requires
