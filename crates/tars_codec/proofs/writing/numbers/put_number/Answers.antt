use Rattle.wire_words.specs.Spelling.{spelled_number}
use Rattle.tars_codec.proofs.Shortest.{shortest_zero, shortest_int1, shortest_int2, shortest_int4, shortest_int8}
use Rattle.tars_codec.proofs.writing.numbers.put_number.Goals as goal

pub put_head-requires : goal.put_head-requires
unfolding spelled_number
put_head-requires c = rw (shortest_zero c.args.number c.ranges.number c.if-number-eq0.true) at c.requires

pub returns-then-number-eq0 : goal.returns-then-number-eq0
unfolding spelled_number
returns-then-number-eq0 c = rw (shortest_zero c.args.number c.ranges.number c.if-number-eq0.true) c.put_head.ensures

pub put_i8-requires : goal.put_i8-requires
put_i8-requires c =
    let ok = c.in-Ok.ensures in
    rw (shortest_int1 c.args.number c.in-Ok.number c.ranges.number c.if-number-eq0.false ok.0 ok.1) at c.requires

pub returns-in-Ok : goal.returns-in-Ok
returns-in-Ok c =
    let ok = c.in-Ok.ensures in
    rw (shortest_int1 c.args.number c.in-Ok.number c.ranges.number c.if-number-eq0.false ok.0 ok.1) c.put_i8.ensures

pub put_i16-requires : goal.put_i16-requires
put_i16-requires c =
    let ok = c.in-Ok-try_from.ensures in
    rw (shortest_int2 c.args.number c.in-Ok-try_from.number c.ranges.number c.if-number-eq0.false c.in_default.ensures ok.0 ok.1) at c.requires

pub returns-in-Ok-try_from : goal.returns-in-Ok-try_from
returns-in-Ok-try_from c =
    let ok = c.in-Ok-try_from.ensures in
    rw (shortest_int2 c.args.number c.in-Ok-try_from.number c.ranges.number c.if-number-eq0.false c.in_default.ensures ok.0 ok.1) c.put_i16.ensures

pub put_i32-requires : goal.put_i32-requires
put_i32-requires c =
    let ok = c.in-Ok-try_from-2.ensures in
    rw (shortest_int4 c.args.number c.in-Ok-try_from-2.number c.ranges.number c.if-number-eq0.false c.in_default.ensures c.in_default-try_from.ensures ok.0 ok.1) at c.requires

pub returns-in-Ok-try_from-2 : goal.returns-in-Ok-try_from-2
returns-in-Ok-try_from-2 c =
    let ok = c.in-Ok-try_from-2.ensures in
    rw (shortest_int4 c.args.number c.in-Ok-try_from-2.number c.ranges.number c.if-number-eq0.false c.in_default.ensures c.in_default-try_from.ensures ok.0 ok.1) c.put_i32.ensures

pub put_i64-requires : goal.put_i64-requires
put_i64-requires c =
    rw (shortest_int8 c.args.number c.ranges.number c.if-number-eq0.false c.in_default.ensures c.in_default-try_from.ensures c.in_default-try_from-2.ensures) at c.requires

pub returns-in_default-try_from-2 : goal.returns-in_default-try_from-2
returns-in_default-try_from-2 c =
    rw (shortest_int8 c.args.number c.ranges.number c.if-number-eq0.false c.in_default.ensures c.in_default-try_from.ensures c.in_default-try_from-2.ensures) c.put_i64.ensures
