use Rattle.std.proofs.Common.{◌∙◌, sym, ap}
use Rattle.wire_words.specs.Spelling.{spelled_number}
use Rattle.rpc_packet.proofs.ShortForms.{int_zero, int_of_byte, int_of_short, int_of_int}
use Rattle.rpc_packet.proofs.short_number.ShortNumber.new.Goals as goal

pub returns-then-number-eq0 : goal.returns-then-number-eq0
returns-then-number-eq0 c = c.zero.ensures ∙ sym (ap (spelled_number c.args.tag) (int_zero c.args.number c.ranges.number c.if-number-eq0.true))

pub returns-in-Ok : goal.returns-in-Ok
returns-in-Ok c =
    let ok = c.in-Ok.ensures in
    c.of_byte.ensures ∙ sym (ap (spelled_number c.args.tag) (int_of_byte c.args.number c.ranges.number c.if-number-eq0.false c.in-Ok.number ok.0 ok.1))

pub returns-in-Ok-try_from : goal.returns-in-Ok-try_from
returns-in-Ok-try_from c =
    let ok = c.in-Ok-try_from.ensures in
    c.of_short.ensures
    ∙ sym (ap (spelled_number c.args.tag) (int_of_short c.args.number c.ranges.number c.if-number-eq0.false c.in-Ok-try_from.number c.in_default.ensures ok.0 ok.1))

pub returns-in_default-try_from : goal.returns-in_default-try_from
returns-in_default-try_from c =
    c.of_int.ensures
    ∙ sym (ap (spelled_number c.args.tag) (int_of_int c.args.number c.ranges.number c.if-number-eq0.false c.in_default.ensures c.in_default-try_from.ensures))
