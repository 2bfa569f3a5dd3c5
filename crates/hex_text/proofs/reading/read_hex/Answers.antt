use Rattle.std.proofs.Common.{length, sym, ◌∙◌}
use Rattle.hex_text.proofs.Prefixes.{all_of_fault, all_of_bytes}
use Rattle.hex_text.proofs.Steps.{stops_here, spelt_at_end, fault_at_end}
use Rattle.hex_text.proofs.reading.read_hex.Goals as goal

pub returns-in_default : goal.returns-in_default
returns-in_default c =
    let all = all_of_fault c.args.text.now c.loop-at.at (stops_here _ c.args.text.now c.loop-at.at c.loop-at.bytes.items c.loop-at.high c.loop-at.invariant.so_far c.loop-at-test.true (sym c.part_of.ensures.part ∙ c.in_default.is)) in
    record { judged = all.0; bytes = all.1; fault = all.2 }

pub returns-in-None : goal.returns-in-None
returns-in-None c =
    let all = all_of_bytes c.args.text.now c.loop-at.bytes.items (spelt_at_end _ c.args.text.now c.loop-at.at c.loop-at.bytes.items c.loop-at.high c.loop-at.invariant.so_far c.loop-at-test.false c.in-None.is) in
    record { judged = all.0; bytes = all.1; fault = all.2 }

pub returns-in-Some-high : goal.returns-in-Some-high
returns-in-Some-high c =
    let all = all_of_fault c.args.text.now (length c.args.text.now) (fault_at_end _ c.args.text.now c.loop-at.at c.loop-at.bytes.items c.loop-at.high c.loop-at.invariant.so_far c.loop-at-test.false c.in-Some-high.field-0 c.in-Some-high.is c.loop-at.auto.at-end) in
    record { judged = all.0; bytes = all.1; fault = all.2 }
