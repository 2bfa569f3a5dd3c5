use Rattle.std.proofs.Common.{◌<◌, ℕ, get_or, [], Err, ap, arith}
use Rattle.tars_wire.proofs.Scanning.Verdicts.{taken_is_body, stop_is_one, left_within}
use Rattle.tars_wire.proofs.scanner.body.scan.Goals as goal

pub new-requires : goal.new-requires
new-requires c =
    let fits : (i : ℕ) → get_or c.args.bytes.now i 0 < 256 = λ i. omega (arith, c.type_inv.bytes i) in
    taken_is_body c.args.bytes.now fits [] c.in-Ok.ensures

pub overflow_sub-result : goal.overflow_sub-result
overflow_sub-result c = left_within c.args.bytes.now c.in-Err.stop c.in-Err.ensures

pub returns-in-Err-clause-only : goal.returns-in-Err-clause-only
returns-in-Err-clause-only c =
    let fits : (i : ℕ) → get_or c.args.bytes.now i 0 < 256 = λ i. omega (arith, c.type_inv.bytes i) in
    λ b. absurd ((stop_is_one c.args.bytes.now fits c.in-Err.stop c.in-Err.ensures).is_fault.no_body b)

pub returns-in-Err-clause-fault : goal.returns-in-Err-clause-fault
returns-in-Err-clause-fault c =
    let fits : (i : ℕ) → get_or c.args.bytes.now i 0 < 256 = λ i. omega (arith, c.type_inv.bytes i) in
    (stop_is_one c.args.bytes.now fits c.in-Err.stop c.in-Err.ensures).is_fault

pub returns-in-Err-clause-refused : goal.returns-in-Err-clause-refused
returns-in-Err-clause-refused c =
    let fits : (i : ℕ) → get_or c.args.bytes.now i 0 < 256 = λ i. omega (arith, c.type_inv.bytes i) in
    λ fault is_fault. ap Err ((stop_is_one c.args.bytes.now fits c.in-Err.stop c.in-Err.ensures).only fault is_fault)
