use Rattle.std.proofs.Common.{◌<◌, ℕ}
use Rattle.std.proofs.lemmas.List.Elements.{All-from_get_or}
use Rattle.tars_decode.specs.declared.halt.Refusal.TheVariants as refusal
use Rattle.servant_core.proofs.Reading.{values_read, values_refused, values_malformed}
use Rattle.servant_core.proofs.answering.read_values.Goals as goal

abbrev IsByte : ℕ → Type 0
IsByte byte = byte < 256

pub returns-in-Ok-clause-values : goal.returns-in-Ok-clause-values
returns-in-Ok-clause-values c =
    values_read c.args.schema.now c.args.members.now c.args.bytes.now c.in-Ok.values
    (All-from_get_or IsByte c.args.bytes.now 0 (λ i within. (c.type_inv.bytes i).fits)) c.in-Ok.ensures.judged c.in-Ok.ensures.reads

pub returns-in-Err-Malformed-clause-values : goal.returns-in-Err-Malformed-clause-values
returns-in-Err-Malformed-clause-values c =
    let judged = rw c.in-Err-Malformed.field-0-is at c.in-Err-Malformed.ensures.judged in
    values_malformed c.args.schema.now c.args.members.now c.args.bytes.now c.in-Err-Malformed.field-0-0 judged

pub returns-in-Err-Missing-clause-values : goal.returns-in-Err-Missing-clause-values
returns-in-Err-Missing-clause-values c =
    let judged = rw c.in-Err-Missing.field-0-is at c.in-Err-Missing.ensures.judged in
    let reads = rw c.in-Err-Missing.field-0-is at c.in-Err-Missing.ensures.reads in
    values_refused c.args.schema.now c.args.members.now c.args.bytes.now (refusal.Missing c.in-Err-Missing.field-0-0)
    (All-from_get_or IsByte c.args.bytes.now 0 (λ i within. (c.type_inv.bytes i).fits)) judged reads

pub returns-clause-values : goal.returns-clause-values
returns-clause-values c =
    let judged = rw c.in-Err-Mismatch.field-0-is at c.in-Err-Mismatch.ensures.judged in
    let reads = rw c.in-Err-Mismatch.field-0-is at c.in-Err-Mismatch.ensures.reads in
    values_refused c.args.schema.now c.args.members.now c.args.bytes.now (refusal.Mismatch c.in-Err-Mismatch.field-0-0 c.in-Err-Mismatch.field-0-1)
    (All-from_get_or IsByte c.args.bytes.now 0 (λ i within. (c.type_inv.bytes i).fits)) judged reads
