use Rattle.std.proofs.Common.{◌≡◌, take, map}
use Rattle.tars_model.specs.declared.value.Value.{out-Value}
use Rattle.tars_decode.specs.Reads.{byte_of}
use Rattle.tars_decode.proofs.reading.vectors.bytes_of.Given as goal

abbrev pub invariant-loop-value : goal.invariant-loop-value
invariant-loop-value l = l.bytes.items ≡ map (λ v. byte_of (out-Value v)) (take l.value-index l.values)
