use Rattle.std.proofs.Common.{◌<◌, ℕ, List, sym, subst}
use Rattle.std.specs.List.{All}
use Rattle.std.proofs.lemmas.List.Elements.{All-from_get_or}
use Rattle.tars_model.specs.declared.value.Value.{Value}
use Rattle.tars_wire.specs.Heads.{MAX_DEPTH}
use Rattle.tars_wire.specs.Spelled.{Spelled}
use Rattle.tars_decode.specs.Decoding.{Answers}
use Rattle.tars_decode.specs.Reads.{Read}
use Rattle.tars_codec.specs.Written.{fields_of}
use Rattle.tars_codec.proofs.ReadBack.{written_reads}
use Rattle.tars_codec.proofs.reading.decode.Goals as goal

abbrev IsByte : ℕ → Type 0
IsByte b = b < 256

pub returns-clause-written : goal.returns-clause-written
returns-clause-written c = λ values fit shallow is.
    let d = c.args.schema.now in
    let members = c.args.members.now in
    let fields = fields_of d members values in
    let bytes = subst (All IsByte) is (All-from_get_or IsByte c.args.bytes.now 0 (λ i within. (c.type_inv.bytes i).fits)) in
    let read = written_reads d members values c.order-order.ensures.rules c.requires.members shallow fit bytes in
    subst (λ (r : Read (List Value)). Answers c.decode.result r) read.1
    (c.decode.ensures.reads fields (subst (λ (bs : List ℕ). Spelled MAX_DEPTH bs fields) (sym is) read.0))
