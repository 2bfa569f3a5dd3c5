use Rattle.std.proofs.Common.{◌+◌, sym, ap, ◌∙◌, w64}
use Rattle.std.proofs.lemmas.Int.{to_z-of_z}
use Rattle.wire_words.specs.Spelling.{shortest}
use Rattle.tars_decode.specs.Reads.{bytes_of}
use Rattle.tars_codec.proofs.Sizes.{number_size}
use Rattle.tars_codec.proofs.lengths.fields.number_len.Goals as goal

pub returns-clause-value : goal.returns-clause-value
returns-clause-value c =
    ap (λ n. c.head_len.result + n) (c.width.ensures.value ∙ ap (λ n. bytes_of (shortest n)) (to_z-of_z w64 c.args.number c.ranges.number))
    ∙ sym (number_size c.args.tag (shortest c.args.number) c.head_len.result c.head_len.ensures.value)
