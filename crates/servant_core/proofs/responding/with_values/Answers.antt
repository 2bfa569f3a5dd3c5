use Rattle.std.proofs.Common.{◌∙◌, ◌≡◌, arith}
use Rattle.std.proofs.lemmas.Grind.{common_steps}
use Rattle.tars_model.specs.Members.{reply_members_of}
use Rattle.tars_codec.specs.Written.{written}
use Rattle.servant_core.proofs.Lengths.{long_values}
use Rattle.servant_core.proofs.responding.with_values.Goals as goal

pub returns-then-encoded_len : goal.returns-then-encoded_len
returns-then-encoded_len c =
    let is : c.as_slice-members.result.now ≡ reply_members_of c.args.func.now = grind (arith, common_steps) in
    let told = rw is at c.encoded_len.ensures in
    c.code_alone.ensures ∙ long_values c.args.request.now (written c.args.schema.now (reply_members_of c.args.func.now) c.args.values.now) (omega (arith, told, c.if-encoded_len.true))
