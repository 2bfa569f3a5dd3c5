use Rattle.tars_command.proofs.Comings.{encode_comes, decode_comes, compat_comes}
use Rattle.tars_command.proofs.command.text_of.Goals as goal

pub returns-in-Encode-clause-exact : goal.returns-in-Encode-clause-exact
returns-in-Encode-clause-exact g c =
    let on = c.in-Encode.field-0 in
    rw c.in-Encode.is
    (encode_comes _ (g.F.Files.contents c.args.files.now) on.file.now on.of.«module».now on.of.name.now on.values.now c.encode_text.result (rw c.in-Encode.field-0-is at c.encode_text.ensures.exact))

pub returns-in-Decode-clause-exact : goal.returns-in-Decode-clause-exact
returns-in-Decode-clause-exact g c =
    let on = c.in-Decode.field-0 in
    rw c.in-Decode.is
    (decode_comes _ (g.F.Files.contents c.args.files.now) on.file.now on.of.«module».now on.of.name.now on.values.now c.decode_text.result (rw c.in-Decode.field-0-is at c.decode_text.ensures.exact))

pub returns-in-Compat-clause-exact : goal.returns-in-Compat-clause-exact
returns-in-Compat-clause-exact g c =
    let on = c.in-Compat.field-0 in
    rw c.in-Compat.is
    (compat_comes _ (g.F.Files.contents c.args.files.now) on.old.now on.new.now on.of.«module».now on.of.name.now c.compat_text.result (rw c.in-Compat.field-0-is at c.compat_text.ensures.exact))
