use Rattle.std.proofs.Common.{arith}
use Rattle.schema_files.proofs.FileReading.{not_read, read_long, read_whole}
use Rattle.schema_files.proofs.file_reading.read_file.Goals as goal

pub returns-in_err-bytes-clause-exact : goal.returns-in_err-bytes-clause-exact
returns-in_err-bytes-clause-exact g c =
    not_read _ (g.F.Files.contents c.args.files.now) c.args.name.now c.in_err-bytes.field-0.0 c.from_residual.result c.from_residual.ensures

pub returns-then-len-gt-MAX_FILE-clause-exact : goal.returns-then-len-gt-MAX_FILE-clause-exact
returns-then-len-gt-MAX_FILE-clause-exact g c =
    read_long _ (g.F.Files.contents c.args.files.now) c.args.name.now c.in_ok-bytes.bytes c.in_ok-bytes.ensures.bytes
    (omega (arith, c.in_ok-bytes.bytes.ok, c.in_ok-bytes.ensures.within))
    (omega (arith, c.in_ok-bytes.bytes.ok, c.if-len-gt-MAX_FILE.true, c.len.ensures)) c.refused.result (rw c.as_bytes.ensures.value at c.refused.ensures)

pub returns-clause-exact : goal.returns-clause-exact
returns-clause-exact g c =
    read_whole _ (g.F.Files.contents c.args.files.now) c.args.name.now c.in_ok-bytes.bytes c.in_ok-bytes.ensures.bytes
    (omega (arith, c.in_ok-bytes.bytes.ok, c.if-len-gt-MAX_FILE.false, c.len.ensures))
