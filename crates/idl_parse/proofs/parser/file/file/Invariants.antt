use Rattle.std.proofs.Common.{◌≡◌, length}
use Rattle.idl_parse.specs.ReadSteps.{file_at}
use Rattle.idl_parse.proofs.Parsing.Deriving.FileSteps.{with_entries}
use Rattle.idl_parse.proofs.parser.file.file.Given as goal

abbrev pub invariant-rest : goal.invariant-rest
invariant-rest l = with_entries l.entries (file_at 16 l.tokens) ≡ file_at 16 l.fn.tokens

abbrev pub decreases-rest : goal.decreases-rest
decreases-rest l = length l.tokens
