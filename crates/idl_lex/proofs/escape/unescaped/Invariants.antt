use Rattle.std.proofs.Common.{◌≡◌, ◌++◌, drop}
use Rattle.idl_lex.specs.EscapeSteps.{unescaped_from, unescaped}
use Rattle.idl_lex.proofs.escape.unescaped.Given as goal

abbrev pub invariant-loop-byte : goal.invariant-loop-byte
invariant-loop-byte l = l.plain.items ++ unescaped_from l.escape (drop l.byte-index l.bytes) ≡ unescaped l.bytes
