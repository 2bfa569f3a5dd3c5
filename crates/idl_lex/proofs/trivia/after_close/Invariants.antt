use Rattle.idl_lex.specs.LexSteps.{after_close}
use Rattle.std.proofs.Common.{◌≡◌, length}
use Rattle.idl_lex.proofs.trivia.after_close.Given as goal

abbrev pub invariant-loop-bytes : goal.invariant-loop-bytes
invariant-loop-bytes l = after_close l.bytes ≡ after_close l.initial.bytes

abbrev pub decreases-loop-bytes : goal.decreases-loop-bytes
decreases-loop-bytes l = length l.bytes
