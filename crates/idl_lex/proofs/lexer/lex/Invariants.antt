use Rattle.std.proofs.Common.{length}
use Rattle.idl_lex.specs.Tokens.{AreLexemes}
use Rattle.idl_lex.proofs.lexer.lex.Given as goal

abbrev pub invariant-lexemes : goal.invariant-lexemes
invariant-lexemes l = AreLexemes (length l.text) l.text l.tokens l.rest

abbrev pub decreases-lexemes : goal.decreases-lexemes
decreases-lexemes l = length l.rest
