use Rattle.idl_lex.specs.Tokens.IsLexeme.{trivia}
use Rattle.idl_lex.proofs.Lexing.Lexemes.TriviaLaws.{trivia_is}
use Rattle.idl_lex.proofs.lexemes.lexeme.Goals as goal

pub returns-in-Some-clause-lexeme : goal.returns-in-Some-clause-lexeme
returns-in-Some-clause-lexeme c = trivia (trivia_is c.args.bytes.now c.in-Some.rest.now c.in-Some.ensures)
