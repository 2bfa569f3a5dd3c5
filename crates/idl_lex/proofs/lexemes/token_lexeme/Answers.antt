use Rattle.std.proofs.Common.{rules}
use Rattle.idl_lex.proofs.Lexing.Lexemes.LexemeLaws.{comment_bad, text_lexeme}
use Rattle.idl_lex.proofs.lexemes.token_lexeme.Goals as goal

pub returns-in-47-clause-fault : goal.returns-in-47-clause-fault
returns-in-47-clause-fault c = comment_bad c.args.bytes.now (search rules) c.requires.no_trivia

pub returns-in_ok-after_text-in-34-clause-token : goal.returns-in_ok-after_text-in-34-clause-token
returns-in_ok-after_text-in-34-clause-token c = text_lexeme c.args.bytes.now c.in_ok-after_text-in-34.field-0.now c.in_ok-after_text-in-34.ensures.text
